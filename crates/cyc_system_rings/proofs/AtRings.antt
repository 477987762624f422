-- The law of each level, where the ends are those of rings.
use Rattle.std.proofs.Common.{◌≡◌, ℕ, ◌+◌, None, List, ap, arith}
use Rattle.std.specs.Prelude.{map, sum_by, cond, false}
use Rattle.cyc_types.specs.declared.Calls.{Ghosts as Calls}
use Rattle.cyc_types.specs.Levels.{as_level}
use Rattle.cyc_types.specs.Levels as types
use Rattle.cyc_types.specs.Firing.{FiringCall}
use Rattle.cyc_types.specs.Runs.{Goes, raised_by, lost_by}
use Rattle.cyc_types.specs.declared.level.Level.{Level}
use Rattle.cyc_types.specs.declared.level.Level.TheVariants.{Low, Lock, High}
use Rattle.cyc_types.specs.declared.level.Soft.{Soft}
use Rattle.cyc_types.specs.declared.level.Soft.TheVariants as soft
use Rattle.cyc_types.specs.Counting.{no_counts}
use Rattle.ring_rule.specs.Trail.{raises_of, losses_on_trail}
use Rattle.cyc_ring.specs.declared.ends.RaiseEnd.{RaiseEnd}
use Rattle.cyc_ring.specs.declared.closed.Closed.{Closed}
use Rattle.cyc_ring.specs.Ends.{raise_trail, raise_end}
use Rattle.cyc_ring.proofs.Ways.{raise_ways}
use Rattle.cyc_system_workers.specs.Lead.{Lead}
use Rattle.cyc_system_laws.proofs.Sums.{sum_none}
use Rattle.cyc_system_laws.specs.System.{SystemView}
use Rattle.cyc_system_workers.specs.declared.side.SystemSide.{SystemSide}
use Rattle.cyc_system_rings.specs.Leading.{LeadCall}
use Rattle.cyc_system_rings.specs.Rings.{counted_by, counts_in, AreSettledAndClosed}
use Rattle.cyc_system_rings.specs.ByLevel.{level_in, is_own, counts_at, rings_of, made_at, AreServed, LeadsFromNew, HasNewEnds}
use Rattle.cyc_system_rings.specs.ByLevel as by
use Rattle.cyc_system_rings.proofs.Closing.{raised_on_end, dropped_on_end, level_closed, level_served, none_served}
use Rattle.cyc_system_rings.proofs.Levels.{by_level, uncalled, ungiven}

abbrev raised : ℕ → RaiseEnd → ℕ
raised id e = raises_of id (raise_trail e.seat)

abbrev dropped : ℕ → RaiseEnd → ℕ
dropped id e = losses_on_trail id (raise_trail e.seat)

ends_add : (e f : RaiseEnd) (way : List FiringCall) → Goes raise_end e way f → (id : ℕ)
    → (raised id f ≡ raised id e + raised_by id way) × (dropped id f ≡ dropped id e + lost_by id way)
ends_add e f way goes id = let (same, up, down) = raise_ways e f way goes in (up id, down id)

module _ {C : Type 0} (handler : Calls C) (id : ℕ)
    (s t : SystemSide RaiseEnd C) (way : List LeadCall) (l : LeadsFromNew handler s way t) where
  -- what was done of the id at a level: raises on all CPUs, or the calls of all high levels' handlers
  abbrev pub deeds : Level → SystemSide RaiseEnd C → ℕ
  deeds Low x = by.raised_at soft.Low id x.system
  deeds Lock x = by.raised_at soft.Lock id x.system
  deeds High x = counted_by handler.count id x.leads.items

  abbrev pub drops : Level → SystemSide RaiseEnd C → ℕ
  drops Low x = by.dropped_at soft.Low id x.system
  drops Lock x = by.dropped_at soft.Lock id x.system
  drops High x = 0

  pub at_level : (level : Level) → (deeds level t ≡ deeds level s + (counts_at level id way t.system).sent)
      × (drops level t ≡ drops level s + (counts_at level id way t.system).lost)
  at_level Low = by_level handler raise_end raised dropped ends_add id s t way l.begins l.sound l.ready l.run Low
  at_level Lock = by_level handler raise_end raised dropped ends_add id s t way l.begins l.sound l.ready l.run Lock
  at_level High = by_level handler raise_end raised dropped ends_add id s t way l.begins l.sound l.ready l.run High

  pub high_keeps : (counts_at High id way t.system).lost ≡ 0
  high_keeps = let (a, b) = at_level High in omega (arith, b)

  pub not_called : is_own High (level_in id way) ≡ false
      → map (λ (x : Lead C). handler.count x.calls id) t.leads.items ≡ map (λ (x : Lead C). handler.count x.calls id)
      s.leads.items
  not_called = uncalled handler raise_end raised dropped ends_add id s t way l.begins l.sound l.ready l.run

  pub none_given : level_in id way ≡ None → counts_in id way t.system ≡ no_counts
  none_given = ungiven handler raise_end raised dropped ends_add id s t way l.begins l.sound l.ready l.run

-- at ends where nothing was done nothing was raised
module _ (id : ℕ) (s : SystemView RaiseEnd) (new : HasNewEnds s) where
  none_raised : (own : Soft) → by.raised_at own id s ≡ 0
  none_raised soft.Lock = sum_none (raised_on_end soft.Lock id) s.cpus.cpus (λ n x at. ap (raises_of id) (new n x at).0)
  none_raised soft.Low = sum_none (raised_on_end soft.Low id) s.cpus.cpus (λ n x at. ap (raises_of id) (new n x at).1)

  none_dropped : (own : Soft) → by.dropped_at own id s ≡ 0
  none_dropped soft.Lock = sum_none (dropped_on_end soft.Lock id) s.cpus.cpus (λ n x at. ap (losses_on_trail id) (new n x at).0)
  none_dropped soft.Low = sum_none (dropped_on_end soft.Low id) s.cpus.cpus (λ n x at. ap (losses_on_trail id) (new n x at).1)

module _ {C : Type 0} (handler : Calls C) (id : ℕ)
    (s t : SystemSide RaiseEnd C) (way : List LeadCall) (l : LeadsFromNew handler s way t)
    (new : HasNewEnds s.system) (rings : List Closed) (closed : AreSettledAndClosed t.system.cpus.cpus rings) where
  pub made_of : (own : Soft) → made_at own id rings + (counts_at (as_level own) id way t.system).lost
      ≡ (counts_at (as_level own) id way t.system).sent
  made_of soft.Lock =
      let (a, b) = at_level handler id s t way l Lock in
      let c = level_closed soft.Lock id t.system.cpus.cpus rings closed in
      let x = none_raised id s.system new soft.Lock in let y = none_dropped id s.system new soft.Lock in
      omega (arith, a, b, c, x, y)
  made_of soft.Low =
      let (a, b) = at_level handler id s t way l Low in
      let c = level_closed soft.Low id t.system.cpus.cpus rings closed in
      let x = none_raised id s.system new soft.Low in let y = none_dropped id s.system new soft.Low in
      omega (arith, a, b, c, x, y)

  -- at another level than the id's
  pub not_served : (own : Soft) (before after : List C)
      → AreServed (types.at_level handler.called (as_level own)) handler.count (rings_of own rings) before after
      → is_own (as_level own) (level_in id way) ≡ false → map (λ c. handler.count c id) after ≡ map (λ c. handler.count c id)
      before
  not_served own before after served not =
      let a = made_of own in
      let b = ap (λ b. (cond b (counts_in id way t.system) no_counts).sent) not in
      none_served (types.at_level handler.called (as_level own)) handler.count id (rings_of own rings) before after served
      (omega (arith, a, b))

  pub served_of : (own : Soft) (before after : List C)
      → AreServed (types.at_level handler.called (as_level own)) handler.count (rings_of own rings) before after
      → sum_by (λ c. handler.count c id) after + (counts_at (as_level own) id way t.system).lost
      ≡ sum_by (λ c. handler.count c id) before + (counts_at (as_level own) id way t.system).sent
  served_of own before after served =
      let a = made_of own in
      let b = level_served (types.at_level handler.called (as_level own)) handler.count id (rings_of own rings) before after
      served in
      omega (arith, a, b)
