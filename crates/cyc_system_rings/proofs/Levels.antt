-- From a new system on, what is done of an id is done at the level with which it was given.
use Rattle.std.proofs.Common.{◌≡◌, ℕ, ◌+◌, inr, length, false, cond, Option, Some, None, List, refl, ap, arith}
use Rattle.std.specs.Prelude.{map, sum_by}
use Rattle.std.specs.List.{FoldsTo}
use Rattle.std.specs.Option.{option_map_or}
use Rattle.cyc_types.specs.declared.Calls.{Ghosts as Calls}
use Rattle.cyc_types.specs.declared.Raise.{Ghosts as Raise}
use Rattle.cyc_types.specs.Firing.{FiringCall}
use Rattle.cyc_types.specs.Runs.{Goes, raised_by, lost_by}
use Rattle.cyc_types.specs.declared.firing.Sent.{Sent}
use Rattle.cyc_types.specs.declared.level.Level.{Level}
use Rattle.cyc_types.specs.declared.level.Level.TheVariants.{Low, Lock, High}
use Rattle.cyc_types.specs.declared.level.Soft.TheVariants as soft
use Rattle.cyc_types.specs.Counting.{no_counts}
use Rattle.cyc_timers.specs.Rows.{Cyclic}
use Rattle.cyc_cpu.specs.Cpu.{CpuView}
use Rattle.cyc_system_workers.specs.Lead.{Lead}
use Rattle.cyc_system_laws.proofs.Sums.{sum_none}
use Rattle.cyc_system_laws.specs.System.{SystemView}
use Rattle.cyc_system_laws.specs.Laws.{cyclic_in}
use Rattle.cyc_system_laws.specs.Counts.{all_expired, all_lost}
use Rattle.cyc_system_laws.proofs.Recording.{found}
use Rattle.cyc_system_laws.specs.Sound.{IsSound}
use Rattle.cyc_system_laws.proofs.Flow.{weigh}
use Rattle.cyc_system_workers.specs.declared.side.SystemSide.{SystemSide}
use Rattle.cyc_system_rings.specs.Beginning.{IsNewSystem}
use Rattle.cyc_system_rings.specs.Leading.{LeadCall, LeadSteps}
use Rattle.cyc_system_rings.specs.ByLevel.{level_in, is_own}
use Rattle.cyc_system_rings.proofs.Raising.{sum_both, raised_end, dropped_end}
use Rattle.cyc_system_rings.proofs.Balance.{counts, run_even}
use Rattle.cyc_system_rings.proofs.Elsewhere.{at_it, here, recorded, IsElsewhere}
use Rattle.cyc_system_rings.proofs.Apart.{all_deeds, all_drops, run_apart}

-- ---- a new system has nothing of any id
module _ {R : Type 0} (id : ℕ) (s : SystemView R) (begins : IsNewSystem s) where
  new_elsewhere : (level : Level) → IsElsewhere level id s
  new_elsewhere level = record {
    none = sum_none (here level id) s.cpus.cpus
        (λ n x at. ap (λ cs. sum_by (weigh (at_it level id) id) cs) (begins.empty n x at));
    unrecorded = ap (recorded level id) begins.records;
  }

  new_expired : all_expired id s ≡ 0
  new_expired =
      let a = sum_none (λ (cpu : CpuView R). option_map_or (λ (c : Cyclic). c.timer.expired) (cyclic_in id cpu) 0) s.cpus.cpus
      (λ n x at. ap (λ cs. option_map_or (λ (c : Cyclic). c.timer.expired) (cyclic_in id (record x { cyclics = cs })) 0)
      (begins.empty n x at)) in
      let b = ap (λ rs. option_map_or (λ r. sum_by (λ e. e.sent) r.ended) (found id rs) 0) begins.records in omega (arith, a, b)

  new_lost : all_lost id s ≡ 0
  new_lost =
      let a = sum_none (λ (cpu : CpuView R). option_map_or (λ (c : Cyclic). c.lost) (cyclic_in id cpu) 0) s.cpus.cpus
      (λ n x at. ap (λ cs. option_map_or (λ (c : Cyclic). c.lost) (cyclic_in id (record x { cyclics = cs })) 0)
      (begins.empty n x at)) in
      let b = ap (λ rs. option_map_or (λ r. sum_by (λ e. e.lost) r.ended) (found id rs) 0) begins.records in omega (arith, a, b)

module _ {C R : Type 0} (handler : Calls C)
    (firing : Raise R) (raised dropped : ℕ → R → ℕ)
    (adds : (e f : R) (way : List FiringCall) → Goes firing e way f → (id : ℕ)
    → (raised id f ≡ raised id e + raised_by id way) × (dropped id f ≡ dropped id e + lost_by id way)) (id : ℕ)
    (s t : SystemSide R C) (way : List LeadCall) (begins : IsNewSystem s.system) (sound : IsSound firing.view s.system)
    (ready : length s.leads.items ≡ length s.system.cpus.cpus)
    (run : FoldsTo (LeadSteps handler firing) s way t) where
  abbrev deeds_in : Level → SystemSide R C → ℕ
  deeds_in level x = all_deeds handler firing raised dropped adds id level x

  abbrev drops_in : Level → SystemSide R C → ℕ
  drops_in level x = all_drops handler firing raised dropped adds id level x

  abbrev told : Sent
  told = counts handler firing raised dropped adds id way t.system

  -- where this is not its level, nothing of the id was done
  apart : (level : Level) → is_own level (level_in id way) ≡ false
      → (deeds_in level t ≡ deeds_in level s) × (drops_in level t ≡ drops_in level s)
  apart level not = let a = run_apart handler firing raised dropped adds id level s t way run sound ready
      (inr not) (new_elsewhere id s.system begins level) in (a.deeds_same, a.drops_same)

  -- not one of the high levels' handlers had a call of it
  pub uncalled : is_own High (level_in id way) ≡ false
      → map (λ (l : Lead C). handler.count l.calls id) t.leads.items ≡ map (λ (l : Lead C). handler.count l.calls id)
      s.leads.items
  uncalled not = (run_apart handler firing raised dropped adds id High s t way run sound ready
      (inr not) (new_elsewhere id s.system begins High)).calls_same

  -- all levels together
  all_together : (told.sent + (deeds_in Lock s + deeds_in Low s) + deeds_in High s
      ≡ deeds_in Lock t + deeds_in Low t + deeds_in High t)
      × (told.lost + (drops_in Lock s + drops_in Low s) ≡ drops_in Lock t + drops_in Low t)
  all_together =
      let e = run_even handler firing raised dropped adds id s t way run sound ready in
      let x = e.expired in let y = e.losses in let a = new_expired id s.system begins in let b = new_lost id s.system begins in
      let p = sum_both (raised_end firing raised dropped adds id soft.Lock)
      (raised_end firing raised dropped adds id soft.Low) s.system.cpus.cpus in
      let q = sum_both (raised_end firing raised dropped adds id soft.Lock)
      (raised_end firing raised dropped adds id soft.Low) t.system.cpus.cpus in
      let u = sum_both (dropped_end firing raised dropped adds id soft.Lock)
      (dropped_end firing raised dropped adds id soft.Low) s.system.cpus.cpus in
      let v = sum_both (dropped_end firing raised dropped adds id soft.Lock)
      (dropped_end firing raised dropped adds id soft.Low) t.system.cpus.cpus in
      (omega (arith, x, a, p, q), omega (arith, y, b, u, v))

  -- what is told of the id at a level, where its own is this
  abbrev told_at : Level → Option Level → Sent
  told_at level own = cond (is_own level own) told no_counts

  abbrev Grows : Level → Option Level → Type 0
  Grows level own = (deeds_in level t ≡ deeds_in level s + (told_at level own).sent)
      × (drops_in level t ≡ drops_in level s + (told_at level own).lost)

  grows : (own : Option Level) → level_in id way ≡ own → (level : Level) → Grows level own
  grows None is level = let (a, b) = apart level (ap (is_own level) is) in (omega (arith, a), omega (arith, b))
  grows (Some Low) is Low =
      let (a, b) = apart Lock (ap (is_own Lock) is) in let (c, d) = apart High (ap (is_own High) is) in
      let (x, y) = all_together in (omega (arith, a, c, x), omega (arith, b, y))
  grows (Some Low) is Lock = let (a, b) = apart Lock (ap (is_own Lock) is) in (omega (arith, a), omega (arith, b))
  grows (Some Low) is High = let (a, b) = apart High (ap (is_own High) is) in (omega (arith, a), omega (arith, b))
  grows (Some Lock) is Lock =
      let (a, b) = apart Low (ap (is_own Low) is) in let (c, d) = apart High (ap (is_own High) is) in
      let (x, y) = all_together in (omega (arith, a, c, x), omega (arith, b, y))
  grows (Some Lock) is Low = let (a, b) = apart Low (ap (is_own Low) is) in (omega (arith, a), omega (arith, b))
  grows (Some Lock) is High = let (a, b) = apart High (ap (is_own High) is) in (omega (arith, a), omega (arith, b))
  grows (Some High) is High =
      let (a, b) = apart Low (ap (is_own Low) is) in let (c, d) = apart Lock (ap (is_own Lock) is) in
      let (x, y) = all_together in (omega (arith, a, c, x), omega (arith, b, d, y))
  grows (Some High) is Low = let (a, b) = apart Low (ap (is_own Low) is) in (omega (arith, a), omega (arith, b))
  grows (Some High) is Lock = let (a, b) = apart Lock (ap (is_own Lock) is) in (omega (arith, a), omega (arith, b))

  pub by_level : (level : Level) → Grows level (level_in id way)
  by_level level = grows (level_in id way) refl level

  -- nothing is told of an id that was not given
  pub ungiven : level_in id way ≡ None → told ≡ no_counts
  ungiven is =
      let (a, b) = apart Low (ap (is_own Low) is) in let (c, d) = apart Lock (ap (is_own Lock) is) in
      let (e, f) = apart High (ap (is_own High) is) in let (x, y) = all_together in
      let sent : told.sent ≡ 0 = omega (arith, a, c, e, x) in let lost : told.lost ≡ 0 = omega (arith, b, d, y) in
      (λ i. record { sent = sent i; lost = lost i })
