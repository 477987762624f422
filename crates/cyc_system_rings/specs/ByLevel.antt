-- What is so of each id at one level, over all CPUs.
use Rattle.std.specs.Prelude.{◌≡◌, ℕ, ◌==◌, cond, sum_by, length, Bool, false, List, [], ◌∷◌, Option, Some, None, Ok}
use Rattle.std.specs.List.{FoldsTo}
use Rattle.std.specs.Option.{option_map_or}
use Rattle.cyc_types.specs.declared.Calls.{Ghosts as Calls}
use Rattle.cyc_types.specs.declared.firing.Sent.{Sent}
use Rattle.cyc_types.specs.declared.level.Level.{Level}
use Rattle.cyc_types.specs.declared.level.Soft.{Soft}
use Rattle.cyc_types.specs.declared.level.Soft.TheVariants.{Low, Lock}
use Rattle.cyc_types.specs.Counting.{no_counts}
use Rattle.ring_rule.specs.Trail.{raises_of, losses_on_trail}
use Rattle.cyc_ring.specs.declared.ends.RaiseEnd.{RaiseEnd}
use Rattle.cyc_ring.specs.declared.closed.Closed.{Closed}
use Rattle.cyc_ring.specs.Ends.{raise_trail, raise_end, end_view}
use Rattle.cyc_ring.specs.Books.{closed_made}
use Rattle.cyc_timers.specs.Acts.{same_level}
use Rattle.cyc_cpu.specs.Cpu.{CpuView}
use Rattle.cyc_agreement.specs.Cpus.{OfCpu}
use Rattle.cyc_system_workers.specs.Serving.{HasServed}
use Rattle.cyc_system_laws.specs.System.{SystemView}
use Rattle.cyc_system_laws.specs.SystemCalls.{Add, AddOmni}
use Rattle.cyc_system_laws.specs.Sound.{IsSound}
use Rattle.cyc_system_workers.specs.declared.side.SystemSide.{SystemSide}
use Rattle.cyc_system_rings.specs.Beginning.{IsNewSystem}
use Rattle.cyc_system_rings.specs.Leading.{LeadCall, Make, LeadSteps}
use Rattle.cyc_system_rings.specs.Rings.{first_ring, counts_in, all_made}

-- ---- the level of an id

-- the level with which a call gave this id
abbrev pub level_given : ℕ → LeadCall → Option Level
level_given id (Make (Add level when now (Ok own))) = cond (own == id) (Some level) None
level_given id (Make (AddOmni level when skew now (Ok own))) = cond (own == id) (Some level) None
level_given id call = None

-- that with which one of these calls gave it
abbrev pub level_in : ℕ → List LeadCall → Option Level
level_in id [] = None
level_in id (call ∷ way) = first_ring (level_given id call) (level_in id way)

abbrev pub is_own : Level → Option Level → Bool
is_own level known = option_map_or (same_level level) known false

-- what is told of the id at the end of a run, where this is its level; nothing at another
abbrev pub counts_at : Level → ℕ → List LeadCall → SystemView RaiseEnd → Sent
counts_at level id way t = cond (is_own level (level_in id way)) (counts_in id way t) no_counts

-- ---- one soft level

-- the firing end of a CPU
abbrev pub end_of : {R : Type 0} → Soft → CpuView R → R
end_of Low cpu = cpu.low
end_of Lock cpu = cpu.lock

-- the raises of an id at the ends of all CPUs, since their rings were opened; and those that were lost
abbrev pub raised_at : Soft → ℕ → SystemView RaiseEnd → ℕ
raised_at soft id s = sum_by (λ cpu. raises_of id (raise_trail (end_of {R = RaiseEnd} soft cpu).seat)) s.cpus.cpus

abbrev pub dropped_at : Soft → ℕ → SystemView RaiseEnd → ℕ
dropped_at soft id s = sum_by (λ cpu. losses_on_trail id (raise_trail (end_of {R = RaiseEnd} soft cpu).seat)) s.cpus.cpus

-- of rings by the numbers of their CPUs, the lock level's before the low level's: those of one level
abbrev pub rings_of : Soft → List Closed → List Closed
rings_of Lock (lock ∷ low ∷ rings) = lock ∷ rings_of Lock rings
rings_of Low (lock ∷ low ∷ rings) = low ∷ rings_of Low rings
rings_of soft rings = []

-- the calls of an id that the soft sides of the level's rings made
abbrev pub made_at : Soft → ℕ → List Closed → ℕ
made_at soft id rings = all_made id (rings_of soft rings)

-- each of these handlers was called for what the soft side of its own ring made, and for nothing else
abbrev pub AreServed : {C : Type 0} → (C → ℕ → C → Type 0) → (C → ℕ → ℕ) → List Closed → List C → List C → Type 0
AreServed called count [] [] [] = Unit {0}
AreServed called count (ring ∷ rings) (c ∷ before) (d ∷ after) =
    HasServed called count (closed_made ring) c d × AreServed called count rings before after
AreServed called count rings before after = ⊥

-- ---- a run from its beginning

-- the lead made these calls, in order, from a new system on
pub record LeadsFromNew {C : Type 0} (handler : Calls C)
    (s : SystemSide RaiseEnd C) (way : List LeadCall) (t : SystemSide RaiseEnd C) : Type 0 where
  pub begins : IsNewSystem s.system
  pub sound : IsSound end_view s.system
  -- something leads each CPU
  pub ready : length s.leads.items ≡ length s.system.cpus.cpus
  pub run : FoldsTo (LeadSteps handler raise_end) s way t

-- nothing was done at any firing end
abbrev pub HasNewEnds : SystemView RaiseEnd → Type 0
HasNewEnds s = (n : ℕ) → OfCpu n (λ cpu. (raise_trail cpu.lock.seat ≡ []) × (raise_trail cpu.low.seat ≡ [])) s.cpus
