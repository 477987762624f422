-- What a fire and a soft interrupt keep of a cyclic.
use Rattle.std.specs.Prelude.{◌≡◌, ℕ}
use Rattle.cyc_types.specs.declared.level.Level.{Level}
use Rattle.cyc_system.specs.System.{SystemView}
use Rattle.cyc_system_laws.specs.Keeping.{over_stays}

-- the id has as many stays of each level and interval as before, on all CPUs together; of their next expirations and counts
-- nothing is said
abbrev pub SameKinds : {R : Type 0} → ℕ → SystemView R → SystemView R → Type 0
SameKinds id s t = (f : Level → ℕ → ℕ) → over_stays (λ a. f a.level a.interval) id t ≡ over_stays (λ a. f a.level a.interval) id s
