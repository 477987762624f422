-- Which cyclics can lose an expiration.
use Rattle.std.specs.Prelude.{◌≡◌, ℕ, ◌≤◌}
use Rattle.cyc_types.specs.Firing.{FiringView}
use Rattle.cyc_types.specs.declared.level.Level.{Level}
use Rattle.cyc_types.specs.declared.level.Level.TheVariants.{Low, Lock, High}
use Rattle.cyc_timers.specs.Rows.{Cyclic}
use Rattle.cyc_cpu.specs.Cpu.{CpuView}

-- so many expirations at this level are at most the ceiling of the level; the high level has none
abbrev pub IsUnder : ℕ → ℕ → Level → ℕ → Type 0
IsUnder lock_ceiling low_ceiling Low n = n ≤ low_ceiling
IsUnder lock_ceiling low_ceiling Lock n = n ≤ lock_ceiling
IsUnder lock_ceiling low_ceiling High n = Unit {0}

-- a cyclic that has expired no more often than the ceiling of its level has lost nothing here: what it lost it carried in
abbrev pub IsSpared : ℕ → ℕ → Cyclic → Type 0
IsSpared lock_ceiling low_ceiling c = IsUnder lock_ceiling low_ceiling c.timer.level c.timer.expired → c.lost ≡ c.carried.lost

-- the same of a cyclic of this CPU
abbrev pub IsSparedAt : {R : Type 0} → (R → FiringView) → CpuView R → Cyclic → Type 0
IsSparedAt view v c = IsSpared (view v.lock).ceiling (view v.low).ceiling c
