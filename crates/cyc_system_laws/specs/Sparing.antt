-- Where no expiration can be lost.
use Rattle.std.specs.Prelude.{ℕ, ◌≤◌}
use Rattle.cyc_types.specs.Firing.{FiringView}
use Rattle.cyc_agreement.specs.Cpus.{OfCpu}
use Rattle.cyc_system.specs.System.{SystemView}

-- so many expirations are at most the ceiling of each soft level of each CPU
abbrev pub IsUnderEach : {R : Type 0} → (R → FiringView) → ℕ → SystemView R → Type 0
IsUnderEach view n s = (m : ℕ) → OfCpu m (λ cpu. (n ≤ (view cpu.lock).ceiling) × (n ≤ (view cpu.low).ceiling)) s.cpus
