-- A system before its first call.
use Rattle.std.specs.Prelude.{◌≡◌, ℕ, []}
use Rattle.cyc_agreement.specs.Cpus.{OfCpu}
use Rattle.cyc_system_laws.specs.System.{SystemView}

-- no CPU has a cyclic, there is no record, and no id was given
pub record IsNewSystem {R : Type 0} (s : SystemView R) : Type 0 where
  pub empty : (n : ℕ) → OfCpu n (λ cpu. cpu.cyclics ≡ []) s.cpus
  pub records : s.records ≡ []
  pub last : s.last ≡ 0
