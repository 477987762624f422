use Rattle.std.proofs.Common.{◌<◌, ℕ}
use Rattle.cyc_cpu.specs.Cpu.{CpuView}
use Rattle.cyc_cpu.specs.Laws.{IsLawful}
use Rattle.cyc_agreement.specs.Cpus.{IsCpu}
use Rattle.cyc_agreement.proofs.cpus.Cpus.law.Given as goal

abbrev pub invariant-loop-hard : goal.invariant-loop-hard
invariant-loop-hard g l = (n : ℕ) (cpu : CpuView _) → n < l.hard-index → IsCpu n cpu l.self → IsLawful g.R.Raise.view cpu
