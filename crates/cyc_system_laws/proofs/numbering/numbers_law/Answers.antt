use Rattle.cyc_cpu.specs.Calls.{no_interrupts}
use Rattle.cyc_system_laws.proofs.Numbers.{numbers}
use Rattle.cyc_system_laws.proofs.numbering.numbers_law.Goals as goal

pub returns : goal.returns
returns g c = numbers g.C.Calls g.R.Raise no_interrupts
