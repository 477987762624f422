use Rattle.cyc_cpu.specs.Calls.{no_interrupts}
use Rattle.cyc_system.proofs.Numbers.{rises_along, given, omni_given}
use Rattle.cyc_system.proofs.laws.ids_law.Goals as goal

pub returns-clause-run : goal.returns-clause-run
returns-clause-run g c = rises_along g.C.Calls g.R.Raise no_interrupts

pub returns-clause-given : goal.returns-clause-given
returns-clause-given g c = given g.C.Calls g.R.Raise no_interrupts

pub returns-clause-omnipresent : goal.returns-clause-omnipresent
returns-clause-omnipresent g c = omni_given g.C.Calls g.R.Raise no_interrupts
