use Rattle.cyc_cpu.specs.Calls.{no_interrupts}
use Rattle.cyc_system_laws.proofs.Quiet.{quiet_run, some_see}
use Rattle.cyc_system_laws.proofs.running.runs_law.Goals as goal

pub returns-clause-quiet : goal.returns-clause-quiet
returns-clause-quiet g c calls way v w run =
    quiet_run g.C.Calls g.R.Raise no_interrupts calls v way w run

pub returns-clause-each : goal.returns-clause-each
returns-clause-each g c n x way s t run at =
    some_see g.C.Calls g.R.Raise no_interrupts n x s way t run at
