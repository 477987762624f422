use Rattle.cyc_cpu.specs.Soft.{raise_tables, Interrupts}
use Rattle.cyc_system_laws.proofs.Quiet.{quiet_run, some_see}
use Rattle.cyc_system_laws.proofs.running.runs_core_law.Goals as goal

pub returns-clause-quiet : goal.returns-clause-quiet
returns-clause-quiet g c calls way v w run =
    let handler = g.C.Calls in
    quiet_run handler raise_tables (Interrupts handler) calls v way w run

pub returns-clause-each : goal.returns-clause-each
returns-clause-each g c n x way s t run at =
    let handler = g.C.Calls in
    some_see handler raise_tables (Interrupts handler) n x s way t run at
