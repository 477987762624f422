use Rattle.cyc_cpu.specs.Soft.{raise_tables, Interrupts}
use Rattle.cyc_cpu_laws.proofs.Staying.{run_grows, settled_run, never_put_off}
use Rattle.cyc_cpu_laws.proofs.Softs.{interrupts_settled}
use Rattle.cyc_cpu_laws.proofs.settling.settling_core_law.Goals as goal

pub returns-clause-stays : goal.returns-clause-stays
returns-clause-stays g c =
    settled_run raise_tables g.C.Calls (Interrupts g.C.Calls) (interrupts_settled g.C.Calls)

pub returns-clause-grows : goal.returns-clause-grows
returns-clause-grows g c =
    run_grows raise_tables g.C.Calls (Interrupts g.C.Calls) (interrupts_settled g.C.Calls)

pub returns-clause-at_once : goal.returns-clause-at_once
returns-clause-at_once g c =
    never_put_off raise_tables g.C.Calls (Interrupts g.C.Calls) (interrupts_settled g.C.Calls)
