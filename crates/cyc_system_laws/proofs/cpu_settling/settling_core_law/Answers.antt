use Rattle.cyc_cpu.specs.Soft.{raise_tables, Interrupts}
use Rattle.cyc_cpu_laws.proofs.Softs.{interrupts_settled}
use Rattle.cyc_system_laws.proofs.Settled.{settled_there, grows_there, at_once}
use Rattle.cyc_system_laws.proofs.cpu_settling.settling_core_law.Goals as goal

pub returns-clause-stays : goal.returns-clause-stays
returns-clause-stays g c =
    settled_there raise_tables g.C.Calls (Interrupts g.C.Calls) (interrupts_settled g.C.Calls)

pub returns-clause-grows : goal.returns-clause-grows
returns-clause-grows g c =
    grows_there raise_tables g.C.Calls (Interrupts g.C.Calls) (interrupts_settled g.C.Calls)

pub returns-clause-at_once : goal.returns-clause-at_once
returns-clause-at_once g c =
    at_once raise_tables g.C.Calls (Interrupts g.C.Calls) (interrupts_settled g.C.Calls)
