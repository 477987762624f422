use Rattle.cyc_cpu.specs.Calls.{no_interrupts}
use Rattle.cyc_cpu_laws.proofs.Staying.{none_settled}
use Rattle.cyc_system_laws.proofs.Settled.{settled_there, grows_there, at_once}
use Rattle.cyc_system_laws.proofs.cpu_settling.settling_law.Goals as goal

pub returns-clause-stays : goal.returns-clause-stays
returns-clause-stays g c =
    settled_there g.R.Raise g.C.Calls no_interrupts (none_settled g.R.Raise)

pub returns-clause-grows : goal.returns-clause-grows
returns-clause-grows g c =
    grows_there g.R.Raise g.C.Calls no_interrupts (none_settled g.R.Raise)

pub returns-clause-at_once : goal.returns-clause-at_once
returns-clause-at_once g c =
    at_once g.R.Raise g.C.Calls no_interrupts (none_settled g.R.Raise)
