use Rattle.cyc_cpu.specs.Calls.{no_interrupts}
use Rattle.cyc_cpu_laws.proofs.Staying.{none_settled, run_grows, settled_run, never_put_off}
use Rattle.cyc_cpu_laws.proofs.settling.settling_law.Goals as goal

pub returns-clause-stays : goal.returns-clause-stays
returns-clause-stays g c =
    settled_run g.R.Raise g.C.Calls no_interrupts (none_settled g.R.Raise)

pub returns-clause-grows : goal.returns-clause-grows
returns-clause-grows g c =
    run_grows g.R.Raise g.C.Calls no_interrupts (none_settled g.R.Raise)

pub returns-clause-at_once : goal.returns-clause-at_once
returns-clause-at_once g c =
    never_put_off g.R.Raise g.C.Calls no_interrupts (none_settled g.R.Raise)
