use Rattle.cyc_types.proofs.Runs.{folds_on}
use Rattle.cyc_cpu.specs.Calls.{CpuChanges}
use Rattle.cyc_agreement.specs.Cpus.{DoesAt}
use Rattle.cyc_system_laws.proofs.Seen.{sees, stays_beside, same_online}
use Rattle.cyc_system_laws.proofs.running.calls_law.Goals as goal

pub returns-clause-joined : goal.returns-clause-joined
returns-clause-joined g c a b u v w first then = folds_on (DoesAt g.R.Raise) u a v b w first then

pub returns-clause-each : goal.returns-clause-each
returns-clause-each g c n x way v w run at =
    sees (λ u. u) (DoesAt g.R.Raise) (CpuChanges g.R.Raise) (λ s d t h. h) n x v way w run at

pub returns-clause-beside : goal.returns-clause-beside
returns-clause-beside g c n x way v w run none at =
    stays_beside (λ u. u) (DoesAt g.R.Raise) (CpuChanges g.R.Raise)
    (λ s d t h. h) n x v way w run none at

pub returns-clause-online : goal.returns-clause-online
returns-clause-online g c way v w run =
    same_online (λ u. u) (DoesAt g.R.Raise) (CpuChanges g.R.Raise) (λ s d t h. h) v way w run
