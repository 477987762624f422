use Rattle.cyc_cpu.specs.Calls.{no_interrupts}
use Rattle.cyc_system_laws.proofs.Suspending.{stays_suspended, uncalled}
use Rattle.cyc_system_laws.proofs.suspension.suspension_law.Goals as goal

pub returns-clause-still : goal.returns-clause-still
returns-clause-still g c =
    stays_suspended g.C.Calls g.R.Raise no_interrupts (λ soft budget answer s t d. absurd d)

pub returns-clause-uncalled : goal.returns-clause-uncalled
returns-clause-uncalled g c =
    uncalled g.C.Calls g.R.Raise no_interrupts (λ soft budget answer s t d. absurd d) (λ soft budget answer s t d. absurd d)
