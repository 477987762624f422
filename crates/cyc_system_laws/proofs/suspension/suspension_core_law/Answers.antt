use Rattle.cyc_cpu.specs.Soft.{raise_tables, Interrupts}
use Rattle.cyc_system_laws.proofs.Suspending.{stays_suspended}
use Rattle.cyc_system_laws.proofs.suspension.suspension_core_law.Goals as goal

pub returns : goal.returns
returns g c =
    stays_suspended g.C.Calls raise_tables (Interrupts g.C.Calls) (λ soft budget answer s t d. d.1.kept.suspended)
