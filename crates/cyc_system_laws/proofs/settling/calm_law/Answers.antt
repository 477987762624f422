use Rattle.cyc_cpu.specs.Calls.{no_interrupts}
use Rattle.cyc_system_laws.proofs.Calming.{run_settled}
use Rattle.cyc_system_laws.proofs.settling.calm_law.Goals as goal

pub returns : goal.returns
returns g c n x y s t way at there settled not same run =
    run_settled g.C.Calls g.R.Raise no_interrupts
    (λ s t level budget answer d. absurd d) n x y s t way at there settled not same run
