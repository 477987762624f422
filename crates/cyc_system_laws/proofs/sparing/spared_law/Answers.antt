use Rattle.cyc_cpu.specs.Calls.{no_interrupts}
use Rattle.cyc_system_laws.proofs.Spared.{run_spares}
use Rattle.cyc_system_laws.proofs.sparing.spared_law.Goals as goal

pub returns : goal.returns
returns g c id s t way run sound open_still none under =
    run_spares g.C.Calls g.R.Raise no_interrupts
    (λ s t level budget answer d. absurd d) (λ s t level budget answer law d. absurd d) id s t way run sound
    open_still none under
