use Rattle.cyc_cpu.specs.Calls.{SoftInterrupt}
use Rattle.cyc_cpu.specs.Soft.{raise_tables, Interrupts}
use Rattle.cyc_cpu_laws.proofs.Cores.{core_proceeds_one}
use Rattle.cyc_system_laws.proofs.Spared.{run_spares}
use Rattle.cyc_system_laws.proofs.sparing.spared_core_law.Goals as goal

pub returns : goal.returns
returns g c id s t way run sound open_still none under =
    let handler = g.C.Calls in
    run_spares handler raise_tables (Interrupts handler)
    (λ s t level budget answer d. d.1.cyclics)
    (λ s t level budget answer law d.
    (core_proceeds_one handler s t (SoftInterrupt level budget answer) law d).limits)
    id s t way run sound open_still none under
