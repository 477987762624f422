use Rattle.cyc_cpu.specs.Soft.{raise_tables, Interrupts}
use Rattle.cyc_system_laws.proofs.Lasting.{interrupts_keep}
use Rattle.cyc_system_laws.proofs.keeping.interrupts_law.Goals as goal

pub returns : goal.returns
returns g c id n budget level answer s t a b d =
    let handler = g.C.Calls in
    interrupts_keep handler raise_tables (Interrupts handler) id
    (λ s t level budget answer d. d.1.cyclics) n budget level answer s t a b d
