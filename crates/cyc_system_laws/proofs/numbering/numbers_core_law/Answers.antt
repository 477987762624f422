use Rattle.cyc_cpu.specs.Soft.{raise_tables, Interrupts}
use Rattle.cyc_system_laws.proofs.Numbers.{numbers}
use Rattle.cyc_system_laws.proofs.numbering.numbers_core_law.Goals as goal

pub returns : goal.returns
returns g c =
    let handler = g.C.Calls in
    numbers handler raise_tables (Interrupts handler)
