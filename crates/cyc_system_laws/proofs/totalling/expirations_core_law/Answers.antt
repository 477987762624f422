use Rattle.cyc_cpu.specs.Soft.{raise_tables, Interrupts}
use Rattle.cyc_system_laws.proofs.Totals.{run_grows}
use Rattle.cyc_system_laws.proofs.Given.{receipt_along}
use Rattle.cyc_system_laws.proofs.totalling.expirations_core_law.Goals as goal

pub returns-clause-expired : goal.returns-clause-expired
returns-clause-expired g c id s t way run sound open_still =
    let handler = g.C.Calls in
    (run_grows handler raise_tables (Interrupts handler)
    (λ s t level budget answer d. d.1.cyclics) id s t way run sound open_still).expired

pub returns-clause-lost : goal.returns-clause-lost
returns-clause-lost g c id s t way run sound open_still =
    let handler = g.C.Calls in
    (run_grows handler raise_tables (Interrupts handler)
    (λ s t level budget answer d. d.1.cyclics) id s t way run sound open_still).lost

pub returns-clause-few : goal.returns-clause-few
returns-clause-few g c id s t way run sound open_still =
    let handler = g.C.Calls in
    (run_grows handler raise_tables (Interrupts handler)
    (λ s t level budget answer d. d.1.cyclics) id s t way run sound open_still).few

pub returns-clause-receipt : goal.returns-clause-receipt
returns-clause-receipt g c id s t u way receipt run sound new open_still answers =
    let handler = g.C.Calls in
    receipt_along handler raise_tables (Interrupts handler)
    (λ s t level budget answer d. d.1.cyclics) id s t u way receipt run sound new open_still answers
