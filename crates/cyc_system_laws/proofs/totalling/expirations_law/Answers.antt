use Rattle.cyc_cpu.specs.Calls.{no_interrupts}
use Rattle.cyc_system_laws.proofs.Totals.{run_grows}
use Rattle.cyc_system_laws.proofs.Given.{receipt_along}
use Rattle.cyc_system_laws.proofs.totalling.expirations_law.Goals as goal

pub returns-clause-expired : goal.returns-clause-expired
returns-clause-expired g c id s t way run sound open_still =
    (run_grows g.C.Calls g.R.Raise no_interrupts
    (λ s t level budget answer d. absurd d) id s t way run sound open_still).expired

pub returns-clause-lost : goal.returns-clause-lost
returns-clause-lost g c id s t way run sound open_still =
    (run_grows g.C.Calls g.R.Raise no_interrupts
    (λ s t level budget answer d. absurd d) id s t way run sound open_still).lost

pub returns-clause-few : goal.returns-clause-few
returns-clause-few g c id s t way run sound open_still =
    (run_grows g.C.Calls g.R.Raise no_interrupts
    (λ s t level budget answer d. absurd d) id s t way run sound open_still).few

pub returns-clause-receipt : goal.returns-clause-receipt
returns-clause-receipt g c id s t u way receipt run sound new open_still answers =
    receipt_along g.C.Calls g.R.Raise no_interrupts
    (λ s t level budget answer d. absurd d) id s t u way receipt run sound new open_still answers
