use Rattle.cyc_system_laws.proofs.Balanced.{run_balances, levels_of, receipt_calls}
use Rattle.cyc_system_laws.proofs.pending.balance_law.Goals as goal

pub returns-clause-balanced : goal.returns-clause-balanced
returns-clause-balanced g c id s t way run a h open_still =
    let handler = g.C.Calls in
    (run_balances handler id s t way run a (levels_of handler id s.system h) open_still).sum

pub returns-clause-receipt : goal.returns-clause-receipt
returns-clause-receipt g c id s t u way receipt run a h new b open_still answers =
    let handler = g.C.Calls in
    receipt_calls handler id s t u way receipt run a (levels_of handler id s.system h) new b
    open_still answers
