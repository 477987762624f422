use Rattle.cyc_system_laws.proofs.Pends.{kept_on, fired_on, served_on}
use Rattle.cyc_system_laws.proofs.Balanced.{levels_kept, moved_none, answered_none, totals_all}
use Rattle.cyc_system_laws.proofs.pending.pending_law.Goals as goal

pub returns-clause-kept : goal.returns-clause-kept
returns-clause-kept g c id n s t call d not =
    kept_on g.C.Calls id n s t call d not

pub returns-clause-fired : goal.returns-clause-fired
returns-clause-fired g c id n now answer s t sound d =
    fired_on g.C.Calls id n now answer s t sound.lawful d

pub returns-clause-served : goal.returns-clause-served
returns-clause-served g c id n budget level answer s t law d =
    served_on g.C.Calls id n budget level answer s t
    (λ m x at. (let (a, lock, low) = law m x at in (a, (lock, low)))) d

pub returns-clause-levels : goal.returns-clause-levels
returns-clause-levels g c s t call a b h d =
    levels_kept g.C.Calls 0 s t call a b h d

pub returns-clause-moved : goal.returns-clause-moved
returns-clause-moved g c id n s t call a b d differ = moved_none id n s t call a.lawful b.lawful d differ

pub returns-clause-receipt : goal.returns-clause-receipt
returns-clause-receipt g c id receipt s t a b answers = answered_none id receipt s t a b answers

pub returns-clause-totals : goal.returns-clause-totals
returns-clause-totals g c id totals s t a d = totals_all id totals s t a.lawful d
