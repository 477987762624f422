use Rattle.cyc_system_laws.proofs.Nowhere.{unused_gone, one_away, run_away}
use Rattle.cyc_system_laws.proofs.absence.absence_core_law.Goals as goal

pub returns-clause-unused : goal.returns-clause-unused
returns-clause-unused g c = unused_gone

pub returns-clause-one : goal.returns-clause-one
returns-clause-one g c id s t d away puts did =
    one_away g.C.Calls id s t d away puts did

pub returns-clause-run : goal.returns-clause-run
returns-clause-run g c id s t way away puts run =
    run_away g.C.Calls id s t way away puts run
