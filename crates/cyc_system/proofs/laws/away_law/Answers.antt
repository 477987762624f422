use Rattle.cyc_system.proofs.Away.{back_same, back_then, back_fired, back_settled, all_same, all_of}
use Rattle.cyc_system.proofs.laws.away_law.Goals as goal

pub returns-clause-same : goal.returns-clause-same
returns-clause-same g c = back_same g.R.Raise.view

pub returns-clause-joined : goal.returns-clause-joined
returns-clause-joined g c = back_then g.R.Raise.view

pub returns-clause-fired : goal.returns-clause-fired
returns-clause-fired g c = back_fired g.C.Calls g.R.Raise

pub returns-clause-settled : goal.returns-clause-settled
returns-clause-settled g c = back_settled g.C.Calls g.R.Raise

pub returns-clause-each : goal.returns-clause-each
returns-clause-each g c = all_of g.C.Calls g.R.Raise

pub returns-clause-unused : goal.returns-clause-unused
returns-clause-unused g c = all_same g.C.Calls g.R.Raise
