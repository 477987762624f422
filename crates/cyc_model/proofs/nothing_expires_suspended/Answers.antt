use Rattle.cyc_model.proofs.Suspended.{suspend_suspends, nothing_expires_suspended}
use Rattle.cyc_model.proofs.nothing_expires_suspended.Goals as goal

pub returns-clause-suspends : goal.returns-clause-suspends
returns-clause-suspends c = suspend_suspends

pub returns-clause-still : goal.returns-clause-still
returns-clause-still c = nothing_expires_suspended
