use Rattle.cyc_model.proofs.Printing.{removes_tell_calls, polls_tell_calls}
use Rattle.cyc_model.proofs.removals_tell_calls.Goals as goal

pub returns-clause-remove : goal.returns-clause-remove
returns-clause-remove c = removes_tell_calls

pub returns-clause-poll : goal.returns-clause-poll
returns-clause-poll c = polls_tell_calls
