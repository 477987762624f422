use Rattle.cyc_system_model.proofs.SystemRunning.{softint_accepted, softint_refused}
use Rattle.cyc_system_model.proofs.softint_law.Goals as goal

pub returns-clause-accepted : goal.returns-clause-accepted
returns-clause-accepted g c = λ i ran m s t sys h did. softint_accepted g.C.Calls m s t sys h i ran did

pub returns-clause-refused : goal.returns-clause-refused
returns-clause-refused g c = λ i e answer m s t sys h is did. softint_refused g.C.Calls m s t sys h i e answer is did
