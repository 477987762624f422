use Rattle.cyc_system_model.proofs.Replacing.{unbind_accepted, unbind_refused}
use Rattle.cyc_system_model.proofs.unbind_law.Goals as goal

pub returns-clause-accepted : goal.returns-clause-accepted
returns-clause-accepted c = λ name s v w sys h did. unbind_accepted name s v w sys h did

pub returns-clause-refused : goal.returns-clause-refused
returns-clause-refused c = λ name e s v w sys h did. unbind_refused name s v w sys h e did
