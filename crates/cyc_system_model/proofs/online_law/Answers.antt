use Rattle.cyc_system_model.proofs.Returning.{online_accepted, online_refused}
use Rattle.cyc_system_model.proofs.online_law.Goals as goal

pub returns-clause-accepted : goal.returns-clause-accepted
returns-clause-accepted c = λ n s v w sys h did. online_accepted n s v w sys h did

pub returns-clause-refused : goal.returns-clause-refused
returns-clause-refused c = λ n e s v w sys h did. online_refused n s v w sys h e did
