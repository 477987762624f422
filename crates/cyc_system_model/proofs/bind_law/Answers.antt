use Rattle.cyc_system_model.proofs.Binding.{bind_accepted, bind_refused}
use Rattle.cyc_system_model.proofs.bind_law.Goals as goal

pub returns-clause-accepted : goal.returns-clause-accepted
returns-clause-accepted c = λ b s v w sys h did. bind_accepted b s v w sys h did

pub returns-clause-refused : goal.returns-clause-refused
returns-clause-refused c = λ b e s v w sys h did. bind_refused b s v w sys h e did
