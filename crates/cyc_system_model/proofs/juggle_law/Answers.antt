use Rattle.cyc_system_model.proofs.Juggling.{juggle_accepted, juggle_refused}
use Rattle.cyc_system_model.proofs.juggle_law.Goals as goal

pub returns-clause-accepted : goal.returns-clause-accepted
returns-clause-accepted c = λ n report s v w sys h room did. juggle_accepted n s v w sys h room report did

pub returns-clause-refused : goal.returns-clause-refused
returns-clause-refused c = λ n e s v w sys h did. juggle_refused n s v w sys h e did
