use Rattle.cyc_system_model.proofs.Reprogramming.{reprogram_accepted, reprogram_refused}
use Rattle.cyc_system_model.proofs.reprogram_law.Goals as goal

pub returns-clause-accepted : goal.returns-clause-accepted
returns-clause-accepted c = λ r moment s v w sys h is did. reprogram_accepted r moment s v w sys h is did

pub returns-clause-refused : goal.returns-clause-refused
returns-clause-refused c = λ r moment e s v w sys h is did. reprogram_refused r moment s v w sys h is e did
