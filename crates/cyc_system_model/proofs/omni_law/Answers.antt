use Rattle.cyc_system_model.proofs.Spreading.{omni_accepted, omni_refused}
use Rattle.cyc_system_model.proofs.omni_law.Goals as goal

pub returns-clause-accepted : goal.returns-clause-accepted
returns-clause-accepted c = λ a series id s v w sys h is did. omni_accepted a series s v w sys h is id did

pub returns-clause-refused : goal.returns-clause-refused
returns-clause-refused c = λ a series e s v w sys h is did. omni_refused a series s v w sys h is e did
