use Rattle.cyc_system_model.proofs.SystemSuspending.{resume_accepted, resume_refused}
use Rattle.cyc_system_model.proofs.resume_law.Goals as goal

pub returns-clause-accepted : goal.returns-clause-accepted
returns-clause-accepted c = λ s v w sys h same did. resume_accepted s v w sys h same did

pub returns-clause-refused : goal.returns-clause-refused
returns-clause-refused c = λ e s v w sys h same did. resume_refused s v w sys h same e did
