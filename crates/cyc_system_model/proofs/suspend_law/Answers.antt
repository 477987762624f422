use Rattle.cyc_system_model.proofs.SystemSuspending.{suspend_accepted, suspend_refused}
use Rattle.cyc_system_model.proofs.suspend_law.Goals as goal

pub returns-clause-accepted : goal.returns-clause-accepted
returns-clause-accepted c = λ s v w sys h same did. suspend_accepted s v w sys h same did

pub returns-clause-refused : goal.returns-clause-refused
returns-clause-refused c = λ e s v w sys h same did. suspend_refused s v w sys h same e did
