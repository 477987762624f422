use Rattle.cyc_system_model.proofs.SystemOffline.{offline_accepted, offline_left, offline_pending, offline_refused}
use Rattle.cyc_system_model.proofs.offline_law.Goals as goal

pub returns-clause-accepted : goal.returns-clause-accepted
returns-clause-accepted c = λ n s v w sys h room did. offline_accepted n s v w sys h room did

pub returns-clause-left : goal.returns-clause-left
returns-clause-left c = λ n report s v w sys h room did. offline_left n s v w sys h room report did

pub returns-clause-pending : goal.returns-clause-pending
returns-clause-pending c = λ n s v w sys h room did. offline_pending n s v w sys h room did

pub returns-clause-refused : goal.returns-clause-refused
returns-clause-refused c = λ n e s v w sys h once did. offline_refused n s v w sys h e once did
