use Rattle.cyc_system_model.proofs.Removals.{remove_done, remove_kept, remove_refused}
use Rattle.cyc_system_model.proofs.remove_law.Goals as goal

pub returns-clause-answered : goal.returns-clause-answered
returns-clause-answered c = λ name receipt s v w sys h did. remove_done name s v w sys h receipt did

pub returns-clause-kept : goal.returns-clause-kept
returns-clause-kept c = λ name waits s v w sys h did. remove_kept name s v w sys h waits did

pub returns-clause-refused : goal.returns-clause-refused
returns-clause-refused c = λ name e s v w sys h did. remove_refused name s v w sys h e did
