use Rattle.cyc_system_model.proofs.Polling.{polls_begin, polls_next, polls_tell, same_leaving, interrupted}
use Rattle.cyc_system_model.proofs.poll_law.Goals as goal

pub returns-clause-begins : goal.returns-clause-begins
returns-clause-begins g c = λ texts step m v h. polls_begin texts step m v h

pub returns-clause-polls : goal.returns-clause-polls
returns-clause-polls g c = λ texts step ids lines id answer m v w sys h did. polls_next texts step m ids lines id answer v w sys h
    did

pub returns-clause-counts : goal.returns-clause-counts
returns-clause-counts g c = λ texts step ids lines id receipt m v w sys h did. polls_tell texts step m ids lines id receipt v w
    sys h did

pub returns-clause-leaving : goal.returns-clause-leaving
returns-clause-leaving g c = λ m v sys h. same_leaving m v sys h

pub returns-clause-ends : goal.returns-clause-ends
returns-clause-ends g c = λ texts step i ran lines m s t w served h. interrupted g.C.Calls.count texts step i ran lines m s t w
    served h
