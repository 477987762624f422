use Rattle.cyc_thread_calls.proofs.Closing.{from_new, run_accepted, new_ends, run_closed}
use Rattle.cyc_thread_calls.proofs.leading.opened_law.Goals as goal

pub returns-clause-new : goal.returns-clause-new
returns-clause-new g c script calls e text r =
    from_new g.C.Calls script calls e text r

pub returns-clause-accepted : goal.returns-clause-accepted
returns-clause-accepted g c script calls e text r =
    run_accepted g.C.Calls script calls e text r

pub returns-clause-ends : goal.returns-clause-ends
returns-clause-ends g c script calls e text r =
    new_ends g.C.Calls script calls e text r

pub returns-clause-closed : goal.returns-clause-closed
returns-clause-closed g c script calls e text r =
    run_closed g.C.Calls script calls e text r
