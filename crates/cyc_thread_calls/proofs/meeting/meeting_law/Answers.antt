use Rattle.cyc_thread_calls.proofs.Accepting.{each_met, given_met}
use Rattle.cyc_thread_calls.proofs.meeting.meeting_law.Goals as goal

pub returns-clause-all : goal.returns-clause-all
returns-clause-all g c xs s t (u, taken, waits) =
    each_met g.C.Calls g.R.Raise s xs u taken

pub returns-clause-given : goal.returns-clause-given
returns-clause-given g c x s t d name e =
    given_met g.C.Calls g.R.Raise x s t d name e
