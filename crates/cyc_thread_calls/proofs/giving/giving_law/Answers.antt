use Rattle.cyc_thread_calls.proofs.Names.{all_held}
use Rattle.cyc_thread_calls.proofs.giving.giving_law.Goals as goal

pub returns : goal.returns
returns g c xs s t run n a b id none is also =
    (all_held g.C.Calls g.R.Raise n s xs t run none).apart
    a b id is also
