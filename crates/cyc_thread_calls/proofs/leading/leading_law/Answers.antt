use Rattle.cyc_thread_calls.proofs.Going.{all_go}
use Rattle.cyc_thread_calls.proofs.leading.leading_law.Goals as goal

pub returns : goal.returns
returns g c xs lines s t u runs reports =
    all_go g.C.Calls g.R.Raise xs lines s t u runs reports
