use Rattle.cyc_thread_calls.proofs.Polled.{all_answered}
use Rattle.cyc_thread_calls.proofs.answering.answering_law.Goals as goal

pub returns : goal.returns
returns g c script calls e text r =
    all_answered g.C.Calls script calls e text r
