use Rattle.cyc_thread_reasons.proofs.Whole.{explained}
use Rattle.cyc_thread_reasons.proofs.reasons.reasons_law.Goals as goal

pub returns : goal.returns
returns g c script calls e text r = explained g.C.Calls script calls e text r
