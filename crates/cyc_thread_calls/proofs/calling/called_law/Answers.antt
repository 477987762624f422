use Rattle.cyc_thread_calls.proofs.Closing.{handlers_called, rings_made}
use Rattle.cyc_thread_calls.proofs.calling.called_law.Goals as goal

pub returns-clause-called : goal.returns-clause-called
returns-clause-called g c script calls e text r level id =
    handlers_called g.C.Calls script calls e text r level id

pub returns-clause-made : goal.returns-clause-made
returns-clause-made g c script calls e text r soft id =
    rings_made g.C.Calls script calls e text r soft id
