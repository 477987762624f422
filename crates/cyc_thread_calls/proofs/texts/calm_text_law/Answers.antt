use Rattle.cyc_thread_calls.proofs.Reports.{run_text}
use Rattle.cyc_thread_calls.proofs.texts.calm_text_law.Goals as goal

pub returns : goal.returns
returns g c script calls e text run calm memory below =
    run_text g.C.Calls script calls e text run calm memory below
