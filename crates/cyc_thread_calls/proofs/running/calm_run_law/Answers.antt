use Rattle.cyc_thread_calls.proofs.Whole.{agrees}
use Rattle.cyc_thread_calls.proofs.running.calm_run_law.Goals as goal

pub returns : goal.returns
returns g c script all first last runs calm many begins memory =
    agrees g.C.Calls script all first last runs calm many begins memory
