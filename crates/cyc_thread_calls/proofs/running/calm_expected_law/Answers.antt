use Rattle.cyc_thread_calls.proofs.Whole.{expects}
use Rattle.cyc_thread_calls.proofs.running.calm_expected_law.Goals as goal

pub returns : goal.returns
returns g c script all first last runs name calm many begins memory =
    expects g.C.Calls script all first last runs calm many begins memory name
