use Rattle.cyc_system_workers.proofs.Firings.{are_fires}
use Rattle.cyc_system_workers.proofs.laws.advance_law.Goals as goal

pub returns : goal.returns
returns g c = are_fires g.C.Calls g.R.Raise
