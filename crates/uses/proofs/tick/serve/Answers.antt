use Rattle.uses.proofs.Serving.{counts_done}
use Rattle.uses.proofs.tick.serve.Goals as goal

pub returns-clause-done : goal.returns-clause-done
returns-clause-done c = counts_done _ _ _ _ _ _ c.softint.ensures.did.0
