use Rattle.cyc_core.proofs.Hints.{apart}
use Rattle.cyc_core.proofs.laws.hints_are_apart.Goals as goal

pub returns : goal.returns
returns c = apart
