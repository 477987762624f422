use Rattle.cyc_core.proofs.Idle.{idle_empty}
use Rattle.cyc_core.proofs.laws.idle_is_empty.Goals as goal

pub returns : goal.returns
returns c = idle_empty
