use Rattle.cyc_level.proofs.Removed.{nothing_follows}
use Rattle.cyc_level.proofs.nothing_follows_clear.Goals as goal

pub returns : goal.returns
returns c = nothing_follows
