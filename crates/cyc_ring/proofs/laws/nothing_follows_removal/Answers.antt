use Rattle.cyc_ring.proofs.Ways.{nothing_follows}
use Rattle.cyc_ring.proofs.laws.nothing_follows_removal.Goals as goal

pub returns : goal.returns
returns c = nothing_follows
