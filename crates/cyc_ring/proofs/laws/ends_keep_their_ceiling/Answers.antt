use Rattle.cyc_ring.proofs.Ways.{same_ceiling}
use Rattle.cyc_ring.proofs.laws.ends_keep_their_ceiling.Goals as goal

pub returns : goal.returns
returns c = same_ceiling
