use Rattle.cyc_ring.proofs.Ways.{raise_ways}
use Rattle.cyc_ring.proofs.laws.raise_ways_add_up.Goals as goal

pub returns : goal.returns
returns c = raise_ways
