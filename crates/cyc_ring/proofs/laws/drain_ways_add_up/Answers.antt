use Rattle.cyc_ring.proofs.Ways.{drain_ways}
use Rattle.cyc_ring.proofs.laws.drain_ways_add_up.Goals as goal

pub returns : goal.returns
returns c = drain_ways
