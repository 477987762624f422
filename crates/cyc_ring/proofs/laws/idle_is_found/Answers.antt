use Rattle.cyc_ring.proofs.Ways.{idle}
use Rattle.cyc_ring.proofs.laws.idle_is_found.Goals as goal

pub returns : goal.returns
returns c = idle
