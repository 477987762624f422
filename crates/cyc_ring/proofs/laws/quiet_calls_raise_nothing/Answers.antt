use Rattle.cyc_ring.proofs.Ways.{quiet}
use Rattle.cyc_ring.proofs.laws.quiet_calls_raise_nothing.Goals as goal

pub returns : goal.returns
returns c = quiet
