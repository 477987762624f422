use Rattle.cyc_ring.proofs.Ways.{drain_ways}
use Rattle.cyc_ring_sides.proofs.soft_side.soft.Goals as goal

pub returns-in-Ok : goal.returns-in-Ok
returns-in-Ok g c = (drain_ways _ _ _ c.in-Ok.ensures.served.2.way).0

pub returns-in-Err : goal.returns-in-Err
returns-in-Err g c = (drain_ways _ _ _ c.in-Err.ensures.refused.4.way).0
