use Rattle.cyc_ring.specs.Ends.{IsRaiseSeatOf, IsDrainSeatOf}
use Rattle.soak_ring.proofs.stops.stop_often.Given as goal

abbrev pub invariant-loop-stop : goal.invariant-loop-stop
invariant-loop-stop g l = IsRaiseSeatOf l.ring l.sides.0.0.seat × IsDrainSeatOf l.ring l.sides.1.0
