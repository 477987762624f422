use Rattle.std.proofs.Common.{◌≡◌}
use Rattle.soak_ring.proofs.rounds.burst.Given as goal

abbrev pub invariant-loop-raised : goal.invariant-loop-raised
invariant-loop-raised l = l.firing_side.ring.now ≡ l.fn.firing_side.ring.now
