use Rattle.std.proofs.Common.{◌≡◌}
use Rattle.soak_ring.proofs.rounds.turn.Given as goal

abbrev pub invariant-loop-at : goal.invariant-loop-at
invariant-loop-at l = l.firing_side.ring.now ≡ l.fn.firing_side.ring.now
