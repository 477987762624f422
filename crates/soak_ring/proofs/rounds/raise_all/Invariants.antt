use Rattle.std.proofs.Common.{◌≡◌}
use Rattle.soak_ring.proofs.rounds.raise_all.Given as goal

abbrev pub invariant-loop-i : goal.invariant-loop-i
invariant-loop-i l = l.firing_side.ring.now ≡ l.ring
