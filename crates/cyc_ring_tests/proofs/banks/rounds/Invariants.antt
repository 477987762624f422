use Rattle.std.proofs.Common.{◌≡◌}
use Rattle.cyc_ring_tests.proofs.banks.rounds.Given as goal

abbrev pub invariant-loop-round : goal.invariant-loop-round
invariant-loop-round l = (l.firing_side.ring.now ≡ l.fn.firing_side.ring.now) × (l.soft_side.ring.now ≡ l.fn.soft_side.ring.now)
