use Rattle.std.proofs.Common.{◌≡◌}
use Rattle.cyc_ring_tests.proofs.banks.fill.Given as goal

abbrev pub invariant-loop-i : goal.invariant-loop-i
invariant-loop-i l = l.firing_side.ring.now ≡ l.fn.firing_side.ring.now
