use Rattle.std.proofs.Common.{◌≡◌}
use Rattle.cyc_ring_tests.proofs.threads.looks.Given as goal

abbrev pub invariant-loop-look : goal.invariant-loop-look
invariant-loop-look l = l.firing_side.ring.now ≡ l.ring
