use Rattle.std.proofs.Common.{◌≡◌}
use Rattle.cyc_ring_tests.proofs.threads.raise_times.Given as goal

abbrev pub invariant-loop-raised : goal.invariant-loop-raised
invariant-loop-raised l = l.firing_side.ring.now ≡ l.ring
