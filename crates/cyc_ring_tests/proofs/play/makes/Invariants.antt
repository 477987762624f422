use Rattle.std.proofs.Common.{◌≡◌}
use Rattle.cyc_ring_tests.proofs.play.makes.Given as goal

abbrev pub invariant-loop-i : goal.invariant-loop-i
invariant-loop-i l = (l.firing_side.ring.now ≡ l.initial.firing_side.ring.now)
    × (l.soft_side.ring.now ≡ l.initial.soft_side.ring.now)
