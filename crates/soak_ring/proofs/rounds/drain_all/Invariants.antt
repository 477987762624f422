use Rattle.std.proofs.Common.{◌≡◌}
use Rattle.soak_ring.proofs.rounds.drain_all.Given as goal

abbrev pub invariant-loop-turn : goal.invariant-loop-turn
invariant-loop-turn l = l.end.ring.now ≡ l.ring
