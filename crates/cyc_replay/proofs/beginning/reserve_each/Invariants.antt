use Rattle.cyc_replay.proofs.Start.{Reserving}
use Rattle.cyc_replay.proofs.beginning.reserve_each.Given as goal

abbrev pub invariant-loop-number : goal.invariant-loop-number
invariant-loop-number l = Reserving l.wanted l.number l.fn.hards.items l.hards.items
