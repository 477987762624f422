use Rattle.std.proofs.Common.{◌<◌, ◌≤◌}
use Rattle.bench_sides.specs.Ready.{IsReadyLevel}
use Rattle.bench_sides.proofs.hand_overs.Given as goal

abbrev pub invariant-loop-round : goal.invariant-loop-round
invariant-loop-round g l = (0 < l.number) × (l.number ≤ l.ids) × IsReadyLevel l.ids l.round (g.R.Raise.view l.raise)
