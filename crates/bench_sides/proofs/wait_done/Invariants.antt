use Rattle.bench_sides.specs.Ready.{IsReadyLevel}
use Rattle.bench_sides.proofs.wait_done.Given as goal

abbrev pub invariant-loop : goal.invariant-loop
invariant-loop g l = IsReadyLevel l.ids l.most (g.R.Raise.view l.raise)
