use Rattle.bench_sides.specs.Ready.{IsFilledLevel}
use Rattle.bench_sides.proofs.fill.Given as goal

abbrev pub invariant-loop-index : goal.invariant-loop-index
invariant-loop-index g l = IsFilledLevel l.index (g.R.Raise.view l.raise)
