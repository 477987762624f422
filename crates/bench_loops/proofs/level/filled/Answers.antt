use Rattle.bench_loops.proofs.Rounds.{empty_is_new}
use Rattle.bench_loops.proofs.level.filled.Goals as goal

pub fill-requires-clause-new : goal.fill-requires-clause-new
fill-requires-clause-new c = empty_is_new c.args.ceiling _ c.in_ok-core.ensures.ok
