use Rattle.bench_loops.proofs.Rounds.{take_ready}
use Rattle.bench_loops.proofs.level.take_next.Goals as goal

pub returns-then-is_none : goal.returns-then-is_none
returns-then-is_none c = take_ready _ _ _ _ c.take-taken.result c.requires c.take-taken.ensures.step
