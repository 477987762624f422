use Rattle.cyc_cpu.proofs.Fresh.{empty_is_fresh}
use Rattle.bench_loops.proofs.cpu.opened.Goals as goal

pub new-requires-4-clause-lock : goal.new-requires-4-clause-lock
new-requires-4-clause-lock c = empty_is_fresh _ _ c.in_ok-lock.ensures.ok

pub new-requires-4-clause-low : goal.new-requires-4-clause-low
new-requires-4-clause-low c = empty_is_fresh _ _ c.in_ok-low.ensures.ok
