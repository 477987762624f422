use Rattle.cyc_cpu.proofs.Fresh.{empty_is_fresh}
use Rattle.cyc_border.proofs.opening.opened.Goals as goal

pub new-requires-3-clause-lock : goal.new-requires-3-clause-lock
new-requires-3-clause-lock c = empty_is_fresh _ _ c.in_ok-lock.ensures.ok

pub new-requires-3-clause-low : goal.new-requires-3-clause-low
new-requires-3-clause-low c = empty_is_fresh _ _ c.in_ok-low.ensures.ok
