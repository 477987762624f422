use Rattle.cyc_threads.proofs.Taking.{Reached}
use Rattle.cyc_threads.proofs.stepping.take_steps.Given as goal

abbrev pub invariant-loop-position : goal.invariant-loop-position
invariant-loop-position g l = Reached g.C.Calls g.R.Raise l.fn.script.steps.items l.position
    l.fn.progress l.progress
