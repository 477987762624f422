use Rattle.cyc_threads.proofs.Telling.{Polled}
use Rattle.cyc_threads.proofs.waiting.poll_all.Given as goal

abbrev pub invariant-loop : goal.invariant-loop
invariant-loop g l = Polled g.R.Raise l.fn.progress l.progress
