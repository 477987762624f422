use Rattle.cyc_threads.proofs.Telling.{poll_next}
use Rattle.cyc_threads.proofs.waiting.poll_all.Goals as goal

pub returns-in-Some-refused-clause-polled : goal.returns-in-Some-refused-clause-polled
returns-in-Some-refused-clause-polled g c =
    poll_next g.R.Raise c.args.progress.now c.loop.progress c.poll_once.new.progress
    c.leaving.new.self c.in-Some-leaving.leaving.0 c.in-Some-leaving.leaving.1 c.poll_once.ensures.0 c.loop.invariant
    c.leaving.ensures.same c.in-Some-leaving.ensures.some c.poll_once.ensures.1

pub loop-preserved : goal.loop-preserved
loop-preserved g c = poll_next g.R.Raise c.args.progress.now c.loop.progress c.poll_once.new.progress
    c.leaving.new.self c.in-Some-leaving.leaving.0 c.in-Some-leaving.leaving.1 c.poll_once.ensures.0 c.loop.invariant
    c.leaving.ensures.same c.in-Some-leaving.ensures.some c.poll_once.ensures.1
