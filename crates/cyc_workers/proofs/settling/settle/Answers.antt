use Rattle.cyc_workers.proofs.Asking.{settles_more}
use Rattle.cyc_workers.proofs.settling.settle.Goals as goal

pub returns-then-ask-clause-asked : goal.returns-then-ask-clause-asked
returns-then-ask-clause-asked g c = settles_more g.R.Raise c.args.hard.now c.loop.hard c.ask.new.hard
    c.ask.result c.loop.invariant c.ask.ensures

pub returns-in-Some-refused-clause-asked : goal.returns-in-Some-refused-clause-asked
returns-in-Some-refused-clause-asked g c =
    settles_more g.R.Raise c.args.hard.now c.loop.hard c.ask.new.hard c.ask.result c.loop.invariant
    c.ask.ensures

pub loop-preserved : goal.loop-preserved
loop-preserved g c = settles_more g.R.Raise c.args.hard.now c.loop.hard c.ask.new.hard c.ask.result
    c.loop.invariant c.ask.ensures
