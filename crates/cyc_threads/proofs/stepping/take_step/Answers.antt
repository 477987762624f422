use Rattle.cyc_threads.specs.Words.{waits_first}
use Rattle.cyc_threads.proofs.Ready.{begins_ready}
use Rattle.cyc_threads.proofs.Taking.{then_taken, then_halts}
use Rattle.cyc_threads.proofs.stepping.take_step.Goals as goal

pub do_step-requires-clause-ready : goal.do_step-requires-clause-ready
do_step-requires-clause-ready g c κs within =
    begins_ready g.C.Calls g.R.Raise
    (waits_first c.args.step.now) c.args.progress c.in_ok-begun.begun c.in_ok-begun.ensures.begun c.requires.ready

pub returns-clause-taken : goal.returns-clause-taken
returns-clause-taken g c = then_taken g.C.Calls g.R.Raise c.args.progress c.in_ok-begun.begun c.args.step.now c.do_step.result
    c.in_ok-begun.ensures.begun c.do_step.ensures.did

pub returns-clause-halted : goal.returns-clause-halted
returns-clause-halted g c = then_halts g.C.Calls g.R.Raise c.args.progress c.in_ok-begun.begun c.args.step.now c.do_step.result
    c.in_ok-begun.ensures.begun c.do_step.ensures.halted
