use Rattle.std.proofs.Common.{arith}
use Rattle.cyc_workers.proofs.Joining.{at_err}
use Rattle.cyc_threads.specs.Steps.{WhyHalted}
use Rattle.cyc_threads.proofs.Taking.{reached_first, reached_before, reached_next, reached_ends, reached_halts, told_halts}
use Rattle.cyc_threads.proofs.stepping.take_steps.Goals as goal

pub loop-position-init : goal.loop-position-init
loop-position-init g c = reached_first g.C.Calls g.R.Raise c.args.script.now.steps.items
    c.args.progress c.args.script.now.well_formed.moments_in_order c.requires

pub take_step-requires-clause-before : goal.take_step-requires-clause-before
take_step-requires-clause-before g c κs within = let test = c.loop-position-test.true in let long = c.len-position-end.ensures in
    reached_before g.C.Calls g.R.Raise c.args.script.now.steps.items
    c.loop-position.position c.index.result.now c.args.progress c.loop-position.progress
    (omega (arith, test, long)) c.index.ensures c.loop-position.invariant

pub loop-position-preserved : goal.loop-position-preserved
loop-position-preserved g c = let test = c.loop-position-test.true in let long = c.len-position-end.ensures in
    reached_next g.C.Calls g.R.Raise c.args.script.now.steps.items
    c.loop-position.position c.index.result.now c.args.progress c.loop-position.progress c.in_ok-progress.progress
    (omega (arith, test, long)) c.index.ensures
    c.loop-position.invariant c.in_ok-progress.ensures.taken

pub returns-in_err-progress-clause-halted : goal.returns-in_err-progress-clause-halted
returns-in_err-progress-clause-halted g c = let test = c.loop-position-test.true in let long = c.len-position-end.ensures in
    at_err (λ h. WhyHalted g.C.Calls g.R.Raise c.args.progress c.args.script.now.steps.items h)
    c.from_residual.result c.in_err-progress.field-0.0 c.from_residual.ensures.1
    (reached_halts g.C.Calls g.R.Raise c.args.script.now.steps.items
    c.loop-position.position c.index.result.now c.args.progress c.loop-position.progress c.in_err-progress.field-0.0
    (omega (arith, test, long)) c.index.ensures c.loop-position.invariant c.in_err-progress.ensures.halted)

pub returns-clause-halted : goal.returns-clause-halted
returns-clause-halted g c = let test = c.loop-position-test.false in let long = c.len-position-end.ensures in
    told_halts g.C.Calls g.R.Raise c.args.script.now.steps.items
    c.loop-position.position c.args.progress c.loop-position.progress c.wait.result
    (omega (arith, test, long)) c.loop-position.invariant c.wait.ensures.halted

pub returns-clause-ran : goal.returns-clause-ran
returns-clause-ran g c = let test = c.loop-position-test.false in let long = c.len-position-end.ensures in
    reached_ends g.C.Calls g.R.Raise c.args.script.now.steps.items
    c.loop-position.position c.args.progress c.loop-position.progress c.wait.result
    (omega (arith, test, long)) c.loop-position.invariant
    c.wait.ensures.waited
