use Rattle.std.proofs.Common.{inr, sym, ◌∙◌}
use Rattle.cyc_threads.proofs.Refusing.{fire_halts, fires}
use Rattle.cyc_threads.proofs.advancing.advance_clock.Goals as goal

pub returns-in-Some-clause-halted : goal.returns-in-Some-clause-halted
returns-in-Some-clause-halted g c = fire_halts g.C.Calls g.R.Raise c.args.nanoseconds
    c.moment_of-now.result c.args.progress (sym c.is_suspended.ensures ∙ c.if-is_suspended.false) c.in-Ok.advanced
    c.as_slice.result.now c.in-Some.cpu c.in-Some.why
    c.moment_of-now.ensures c.in-Ok.ensures
    c.as_slice.ensures.value c.in-Some.ensures.some

pub returns-clause-fired : goal.returns-clause-fired
returns-clause-fired g c = inr (fires g.C.Calls g.R.Raise c.args.nanoseconds
    c.moment_of-now.result c.args.progress (sym c.is_suspended.ensures ∙ c.if-is_suspended.false) c.in-Ok.advanced
    c.as_slice.result.now c.moment_of-now.ensures c.in-Ok.ensures
    c.as_slice.ensures.value c.in_default-first_refused.ensures.none c.sound.ensures)
