use Rattle.std.proofs.Common.{sym, subst, ◌∙◌}
use Rattle.cyc_types.specs.Levels.{as_level, handler_at}
use Rattle.cyc_workers.specs.declared.draining.Drained.{Drained}
use Rattle.cyc_workers.specs.Draining.{HasDrained}
use Rattle.cyc_workers.proofs.Making.{makes_on, has_stopped, has_refused}
use Rattle.cyc_workers.proofs.draining.drain.Goals as goal

pub returns-then-is_told : goal.returns-then-is_told
returns-then-is_told g c =
    let handler = handler_at g.C.Calls (as_level c.args.level) in
    subst (λ (d : Drained _ _). HasDrained g.D.Drain handler c.args.side d) (sym c.ended.ensures)
    (has_stopped g.D.Drain handler c.args.side c.loop.side c.serve.new.side c.in-Ok.ran.idle c.ask-watch.result
    c.loop.invariant c.in-Ok.ensures.ran
    c.if-ran.true (sym c.is_told.ensures ∙ c.if-is_told.true) c.ask-watch.ensures.asked)

pub loop-preserved : goal.loop-preserved
loop-preserved g c = makes_on g.D.Drain (handler_at g.C.Calls (as_level c.args.level))
    c.args.side c.loop.side c.serve.new.side c.loop.invariant c.in-Ok.ensures.ran.0

pub returns-in-Err : goal.returns-in-Err
returns-in-Err g c =
    let handler = handler_at g.C.Calls (as_level c.args.level) in
    subst (λ (d : Drained _ _). HasDrained g.D.Drain handler c.args.side d) (sym c.ended-in-Err.ensures)
    (has_refused g.D.Drain handler c.args.side c.loop.side c.serve.new.side c.in-Err.refused c.ask-watch.result
    c.loop.invariant c.in-Err.ensures.refused)
