use Rattle.std.proofs.Common.{arith}
use Rattle.std.proofs.lemmas.Result.{IfErr-weaker, IfOk-weaker}
use Rattle.cyc_types.specs.declared.level.Level.TheVariants.{High}
use Rattle.cyc_types.specs.Expirations.{expirations}
use Rattle.cyc_cpu.specs.Cpu.{running}
use Rattle.cyc_cpu.specs.Rows.{timers}
use Rattle.uses.specs.Tick.{calls_so_far}
use Rattle.uses.proofs.Ticking.{called_at_most, called_when_due, made_front, made_switch, made_whole, no_share}
use Rattle.uses.proofs.tick.tick.Goals as goal

pub returns-clause-high : goal.returns-clause-high
returns-clause-high c = IfOk-weaker c.fire.result _ _
    (λ r adds. called_when_due c.args.now c.args.cpu.now.cyclics
    (c.share_law.ensures.whole c.args.now _ c.law.ensures.distinct High)
    (λ id. calls_so_far c.args.tasks.now id) (λ id. calls_so_far c.fire.new.calls id) adds)
    (made_whole c.share_law.ensures.high c.args.now (running c.args.tasks.now c.args.cpu.now)
    (running c.fire.new.calls c.fire.new.self) c.fire.result c.fire.ensures)

pub returns-clause-others : goal.returns-clause-others
returns-clause-others c = IfOk-weaker c.fire.result _ _
    (λ r adds id none. let a = adds id in
    let b = no_share c.args.cpu.now.cyclics (expirations c.args.now (timers c.args.cpu.now.cyclics)) id none in
    omega (arith, a, b))
    (made_whole c.share_law.ensures.high c.args.now (running c.args.tasks.now c.args.cpu.now)
    (running c.fire.new.calls c.fire.new.self) c.fire.result c.fire.ensures)

pub returns-clause-switch : goal.returns-clause-switch
returns-clause-switch c = made_switch c.share_law.ensures.high c.args.now (running c.args.tasks.now c.args.cpu.now)
    (running c.fire.new.calls c.fire.new.self) c.fire.result c.fire.ensures

pub returns-clause-stopped : goal.returns-clause-stopped
returns-clause-stopped c = IfErr-weaker c.fire.result _ _
    (λ e (made, rest, listed, adds). called_at_most c.args.now c.args.cpu.now.cyclics
    (c.share_law.ensures.whole c.args.now _ c.law.ensures.distinct High)
    (λ id. calls_so_far c.args.tasks.now id) (λ id. calls_so_far c.fire.new.calls id) made rest listed adds)
    (made_front c.share_law.ensures.high c.args.now (running c.args.tasks.now c.args.cpu.now)
    (running c.fire.new.calls c.fire.new.self) c.fire.result c.fire.ensures)
