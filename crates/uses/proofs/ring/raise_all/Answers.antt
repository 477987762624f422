use Rattle.uses.proofs.Raising.{admitted, raised}
use Rattle.uses.proofs.ring.raise_all.Goals as goal

pub loop-raised-init : goal.loop-raised-init
loop-raised-init c = admitted c.args.ring.now c.args.id c.first_index.result c.args.seat c.new-end.result c.admit.new.self
    c.first_index.ensures c.new-end.ensures.0 c.requires.own c.requires.new c.admit.ensures.step
    c.admit.ensures.learns

pub loop-raised-preserved : goal.loop-raised-preserved
loop-raised-preserved c = raised c.args.ring.now c.args.id c.loop-raised.raised c.loop-raised.end c.raise.new.self c.raise.result
    c.loop-raised.invariant c.raise.ensures.step c.raise.ensures.learns
