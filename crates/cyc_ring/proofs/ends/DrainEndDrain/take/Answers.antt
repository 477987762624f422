use Rattle.std.proofs.Common.{List, ap, ◌∙◌}
use Rattle.std.specs.Prelude.{None}
use Rattle.ring_rule.specs.declared.DrainStep.{DrainStep}
use Rattle.ring_rule.specs.Trail.{made_calls, drainer_hand_of}
use Rattle.cyc_ring.proofs.Hands.{made_take, hand_take, bare_held}
use Rattle.cyc_ring.proofs.ends.DrainEndDrain.take.Goals as goal

pub returns-in-Some-clause-made : goal.returns-in-Some-clause-made
returns-in-Some-clause-made c = λ id. let e = c.args.self.now in let t : List DrainStep = e.seat.side.seat.me.0.drain_trail in
    let call = c.take_as.ensures.call in
    ap (made_calls id) call.gained ∙ made_take e.ring.now.setting.start t call.steps c.take_as.result call.made id

pub returns-in-None-clause-hand : goal.returns-in-None-clause-hand
returns-in-None-clause-hand c = let e = c.args.self.now in let t : List DrainStep = e.seat.side.seat.me.0.drain_trail in
    let call = c.in-None.ensures.call in
    ap drainer_hand_of call.gained ∙ hand_take e.ring.now.setting.start t call.steps None (bare_held t c.requires) call.made

pub returns-in-None-clause-made : goal.returns-in-None-clause-made
returns-in-None-clause-made c = λ id. let e = c.args.self.now in let t : List DrainStep = e.seat.side.seat.me.0.drain_trail in
    let call = c.take_as.ensures.call in
    ap (made_calls id) call.gained ∙ made_take e.ring.now.setting.start t call.steps c.take_as.result call.made id
