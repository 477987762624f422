use Rattle.std.proofs.Common.{ap, arith}
use Rattle.std.proofs.lemmas.List.{get_or_default}
use Rattle.cyc_finder.specs.Slots.{slot_id}
use Rattle.cyc_finder.proofs.Here.{far}
use Rattle.cyc_finder.proofs.slots.base_at.Goals as goal

pub overflow_sub-result : goal.overflow_sub-result
overflow_sub-result c = let low = c.if-position-slots.true in let n = c.number.ensures in
    let f = far c.args.slots.now c.requires c.args.position 0 c.args.position c.index-slots-position.result (omega arith) low in
    let is = ap slot_id c.index-slots-position.is in omega (arith, n, f, is)

pub returns-then-position-slots : goal.returns-then-position-slots
returns-then-position-slots c low d = let n = c.number.ensures in
    let f = far c.args.slots.now c.requires c.args.position 0 c.args.position c.index-slots-position.result (omega arith) low in
    let same = ap slot_id (get_or_default c.args.slots.now c.args.position d c.index-slots-position.result low) in
    let is = ap slot_id c.index-slots-position.is in omega (arith, n, f, same, is)
