use Rattle.cyc_heap.proofs.Moving.{moved_filled, apart_moved}
use Rattle.cyc_heap.proofs.few.settle.Goals as goal

pub sink-requires-clause-apart : goal.sink-requires-clause-apart
sink-requires-clause-apart c = apart_moved c.args.position c.args.few.now c.rise-hole.result c.rise-hole.new.few c.args.entry
    c.rise-hole.ensures.same c.requires.apart

pub returns-clause-filled : goal.returns-clause-filled
returns-clause-filled c = moved_filled c.args.position c.args.few.now c.rise-hole.result c.rise-hole.new.few c.args.entry
    c.sink.new.few c.rise-hole.ensures.same c.sink.ensures.filled
