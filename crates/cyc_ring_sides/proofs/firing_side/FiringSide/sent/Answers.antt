use Rattle.std.proofs.Common.{arith}
use Rattle.cyc_ring.specs.Ends.{end_view}
use Rattle.cyc_ring_sides.proofs.Knowing.{may_ask}
use Rattle.cyc_ring_sides.proofs.firing_side.FiringSide.sent.Goals as goal

pub sent-requires : goal.sent-requires
sent-requires c = let s = c.args.self.now in let k = s.known in
    may_ask k.ids k.raises k.marked k.bank k.followed
    (end_view s.end) s.knows c.args.id _ c.in-Some.ensures.found.0 c.in-Some.ensures.found.1 (omega arith)
