use Rattle.std.proofs.Common.{arith}
use Rattle.cyc_ring.specs.Ends.{end_view}
use Rattle.cyc_ring_sides.proofs.Knowing.{may_mark, knows_mark}
use Rattle.cyc_ring_sides.proofs.firing_side.FiringSide.mark.Goals as goal

pub mark-pend-requires : goal.mark-pend-requires
mark-pend-requires c = let s = c.args.self.now in let k = s.known in
    may_mark k.ids k.raises k.marked k.bank k.followed
    (end_view s.end) s.knows c.args.id _ c.in-Some.ensures.found.0 c.in-Some.ensures.found.1 (omega arith) c.in-None.is

pub invariant_of-self-clause-knows : goal.invariant_of-self-clause-knows
invariant_of-self-clause-knows c = let s = c.args.self.now in let k = s.known in
    knows_mark k.ids k.raises k.marked k.bank k.followed (end_view s.end)
    (end_view c.mark-pend.new.self) s.knows c.args.id c.mark-pend.result c.mark-pend.ensures.learns
