use Rattle.std.proofs.Common.{arith}
use Rattle.cyc_ring.specs.Ends.{end_view}
use Rattle.cyc_ring_sides.proofs.Knowing.{may_ask, knows_load}
use Rattle.cyc_ring_sides.proofs.firing_side.FiringSide.load_pend.Goals as goal

pub load_pend-requires : goal.load_pend-requires
load_pend-requires c = let s = c.args.self.now in let k = s.known in
    may_ask k.ids k.raises k.marked k.bank k.followed
    (end_view s.end) s.knows c.args.id _ c.in-Some.ensures.found.0 c.in-Some.ensures.found.1 (omega arith)

pub invariant_of-self-clause-knows : goal.invariant_of-self-clause-knows
invariant_of-self-clause-knows c = let s = c.args.self.now in let k = s.known in
    knows_load k.ids k.raises k.marked k.bank k.followed (end_view s.end)
    (end_view c.load_pend.new.self) s.knows c.args.id c.load_pend.result c.load_pend.ensures.learns
