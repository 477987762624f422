use Rattle.std.proofs.Common.{rules, arith}
use Rattle.cyc_ring.specs.Ends.{end_view}
use Rattle.cyc_ring_sides.proofs.Knowing.{may_poll, knows_poll, knows_clear}
use Rattle.cyc_ring_sides.proofs.firing_side.FiringSide.poll_clear.Goals as goal

pub poll_clear-requires : goal.poll_clear-requires
poll_clear-requires c = let s = c.args.self.now in let k = s.known in
    may_poll k.ids k.raises k.marked k.bank k.followed (end_view s.end) s.knows c.args.id c.in-Some.at c.in-Some.ensures.found.0
    c.in-Some.ensures.found.1 (omega arith) (search rules)

pub invariant_of-self-clause-knows : goal.invariant_of-self-clause-knows
invariant_of-self-clause-knows c = let s = c.args.self.now in let k = s.known in
    knows_poll k.ids k.raises k.marked k.bank k.followed (end_view s.end)
    (end_view c.poll_clear.new.self) s.knows c.args.id c.in_default-poll_clear.ensures.learns

pub invariant_of-self-2-clause-knows : goal.invariant_of-self-2-clause-knows
invariant_of-self-2-clause-knows c = let s = c.args.self.now in let k = s.known in
    knows_clear k.ids k.raises k.marked k.bank k.followed (end_view s.end)
    (end_view c.poll_clear.new.self) s.knows c.args.id c.in-Some.at c.in-Some-poll_clear.counts c.in-Some.ensures.found.0
    (let low = c.in-Some.ensures.found.0 in omega arith)
    (omega arith) c.in-Some.ensures.found.1 c.in-Some-poll_clear.ensures.learns
