use Rattle.std.proofs.Common.{arith}
use Rattle.cyc_ring.specs.Ends.{end_view}
use Rattle.cyc_ring_sides.proofs.Knowing.{may_raise, knows_raise}
use Rattle.cyc_ring_sides.proofs.firing_side.FiringSide.raise.Goals as goal

pub raise-answer-requires : goal.raise-answer-requires
raise-answer-requires c = let s = c.args.self.now in let k = s.known in
    may_raise k.ids k.raises k.marked k.bank k.followed
    (end_view s.end) s.knows c.args.id _ c.in-Some.ensures.found.0 c.in-Some.ensures.found.1 (omega arith)
    (λ e. let t = c.if-is_marked.ensures.1 e in absurd (cc)) (omega arith)

pub invariant_of-self-clause-knows : goal.invariant_of-self-clause-knows
invariant_of-self-clause-knows c = let s = c.args.self.now in let k = s.known in
    knows_raise k.ids k.raises k.marked k.bank k.followed (end_view s.end)
    (end_view c.raise-answer.new.self) s.knows c.args.id c.raise-answer.result c.raise-answer.ensures.learns
