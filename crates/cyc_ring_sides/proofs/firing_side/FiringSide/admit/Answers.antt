use Rattle.std.proofs.Common.{ℕ, get_or, set, sym, ap, ◌∙◌, subst, arith}
use Rattle.cyc_ring.specs.Ends.{end_view}
use Rattle.cyc_ring_sides.specs.Knowing.{Knows}
use Rattle.cyc_ring_sides.proofs.Knowing.{may_admit, knows_admit}
use Rattle.cyc_ring_sides.proofs.firing_side.FiringSide.admit.Goals as goal

pub admit-requires : goal.admit-requires
admit-requires c = let s = c.args.self.now in let k = s.known in
    may_admit k.ids k.raises k.marked k.bank k.followed (end_view s.end) s.knows c.args.id c.args.index
    (ap (λ (x : ℕ). get_or k.ids x 0) (sym c.number-at.ensures.value) ∙ c.if-self-at-ne0.false) c.in-None.ensures.absent
    (let at = c.number-at.ensures.value in let low = c.if-at-self.false in let most = s.knows.bank_is.1 in grind (arith))

pub invariant_of-self-clause-knows : goal.invariant_of-self-clause-knows
invariant_of-self-clause-knows c = let s = c.args.self.now in let k = s.known in let at = c.number-at.ensures.value in let id =
    c.number.ensures.value in
    subst (λ (i : ℕ). Knows (set k.ids i c.number.result) k.raises k.marked k.bank k.followed (end_view c.admit.new.self))
    (sym at)
    (subst (λ (x : ℕ). Knows (set k.ids c.args.index x) k.raises k.marked k.bank k.followed (end_view c.admit.new.self)) (sym id)
    (knows_admit k.ids k.raises k.marked k.bank k.followed (end_view s.end)
    (end_view c.admit.new.self) s.knows c.args.id c.args.index (let low = c.number-at.ensures.valid in omega (arith, at, low))
    (let low = c.number-at.ensures.valid in omega (arith, at, low)) (omega arith)
    (ap (λ (x : ℕ). get_or k.ids x 0) (sym at) ∙ c.if-self-at-ne0.false) c.in-None.ensures.absent c.admit.ensures.learns))
