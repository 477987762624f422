use Rattle.std.proofs.Common.{◌≡◌, ℕ, ◌<◌, Some, length, get_or, sym, ◌∙◌, subst, arith}
use Rattle.std.specs.List.{AllWithin}
use Rattle.std.proofs.lemmas.List.{get_or_default}
use Rattle.cyc_finder.specs.Slots.{SlotView}
use Rattle.cyc_finder.specs.Sorted.{IsPassed, ComesAfter, IsNextAfter}
use Rattle.cyc_finder.specs.Indexes.{Entry, FinderView, id_in}
use Rattle.cyc_finder.specs.Slots.{IsGoneSlot}
use Rattle.cyc_finder.proofs.Here.{rank, none_after, next_is, here_at}
use Rattle.cyc_finder.proofs.finder.Finder.next_after.Goals as goal

pub returns-then-position-len-clause-none : goal.returns-then-position-len-clause-none
returns-then-position-len-clause-none c =
    let i = c.self.inside in let xs = i.slots.items in let n = c.args.passed in let a = c.after.result in
    let e = c.deref.ensures.value in let e2 = c.deref-3.ensures.value in
    subst (λ (v : FinderView). (k : ℕ) (d : Entry) → k < length v.entries → IsPassed n (get_or v.entries k d).id) c.self.view_is
    (none_after xs i.first c.self.invariant.first n a c.max-from.result c.next_here-position.result
    (subst (λ ys. AllWithin (λ (s : SlotView). IsPassed n s.id) ys 0 a) e c.after.ensures.before)
    (subst (λ ys. AllWithin (λ (s : SlotView). ComesAfter n s.id) ys a (length ys)) e c.after.ensures.from)
    c.max-from.ensures
    (subst (λ ys. AllWithin IsGoneSlot ys c.max-from.result c.next_here-position.result) e2 c.next_here-position.ensures.gone)
    (let p = c.if-position-len.true in let l = c.len.ensures in omega (arith, p, l)))

pub returns-clause-some : goal.returns-clause-some
returns-clause-some c =
    let i = c.self.inside in let xs = i.slots.items in let n = c.args.passed in let a = c.after.result in
    let e = c.deref.ensures.value in let e2 = c.deref-3.ensures.value in let p = c.next_here-position.result in
    let within : p < length xs = (let l = c.if-position-len.false in let m = c.len.ensures in omega (arith, l, m)) in
    let s = c.index-slot.result.now in let j : ℕ = c.index_here.result in let id : ℕ = c.id.result in
    let slot : (d : SlotView) → get_or xs p d ≡ record { id = id; index = Some j } =
    λ d. get_or_default xs p d s within ∙ sym c.index-slot.ensures
    ∙ (λ y. record { id = sym c.id.ensures y; index = c.index_here.ensures y }) in
    subst (λ (v : FinderView). (k : ℕ) × IsNextAfter id_in v.entries n k
    × ((d : Entry) → get_or v.entries k d ≡ record { id = id; index = j })) c.self.view_is (
      rank xs p,
      next_is xs i.first c.self.invariant.first n a c.max-from.result p
          (subst (λ ys. AllWithin (λ (s : SlotView). IsPassed n s.id) ys 0 a) e c.after.ensures.before)
          (subst (λ ys. AllWithin (λ (s : SlotView). ComesAfter n s.id) ys a (length ys)) e c.after.ensures.from)
          c.max-from.ensures (subst (λ ys. AllWithin IsGoneSlot ys c.max-from.result p) e2 c.next_here-position.ensures.gone)
          c.next_here-position.ensures.after id j within slot,
      here_at xs p id j within slot,
    )
