use Rattle.std.proofs.Common.{Option, ℕ, sym, ap, ◌∙◌, subst, IsTrue, IsSome, false}
use Rattle.cyc_finder.specs.Slots.{SlotView}
use Rattle.cyc_finder.specs.Sorted.{IsAt, IsGap}
use Rattle.cyc_finder.specs.Indexes.{FinderView, index_of}
use Rattle.cyc_finder.specs.Slots.{slot_id}
use Rattle.cyc_finder.proofs.Here.{index_is, index_none}
use Rattle.cyc_finder.proofs.finder.Finder.has.Goals as goal

pub returns-in-Ok : goal.returns-in-Ok
returns-in-Ok c = let xs = c.self.inside.slots.items in let id = c.args.id in let p = c.in-Ok.position in
    let at = subst (λ ys. IsAt slot_id ys id p) c.deref.ensures.value c.in-Ok.ensures.found in
    let e = ap (λ (s : SlotView). s.index) c.index.ensures ∙ sym (index_is xs c.self.invariant.rises id p at c.index.result.now)
    ∙ ap (λ (v : FinderView). index_of id v.entries) c.self.view_is in
    subst (λ (o : Option ℕ). (IsTrue c.is_here.result → IsSome o) × (IsSome o → IsTrue c.is_here.result)) e
    (λ t. sym c.is_here.ensures ∙ t, λ t. c.is_here.ensures ∙ t)

pub returns-in-Err : goal.returns-in-Err
returns-in-Err c = let xs = c.self.inside.slots.items in let id = c.args.id in let p = c.in-Err.field-0 in
    let gap = subst (λ ys. IsGap slot_id ys id p) c.deref.ensures.value c.in-Err.ensures.absent in
    let e = sym (index_none xs c.self.invariant.rises id p gap)
    ∙ ap (λ (v : FinderView). index_of id v.entries) c.self.view_is in
    subst (λ (o : Option ℕ). (IsTrue false → IsSome o) × (IsSome o → IsTrue false)) e
    (λ t. t, λ t. t)
