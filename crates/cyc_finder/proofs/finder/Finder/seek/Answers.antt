use Rattle.std.proofs.Common.{sym, ap, ◌∙◌, subst}
use Rattle.cyc_finder.specs.Slots.{SlotView}
use Rattle.cyc_finder.specs.Sorted.{IsAt, IsGap}
use Rattle.cyc_finder.specs.Indexes.{FinderView, index_of}
use Rattle.cyc_finder.specs.Slots.{slot_id}
use Rattle.cyc_finder.proofs.Here.{index_is, index_none}
use Rattle.cyc_finder.proofs.finder.Finder.seek.Goals as goal

pub returns-in-Ok-clause-value : goal.returns-in-Ok-clause-value
returns-in-Ok-clause-value c = let xs = c.self.inside.slots.items in let id = c.args.id in let p = c.in-Ok.position in
    let at = subst (λ ys. IsAt slot_id ys id p) c.deref.ensures.value c.in-Ok.ensures.found in
    c.index-in-Ok.ensures ∙ ap (λ (s : SlotView). s.index) c.index.ensures
    ∙ sym (index_is xs c.self.invariant.rises id p at c.index.result.now)
    ∙ ap (λ (v : FinderView). index_of id v.entries) c.self.view_is

pub returns-in-Err-clause-value : goal.returns-in-Err-clause-value
returns-in-Err-clause-value c = let xs = c.self.inside.slots.items in let id = c.args.id in let p = c.in-Err.field-0 in
    let gap = subst (λ ys. IsGap slot_id ys id p) c.deref.ensures.value c.in-Err.ensures.absent in
    sym (index_none xs c.self.invariant.rises id p gap) ∙ ap (λ (v : FinderView). index_of id v.entries) c.self.view_is
