use Rattle.std.proofs.Common.{◌≡◌, None, sym, ap, ◌∙◌, subst}
use Rattle.cyc_finder.specs.Indexes.{FinderView, index_of}
use Rattle.cyc_finder.specs.Slots.{SlotView, entries_of, IsHereAt}
use Rattle.cyc_finder.proofs.Here.{index_is}
use Rattle.cyc_finder.proofs.finder.Finder.find.Goals as goal

pub returns-in-Some : goal.returns-in-Some
returns-in-Some c = let xs = c.self.inside.slots.items in let id = c.args.id in let p = c.in-Some.position in
    let here = subst (λ ys. IsHereAt ys id p) c.deref.ensures.value c.in-Some.ensures.some in
    sym c.index_here.ensures ∙ ap (λ (s : SlotView). s.index) c.index.ensures
    ∙ sym (index_is xs c.self.invariant.rises id p here.at c.index.result.now)
    ∙ ap (λ (v : FinderView). index_of id v.entries) c.self.view_is

pub returns-in-None : goal.returns-in-None
returns-in-None c = let id = c.args.id in
    sym (subst (λ ys. index_of id (entries_of ys) ≡ None) c.deref.ensures.value c.in-None.ensures.none)
    ∙ ap (λ (v : FinderView). index_of id v.entries) c.self.view_is
