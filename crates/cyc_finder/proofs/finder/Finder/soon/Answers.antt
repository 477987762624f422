use Rattle.std.proofs.Common.{◌-◌, sym, ap, ◌∙◌, subst}
use Rattle.std.specs.List.{slice_get}
use Rattle.cyc_finder.specs.Sorted.{IsAt}
use Rattle.cyc_finder.specs.Indexes.{FinderView, id_in, index_of}
use Rattle.cyc_finder.specs.Slots.{SlotView, IsHereAt}
use Rattle.cyc_finder.proofs.Here.{index_is, guessed}
use Rattle.cyc_finder.proofs.finder.Finder.soon.Goals as goal

pub returns-in-Some-clause-some : goal.returns-in-Some-clause-some
returns-in-Some-clause-some c = let xs = c.self.inside.slots.items in let id = c.args.id in let p = c.in-Some.position in
    let here = subst (λ ys. IsHereAt ys id p) c.deref.ensures.value c.in-Some.ensures.some in
    sym (ap (λ (v : FinderView). index_of id v.entries) c.self.view_is)
    ∙ index_is xs c.self.invariant.rises id p here.at c.index.result.now
    ∙ sym (ap (λ (s : SlotView). s.index) c.index.ensures) ∙ c.index_here.ensures

pub returns-in-None-clause-none : goal.returns-in-None-clause-none
returns-in-None-clause-none c first is up at = let i = c.self.inside in let xs = i.slots.items in let id = c.args.id in
    let v = sym c.self.view_is in
    let (low, there) = guessed xs c.self.invariant.rises i.first c.self.invariant.first id first
    (ap (λ (x : FinderView). slice_get x.entries 0) c.self.view_is ∙ is) up
    (subst (λ (x : FinderView). IsAt id_in x.entries id (id - first.id)) v at) in
    c.in-None.ensures.none low (subst (λ ys. IsHereAt ys id (id - i.first.base)) (sym c.deref.ensures.value) there)
