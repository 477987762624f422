use Rattle.std.proofs.Common.{◌≡◌, ℕ, map, cond, eqb, set, get_or, Some, None, sym, ap, ◌∙◌, subst}
use Rattle.std.specs.List.{remove}
use Rattle.cyc_finder.specs.Sorted.{IsAt}
use Rattle.cyc_finder.specs.Indexes.{FinderView, id_in, index_in, index_of, AreDistinct}
use Rattle.cyc_finder.specs.Slots.{SlotView, slot_id, entries_of, IsHereAt, IsFirst}
use Rattle.cyc_finder.proofs.RisingIds.{rises_set}
use Rattle.cyc_finder.proofs.Few.{distinct_remove}
use Rattle.cyc_finder.proofs.Entries.{index_removed, indexes_remove}
use Rattle.cyc_finder.proofs.Here.{rank, index_is, here_is, is_here, gone_removed, entries_rise}
use Rattle.cyc_finder.proofs.finder.Finder.remove.Goals as goal
use Rattle.cyc_finder.proofs.finder.Finder.remove.Goals.{After-first_without}

pub unreachable-requires : goal.unreachable-requires
unreachable-requires c = let id = c.args.id in
    c.requires (sym (ap (λ (v : FinderView). index_of id v.entries) c.self.view_is)
    ∙ subst (λ ys. index_of id (entries_of ys) ≡ None) c.deref.ensures.value c.in_default.ensures.none)

-- what it finds
module _ (c : After-first_without) where
  at : IsAt slot_id c.self.inside.slots.items c.args.id c.in-Some.position
  at = (subst (λ ys. IsHereAt ys c.args.id c.in-Some.position) c.deref.ensures.value c.in-Some.ensures.some).at

  some : index_of c.args.id (entries_of c.self.inside.slots.items) ≡ Some c.index_here-index.result
  some = index_is c.self.inside.slots.items c.self.invariant.rises c.args.id c.in-Some.position at c.index_mut-slot.result.now
      ∙ ap (λ (s : SlotView). s.index) (sym c.index_mut-slot.ensures.value) ∙ c.index_here-index.ensures

  here : (d : SlotView) → get_or c.self.inside.slots.items c.in-Some.position d
      ≡ record { id = c.args.id; index = Some c.index_here-index.result }
  here = here_is c.self.inside.slots.items c.self.invariant.rises c.args.id c.in-Some.position at c.index_here-index.result some

  new : entries_of (set c.self.inside.slots.items c.in-Some.position c.gone.result)
      ≡ remove (entries_of c.self.inside.slots.items) (rank c.self.inside.slots.items c.in-Some.position)
  new = ap (λ s. entries_of (set c.self.inside.slots.items c.in-Some.position s)) c.gone.ensures
      ∙ gone_removed c.self.inside.slots.items c.in-Some.position c.args.id c.index_here-index.result at.in_range here

pub returns-clause-index : goal.returns-clause-index
returns-clause-index c = sym (ap (λ (v : FinderView). index_of c.args.id v.entries) c.self.view_is) ∙ some c

pub invariant_of-self : goal.invariant_of-self
invariant_of-self c =
    let f = c.self.invariant in let xs = c.self.inside.slots.items in let p : ℕ = c.in-Some.position in
    record {
      rises = rises_set slot_id xs f.rises c.args.id p (at c) c.gone.result (ap slot_id c.gone.ensures);
      distinct = subst (AreDistinct c.self.inside.room)
          (sym (ap (map index_in) (new c) ∙ indexes_remove (entries_of xs) (rank xs p)))
          (distinct_remove c.self.inside.room (map index_in (entries_of xs)) f.distinct (rank xs p));
      room = f.room;
      first = subst (λ ys. IsFirst ys c.first_without.new.first) c.deref-3.ensures.value
          c.first_without.ensures;
    }

pub returns-clause-entries : goal.returns-clause-entries
returns-clause-entries c = let xs = c.self.inside.slots.items in let id : ℕ = c.args.id in let p : ℕ = c.in-Some.position in
    subst (λ (v : FinderView). (k : ℕ) × IsAt id_in v.entries id k
    × (entries_of (set xs p c.gone.result) ≡ remove v.entries k)) c.self.view_is
    (rank xs p, is_here xs p id c.index_here-index.result (at c).in_range (here c), new c)

pub returns-clause-told : goal.returns-clause-told
returns-clause-told c j = let xs = c.self.inside.slots.items in let id : ℕ = c.args.id in let p : ℕ = c.in-Some.position in
    ap (index_of j) (new c)
    ∙ index_removed (entries_of xs) (entries_rise xs c.self.invariant.rises) id (rank xs p)
    (is_here xs p id c.index_here-index.result (at c).in_range (here c)) j
    ∙ ap (λ (v : FinderView). cond (eqb j id) None (index_of j v.entries)) c.self.view_is
