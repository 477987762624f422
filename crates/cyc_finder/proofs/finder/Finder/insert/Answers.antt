use Rattle.std.proofs.Common.{◌≡◌, ℕ, ◌<◌, ◌≤◌, length, map, cond, eqb, Some, sym, ap, ◌∙◌, subst, arith}
use Rattle.std.specs.List.{insert}
use Rattle.std.proofs.lemmas.List.{length-map}
use Rattle.cyc_finder.specs.Indexes.{Entry, FinderView, index_in, index_of, IsIndexed, AreDistinct}
use Rattle.cyc_finder.specs.Slots.{entries_of, IsFirst}
use Rattle.cyc_finder.proofs.Few.{distinct_insert, fewer}
use Rattle.cyc_finder.proofs.Entries.{index_inserted, free_is, indexes_insert}
use Rattle.cyc_finder.proofs.Here.{entries_rise}
use Rattle.cyc_finder.proofs.finder.Finder.insert.Goals as goal

pub make_way-requires-clause-few : goal.make_way-requires-clause-few
make_way-requires-clause-few c =
    let f = c.self.invariant in let xs = entries_of c.self.inside.slots.items in
    let small : c.args.index < c.self.inside.room = (let r = c.requires.room in
    let e = ap (λ (v : FinderView). v.room) c.self.view_is in omega (arith, r, e)) in
    let free = free_is xs c.args.index (entries_rise c.self.inside.slots.items f.rises)
    (λ s. c.requires.free (subst (λ (v : FinderView). IsIndexed c.args.index v.entries) c.self.view_is s)) in
    let few = fewer c.self.inside.room (map index_in xs) f.distinct c.args.index small free in
    let long = length-map xs index_in in let room = f.room in omega (arith, few, long, room)

pub invariant_of-self : goal.invariant_of-self
invariant_of-self c =
    let f = c.self.invariant in let xs = entries_of c.self.inside.slots.items in let made = c.make_way in
    let index : ℕ = c.args.index in
    let small : index < c.self.inside.room = (let r = c.requires.room in
    let e = ap (λ (v : FinderView). v.room) c.self.view_is in omega (arith, r, e)) in
    let free = free_is xs index (entries_rise c.self.inside.slots.items f.rises)
    (λ s. c.requires.free (subst (λ (v : FinderView). IsIndexed index v.entries) c.self.view_is s)) in
    let (k, gap, is) = c.put-position.ensures.entries in
    let entry : Entry = record { id = c.args.id; index = index } in
    let new : entries_of c.put-position.new.slots.items ≡ insert xs k entry =
    is ∙ ap (λ ys. insert ys k entry) made.ensures.entries in
    let low : k ≤ length (map index_in xs) = (let l = gap.in_range in let e = ap length made.ensures.entries in
    let m = length-map xs index_in in omega (arith, l, e, m)) in
    record {
      rises = c.put-position.ensures.rises;
      distinct = subst (AreDistinct c.self.inside.room) (sym (ap (map index_in) new ∙ indexes_insert xs k entry))
          (distinct_insert c.self.inside.room (map index_in xs) f.distinct k index low small free);
      room = (let r = f.room in let a = made.ensures.capacity in let b = c.put-position.ensures.capacity in
          omega (arith, r, a, b));
      first = subst (λ ys. IsFirst ys c.first_with.new.first) c.deref.ensures.value c.first_with.ensures;
    }

pub returns-clause-told : goal.returns-clause-told
returns-clause-told c j =
    let (k, gap, is) = c.put-position.ensures.entries in let id = c.args.id in
    let made = c.make_way.ensures.entries in
    let xs = entries_of c.make_way.new.slots.items in
    ap (index_of j) is ∙ index_inserted xs id k c.args.index gap j
    ∙ ap (λ ys. cond (eqb j id) (Some c.args.index) (index_of j ys)) (made ∙ ap (λ (v : FinderView). v.entries) c.self.view_is)
