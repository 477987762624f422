use Rattle.std.proofs.Common.{◌≡◌, ◌≢◌, ◌<◌, ℕ, inl, inr, length, take, Some, sym, ap, ◌∙◌, subst, arith}
use Rattle.std.proofs.Math.ListN.{set}
use Rattle.std.proofs.lemmas.List.{length_push}
use Rattle.cyc_types.specs.Series.{never}
use Rattle.cyc_types.specs.Expirations.{Expiration}
use Rattle.cyc_heap.specs.declared.entry.Entry.{Entry}
use Rattle.cyc_heap.specs.Tournament.{key, entry_at, slots}
use Rattle.cyc_heap.specs.Few.{shown}
use Rattle.cyc_heap.specs.Heap.{HeapView}
use Rattle.cyc_heap.proofs.Slots.{slot_used}
use Rattle.cyc_heap.proofs.Views.{within, size_is, len_is, at_free, few_or_many}
use Rattle.cyc_heap.proofs.Listed.{set_slots, next_free, next_used, after}
use Rattle.cyc_heap.proofs.Spreading.{length-shown}
use Rattle.cyc_heap.proofs.Fronts.{tree, entries_long}
use Rattle.cyc_heap.proofs.heap.ExpiryHeap.insert.Goals as goal

pub make_room-self-inside-requires-clause-tree : goal.make_room-self-inside-requires-clause-tree
make_room-self-inside-requires-clause-tree c =
    let i = c.self.inside in
    tree i.is_few i.held i.root i.leaves i.size i.given i.entries.items i.free.items c.self.invariant.0 c.self.invariant.1

pub make_room-self-inside-requires-clause-low : goal.make_room-self-inside-requires-clause-low
make_room-self-inside-requires-clause-low c =
    let i = c.self.inside in
    let h = c.self.invariant.0 in
    let q = c.self.invariant.1 in
    let xs = shown i.is_few i.held i.entries.items in
    let few = take i.held i.entries.items in
    let len = len_is i.is_few few i.leaves i.size i.given xs i.free.items i.room c.args.self.now h c.self.view_is in
    let size = size_is i.is_few few i.leaves i.size i.given xs i.free.items i.room c.args.self.now h c.self.view_is in
    let less = c.requires in
    let wide = h.wide in
    let some = h.some in
    elim (few_or_many i.is_few) [
      | inl small ↦ (let used = q.used small in omega (arith, used, len, size, less, wide))
      | inr many ↦ (let none = q.none many in omega (arith, none, some))
    ]

pub next_index-index-requires : goal.next_index-index-requires
next_index-index-requires c = λ none. (
    let i = c.self.inside in
    let h = c.self.invariant.0 in
    let xs = shown i.is_few i.held i.entries.items in
    let few = take i.held i.entries.items in
    let len = len_is i.is_few few i.leaves i.size i.given xs i.free.items i.room c.args.self.now h c.self.view_is in
    let size = size_is i.is_few few i.leaves i.size i.given xs i.free.items i.room c.args.self.now h c.self.view_is in
    let less = c.requires in
    let wide = h.wide in
    let all = h.at_most in
    let zero = ap length none in omega (arith, len, size, less, wide, all, zero))

pub add-self-inside-requires-clause-index : goal.add-self-inside-requires-clause-index
add-self-inside-requires-clause-index c =
    let i = c.self.inside in
    let h = c.self.invariant.0 in
    let xs = shown i.is_few i.held i.entries.items in
    let few = take i.held i.entries.items in
    let len = len_is i.is_few few i.leaves i.size i.given xs i.free.items i.room c.args.self.now h c.self.view_is in
    let size = size_is i.is_few few i.leaves i.size i.given xs i.free.items i.room c.args.self.now h c.self.view_is in
    let less = c.requires in
    let x = c.next_index-index in
    let (low, more, known, unused) = next_free i.is_few few i.leaves i.size i.given xs i.free.items x.result
    x.new.given x.new.free.items h x.ensures.next (omega (arith, len, size, less)) in
    let wide = h.wide in
    omega (arith, low, known, wide)

pub add-self-inside-requires-clause-free : goal.add-self-inside-requires-clause-free
add-self-inside-requires-clause-free c =
    let i = c.self.inside in
    let h = c.self.invariant.0 in
    let xs = shown i.is_few i.held i.entries.items in
    let few = take i.held i.entries.items in
    let len = len_is i.is_few few i.leaves i.size i.given xs i.free.items i.room c.args.self.now h c.self.view_is in
    let size = size_is i.is_few few i.leaves i.size i.given xs i.free.items i.room c.args.self.now h c.self.view_is in
    let less = c.requires in
    let x = c.next_index-index in
    let (low, more, known, unused) = next_free i.is_few few i.leaves i.size i.given xs i.free.items x.result
    x.new.given x.new.free.items h x.ensures.next (omega (arith, len, size, less)) in
    let wide = h.wide in
    subst (λ (e : Entry). never < e.moment)
    (sym (c.make_room-self-inside.ensures.kept x.result (omega (arith, low, known, wide)))) unused

pub add-self-inside-requires-clause-space : goal.add-self-inside-requires-clause-space
add-self-inside-requires-clause-space c =
    let i = c.self.inside in
    let h = c.self.invariant.0 in
    let q = c.self.invariant.1 in
    let xs = shown i.is_few i.held i.entries.items in
    let few = take i.held i.entries.items in
    let len = len_is i.is_few few i.leaves i.size i.given xs i.free.items i.room c.args.self.now h c.self.view_is in
    let size = size_is i.is_few few i.leaves i.size i.given xs i.free.items i.room c.args.self.now h c.self.view_is in
    let less = c.requires in
    let l = entries_long i.is_few i.held i.root i.leaves i.size i.given i.entries.items i.free.items h q in
    let m = c.make_room-self-inside.ensures in
    let long = m.long in
    let wide = h.wide in
    let some = h.some in
    elim (few_or_many c.make_room-self-inside.result) [
      | inl small ↦ (let (was, same, _) = m.few small in
          let used = q.used was in omega (arith, same, used, len, size, less, wide, l, long))
      | inr many ↦ (let none = m.none many in omega (arith, none, l, long, some))
    ]

pub invariant_of-self : goal.invariant_of-self
invariant_of-self c =
    let i = c.self.inside in
    let h = c.self.invariant.0 in
    let q = c.self.invariant.1 in
    let xs = shown i.is_few i.held i.entries.items in
    let few = take i.held i.entries.items in
    let len = len_is i.is_few few i.leaves i.size i.given xs i.free.items i.room c.args.self.now h c.self.view_is in
    let size = size_is i.is_few few i.leaves i.size i.given xs i.free.items i.room c.args.self.now h c.self.view_is in
    let less = c.requires in
    let x = c.next_index-index in
    let (low, more, known, unused) = next_free i.is_few few i.leaves i.size i.given xs i.free.items x.result
    x.new.given x.new.free.items h x.ensures.next (omega (arith, len, size, less)) in
    let r = c.make_room-self-inside in
    let m = r.ensures in
    let f = c.add-self-inside.ensures in
    let new = c.add-self-inside.new.entries.items in
    let ys = shown r.result c.add-self-inside.result new in
    let length_is = f.changed.long ∙ length-shown r.result r.new.held r.new.entries.items ∙ m.long
    ∙ sym (length-shown i.is_few i.held i.entries.items) in
    let others : (k : ℕ) → k < i.leaves → k ≢ x.result → entry_at ys k ≡ entry_at xs k
    = λ k low off. f.changed.others k low off ∙ m.kept k low in
    let room = f.room in
    let room_before = m.room in
    let cap = c.self.invariant.3 in
    let kept = x.ensures.room in
    let free = c.self.invariant.4 in (
      after i.is_few r.result few (take c.add-self-inside.result new) i.leaves i.size i.given x.new.given
          xs ys i.free.items x.new.free.items x.result c.new-entry.result h length_is f.tree.heap f.tree.played f.changed.here
          (λ unused. absurd (let valid = c.new-entry.ensures.valid in omega (arith, unused, valid))) others low more known
          (next_used i.is_few few i.leaves i.size i.given xs i.free.items x.result x.new.given
          x.new.free.items h
          x.ensures.next (omega (arith, len, size, less)) ys c.new-entry.result length_is
          f.changed.here others c.new-entry.ensures.valid c.new-entry.ensures.index),
      record {
        first = c.root_at-self-inside.ensures;
        used = λ small. let (was, same, _) = m.few small in
            let one = f.few small in
            let used = q.used was in
            elim x.ensures.next [
              | inl (is, given) ↦ (let n = ap length is ∙ length_push x.new.free.items x.result in
                  omega (arith, n, given, one, same, used))
              | inr (none, none_after, at, given) ↦ (let n = ap length none_after in
                  let k = ap length none in omega (arith, n, k, given, one, same, used))
            ];
        most = λ small. let (_, _, most) = m.few small in let one = f.few small in omega (arith, most, one);
        none = f.many;
        front = f.tree.front;
      },
      c.self.invariant.2,
      omega (arith, room, cap, room_before),
      omega (arith, kept, free),
    )

pub returns-clause-below : goal.returns-clause-below
returns-clause-below c =
    let i = c.self.inside in
    let h = c.self.invariant.0 in
    let xs = shown i.is_few i.held i.entries.items in
    let few = take i.held i.entries.items in
    let len = len_is i.is_few few i.leaves i.size i.given xs i.free.items i.room c.args.self.now h c.self.view_is in
    let size = size_is i.is_few few i.leaves i.size i.given xs i.free.items i.room c.args.self.now h c.self.view_is in
    let less = c.requires in
    let x = c.next_index-index in
    let (low, more, known, unused) = next_free i.is_few few i.leaves i.size i.given xs i.free.items x.result
    x.new.given x.new.free.items h x.ensures.next (omega (arith, len, size, less)) in
    omega (arith, low, known, size)

pub returns-clause-free : goal.returns-clause-free
returns-clause-free c =
    let i = c.self.inside in
    let h = c.self.invariant.0 in
    let xs = shown i.is_few i.held i.entries.items in
    let few = take i.held i.entries.items in
    let len = len_is i.is_few few i.leaves i.size i.given xs i.free.items i.room c.args.self.now h c.self.view_is in
    let size = size_is i.is_few few i.leaves i.size i.given xs i.free.items i.room c.args.self.now h c.self.view_is in
    let less = c.requires in
    let x = c.next_index-index in
    let (low, more, known, unused) = next_free i.is_few few i.leaves i.size i.given xs i.free.items x.result
    x.new.given x.new.free.items h x.ensures.next (omega (arith, len, size, less)) in
    at_free i.is_few few i.leaves i.size i.given xs i.free.items i.room c.args.self.now h c.self.view_is
    x.result
    (omega (arith, low, known)) unused

pub returns-clause-slots : goal.returns-clause-slots
returns-clause-slots c =
    let i = c.self.inside in
    let h = c.self.invariant.0 in
    let xs = shown i.is_few i.held i.entries.items in
    let few = take i.held i.entries.items in
    let len = len_is i.is_few few i.leaves i.size i.given xs i.free.items i.room c.args.self.now h c.self.view_is in
    let size = size_is i.is_few few i.leaves i.size i.given xs i.free.items i.room c.args.self.now h c.self.view_is in
    let less = c.requires in
    let x = c.next_index-index in
    let (low, more, known, unused) = next_free i.is_few few i.leaves i.size i.given xs i.free.items x.result
    x.new.given x.new.free.items h x.ensures.next (omega (arith, len, size, less)) in
    let inside = within i.is_few few i.leaves i.size i.given xs i.free.items i.room c.args.self.now h c.self.view_is in
    let r = c.make_room-self-inside in
    let m = r.ensures in
    let wide = h.wide in
    let e = c.new-entry.result in
    let f = c.add-self-inside.ensures in
    let ys = shown r.result c.add-self-inside.result c.add-self-inside.new.entries.items in
    let length_is = f.changed.long ∙ length-shown r.result r.new.held r.new.entries.items ∙ m.long
    ∙ sym (length-shown i.is_few i.held i.entries.items) in
    let put : Expiration = record { moment = c.args.moment; id = c.args.id } in
    let key_is : key e ≡ put = λ z. record { moment = c.new-entry.ensures.moment z; id = c.new-entry.ensures.id z } in
    set_slots i.size xs ys x.result e inside (omega (arith, length_is, inside))
    (omega (arith, low, known)) f.changed.here (λ k before off. f.changed.others k (omega (arith, before, wide)) off
    ∙ m.kept k (omega (arith, before, wide)))
    ∙ ap (set (slots i.size xs) x.result) (slot_used e c.new-entry.ensures.valid)
    ∙ ap (λ (v : HeapView). set v.slots x.result (Some (key e))) c.self.view_is
    ∙ ap (λ k. set c.args.self.now.slots x.result (Some k)) key_is
