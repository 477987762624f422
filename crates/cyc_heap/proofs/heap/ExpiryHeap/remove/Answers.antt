use Rattle.std.proofs.Common.{◌≡◌, ◌≢◌, ◌<◌, ℕ, inl, inr, None, take, length, refl, sym, ap, ◌∙◌, subst, arith}
use Rattle.std.proofs.Math.ListN.{set}
use Rattle.std.proofs.lemmas.List.{length_push}
use Rattle.cyc_heap.specs.declared.entry.Entry.{Entry}
use Rattle.cyc_heap.specs.Tournament.{entry_at, free_entry, slots, IsListed}
use Rattle.cyc_heap.specs.Few.{shown}
use Rattle.cyc_heap.specs.Heap.{HeapView}
use Rattle.cyc_heap.proofs.Slots.{slot_free}
use Rattle.cyc_heap.proofs.Views.{within, in_use, few_or_many}
use Rattle.cyc_heap.proofs.Listed.{set_slots, freed, after}
use Rattle.cyc_heap.proofs.Spreading.{length-shown}
use Rattle.cyc_heap.proofs.Gathering.{all_counted}
use Rattle.cyc_heap.proofs.Fronts.{tree}
use Rattle.cyc_heap.proofs.heap.ExpiryHeap.remove.Goals as goal

pub take-self-inside-requires-clause-index : goal.take-self-inside-requires-clause-index
take-self-inside-requires-clause-index c =
    let i = c.self.inside in
    let (_, _, low, _) = in_use i.is_few (take i.held i.entries.items) i.leaves i.size i.given
    (shown i.is_few i.held i.entries.items) i.free.items i.room c.args.self.now c.self.invariant.0 c.self.view_is c.args.index
    c.requires in
    low

pub take-self-inside-requires-clause-used : goal.take-self-inside-requires-clause-used
take-self-inside-requires-clause-used c =
    let i = c.self.inside in
    let (_, _, _, used) = in_use i.is_few (take i.held i.entries.items) i.leaves i.size i.given
    (shown i.is_few i.held i.entries.items) i.free.items i.room c.args.self.now c.self.invariant.0 c.self.view_is c.args.index
    c.requires in
    used

pub take-self-inside-requires-clause-tree : goal.take-self-inside-requires-clause-tree
take-self-inside-requires-clause-tree c =
    let i = c.self.inside in
    tree i.is_few i.held i.root i.leaves i.size i.given i.entries.items i.free.items c.self.invariant.0 c.self.invariant.1

pub invariant_of-self : goal.invariant_of-self
invariant_of-self c =
    let i = c.self.inside in
    let h = c.self.invariant.0 in
    let q = c.self.invariant.1 in
    let xs = shown i.is_few i.held i.entries.items in
    let few = take i.held i.entries.items in
    let (mine, low, leaf, used) = in_use i.is_few few i.leaves i.size i.given xs i.free.items i.room
    c.args.self.now h c.self.view_is c.args.index c.requires in
    let inside = within i.is_few few i.leaves i.size i.given xs i.free.items i.room c.args.self.now h c.self.view_is in
    let f = c.take-self-inside.ensures in
    let r = c.is_few_now-self-inside in
    let g = r.ensures in
    let ys = shown r.result r.new.held r.new.entries.items in
    let long = length-shown r.result r.new.held r.new.entries.items ∙ g.long
    ∙ sym (length-shown i.is_few c.take-self-inside.result c.take-self-inside.new.entries.items) ∙ f.changed.long in
    let here = g.kept c.args.index leaf ∙ f.changed.here in
    let others : (k : ℕ) → k < i.leaves → k ≢ c.args.index → entry_at ys k ≡ entry_at xs k
    = λ k low off. g.kept k low ∙ f.changed.others k low off in
    let known = h.known in
    let wide = h.wide in
    let room = f.room in
    let room_after = g.room in
    let cap = c.self.invariant.3 in
    let p = c.push_reserved.ensures in
    let kept = p.capacity in
    let free = c.self.invariant.4 in
    let listed = subst (λ f. IsListed i.given ys f) (sym p.items)
    (freed i.given xs ys c.args.index free_entry (omega (arith, inside, known))
    (omega (arith, long, inside, known)) mine here
    (λ k before off. others k (omega (arith, before, known, wide)) off) i.free.items h.listed used (omega arith)) in
    let count = listed.count in
    let pushed = ap length p.items ∙ length_push i.free.items c.args.index in
    let ok = c.push_reserved.new.self.ok in
    let n = c.len.ensures in
    let saved = c.saturating_sub-len.ensures in
    let zs = shown i.is_few c.take-self-inside.result c.take-self-inside.new.entries.items in
    let was = f.changed.long in
    let all_leaves = h.long in
    let all = all_counted i.given i.leaves zs ys (omega (arith, known, wide)) (omega (arith, was, all_leaves))
    (omega (arith, long, all_leaves)) g.kept (λ k from low. let unused = h.unused k from low in
    let m = ap (λ (e : Entry). e.moment) (others k low (λ e. absurd (omega (arith, e, from, mine)))) in
    omega (arith, m, unused)) in (
      after i.is_few r.result few (take r.new.held r.new.entries.items) i.leaves i.size i.given i.given xs ys
          i.free.items c.push_reserved.new.self.items c.args.index free_entry h long g.tree.heap g.tree.played here
          (λ _. refl) others mine (omega arith) known listed,
      record {
        first = c.root_at-self-inside.ensures;
        used = λ small. elim (few_or_many i.is_few) [
          | inl was ↦ (let (_, same) = g.few was in
              let one = f.few was in
              let u = q.used was in omega (arith, same, one, u, pushed))
          | inr many ↦ (let (_, left) = g.left many small in
              omega (arith, left, all, count))
        ];
        most = λ small. elim (few_or_many i.is_few) [
          | inl was ↦ (let (_, same) = g.few was in
              let one = f.few was in
              let u = q.most was in omega (arith, same, one, u))
          | inr many ↦ (let (most, left) = g.left many small in
              omega (arith, left, all, most, saved, n, ok, count))
        ];
        none = g.none;
        front = g.tree.front;
      },
      c.self.invariant.2,
      omega (arith, room, room_after, cap),
      omega (arith, kept, free),
    )

pub returns-clause-slots : goal.returns-clause-slots
returns-clause-slots c =
    let i = c.self.inside in
    let h = c.self.invariant.0 in
    let xs = shown i.is_few i.held i.entries.items in
    let few = take i.held i.entries.items in
    let (_, low, leaf, used) = in_use i.is_few few i.leaves i.size i.given xs i.free.items i.room
    c.args.self.now h c.self.view_is c.args.index c.requires in
    let inside = within i.is_few few i.leaves i.size i.given xs i.free.items i.room c.args.self.now h c.self.view_is in
    let f = c.take-self-inside.ensures in
    let r = c.is_few_now-self-inside in
    let g = r.ensures in
    let ys = shown r.result r.new.held r.new.entries.items in
    let long = length-shown r.result r.new.held r.new.entries.items ∙ g.long
    ∙ sym (length-shown i.is_few c.take-self-inside.result c.take-self-inside.new.entries.items) ∙ f.changed.long in
    let wide = h.wide in
    set_slots i.size xs ys c.args.index free_entry inside (omega (arith, long, inside))
    low (g.kept c.args.index leaf ∙ f.changed.here)
    (λ k before off. g.kept k (omega (arith, before, wide)) ∙ f.changed.others k (omega (arith, before, wide)) off)
    ∙ ap (set (slots i.size xs) c.args.index) (slot_free free_entry (omega arith))
    ∙ ap (λ (v : HeapView). set v.slots c.args.index None) c.self.view_is
