use Rattle.std.proofs.Common.{◌≡◌, ◌≤◌, ◌+◌, ◌-◌, ◌++◌, inl, inr, ℕ, List, take, replicate, Option, None, sym, ap, ◌∙◌, arith}
use Rattle.std.proofs.lemmas.Bool.{cases_lt, cond-true, cond-false}
use Rattle.std.proofs.lemmas.List.{append-nil}
use Rattle.cyc_types.specs.Expirations.{Expiration}
use Rattle.cyc_heap.specs.declared.entry.Entry.{Entry}
use Rattle.cyc_heap.specs.Tournament.{slots, winner_of}
use Rattle.cyc_heap.specs.Few.{shown, first_index}
use Rattle.cyc_heap.specs.Heap.{HeapView, size_of}
use Rattle.cyc_heap.proofs.Slots.{slots_kept, slots_more}
use Rattle.cyc_heap.proofs.Views.{within, size_is, few_or_many, root_many, root_few}
use Rattle.cyc_heap.proofs.Spreading.{length-shown}
use Rattle.cyc_heap.proofs.Growing.{kept_listed, same_root}
use Rattle.cyc_heap.proofs.Fronts.{entries_long, tree, tree_few}
use Rattle.cyc_heap.proofs.Widening.{same_front, wide_kept, wide_unused, played_new, wide_tree}
use Rattle.cyc_heap.proofs.heap.ExpiryHeap.widen.Goals as goal

pub lay_out-self-inside-requires-clause-long : goal.lay_out-self-inside-requires-clause-long
lay_out-self-inside-requires-clause-long c =
    let i = c.self.inside in
    let l = entries_long i.is_few i.held i.root i.leaves i.size i.given i.entries.items i.free.items c.self.invariant.0
    c.self.invariant.1 in
    omega (arith, l)

pub invariant_of-self : goal.invariant_of-self
invariant_of-self c =
    let i = c.self.inside in
    let es = i.entries.items in
    let h = c.self.invariant.0 in
    let q = c.self.invariant.1 in
    let f = c.lay_out-self-inside.ensures in
    let new = c.lay_out-self-inside.new.entries.items in
    let wider = c.lay_out-self-inside.result in
    let t = tree i.is_few i.held i.root i.leaves i.size i.given es i.free.items h q in
    let long = f.long in
    let more = f.more in
    let known = h.known in
    let wide = h.wide in
    let some = h.some in
    let larger = c.if-size-self.true in
    let room = f.room in
    let cap = c.self.invariant.3 in
    let was = h.long in
    let l = length-shown i.is_few i.held new in
    let kept = wide_kept i.is_few i.held i.leaves wider es new t q.none more (omega (arith, long)) f.front f.kept
    f.unused
    f.played in
    let unused = wide_unused i.is_few i.held i.leaves wider es new t q.none more (omega (arith, long)) f.front f.kept
    f.unused f.played in
    let after = wide_tree i.is_few i.held i.leaves wider es new t q.none more (omega (arith, long)) f.front f.kept
    f.unused f.played in
    let reserved : c.args.size ≤ i.room = (let is = ap (λ (v : HeapView). v.room) c.self.view_is in let r = c.requires.reserved in
    omega (arith, is, r)) in (
      record {
        some = omega (arith, some, more);
        at_most = f.few;
        long = omega (arith, long, l);
        wide = f.size;
        known = omega (arith, known, larger);
        heap = after.heap;
        played = after.played;
        bare = after.bare;
        listed = kept_listed i.given (shown i.is_few i.held es) (shown i.is_few i.held new) i.free.items
            (omega (arith, known, wide, some, was)) (omega (arith, known, wide, some, more, long, l))
            (λ k low. kept k (omega (arith, low, known, wide))) h.listed;
        unused = λ k from low. elim (cases_lt k i.leaves) [
          | inl before ↦ (let m = ap (λ (e : Entry). e.moment) (kept k before) in
              let u = h.unused k from before in omega (arith, m, u))
          | inr past ↦ (let m = ap (λ (e : Entry). e.moment) (unused k past low) in omega (arith, m))
        ];
      },
      record {
        first = c.root_at-self-inside.ensures;
        used = q.used;
        most = λ small. let m = q.most small in omega (arith, m, more);
        none = q.none;
        front = after.front;
      },
      reserved,
      omega (arith, room, cap),
      c.self.invariant.4,
    )

pub returns-then-size-self-clause-slots : goal.returns-then-size-self-clause-slots
returns-then-size-self-clause-slots c =
    let i = c.self.inside in
    let es = i.entries.items in
    let h = c.self.invariant.0 in
    let q = c.self.invariant.1 in
    let f = c.lay_out-self-inside.ensures in
    let new = c.lay_out-self-inside.new.entries.items in
    let wider = c.lay_out-self-inside.result in
    let t = tree i.is_few i.held i.root i.leaves i.size i.given es i.free.items h q in
    let xs = shown i.is_few i.held es in
    let ys = shown i.is_few i.held new in
    let long = f.long in
    let fits = f.size in
    let more = f.more in
    let known = h.known in
    let wide = h.wide in
    let some = h.some in
    let larger = c.if-size-self.true in
    let l = length-shown i.is_few i.held new in
    let kept = wide_kept i.is_few i.held i.leaves wider es new t q.none more (omega (arith, long)) f.front f.kept
    f.unused
    f.played in
    let unused = wide_unused i.is_few i.held i.leaves wider es new t q.none more (omega (arith, long)) f.front f.kept
    f.unused f.played in
    let inside = within i.is_few (take i.held es) i.leaves i.size i.given xs i.free.items i.room c.args.self.now h
    c.self.view_is in
    ap (λ n. slots n ys)
    (let e : c.args.size ≡ i.size + (c.args.size - i.size) = omega (arith, larger) in e)
    ∙ slots_more i.size (c.args.size - i.size) ys (omega
    (arith, larger, long, fits, some, more, l))
    (λ k from low. elim (cases_lt k i.leaves) [
      | inl before ↦ (let m = ap (λ (e : Entry). e.moment) (kept k before) in
          let u = h.unused k (omega (arith, from, known)) before in omega (arith, m, u))
      | inr past ↦ (let m = ap (λ (e : Entry). e.moment) (unused k past (omega (arith, low, larger, fits))) in omega (arith, m))
    ])
    ∙ ap (λ (os : List (Option Expiration)). os ++ replicate (c.args.size - i.size) None)
    (slots_kept i.size xs ys inside (omega (arith, wide, more, long, some, l))
    (λ k low. kept k (omega (arith, low, wide))))
    ∙ ap (λ (v : HeapView). v.slots ++ replicate (c.args.size - i.size) None) c.self.view_is
    ∙ ap (λ n. c.args.self.now.slots ++ replicate (c.args.size - n) None)
    (sym (size_is i.is_few (take i.held es) i.leaves i.size i.given xs i.free.items i.room c.args.self.now h
    c.self.view_is))

pub returns-then-size-self-clause-root : goal.returns-then-size-self-clause-root
returns-then-size-self-clause-root c =
    let i = c.self.inside in
    let es = i.entries.items in
    let h = c.self.invariant.0 in
    let q = c.self.invariant.1 in
    let f = c.lay_out-self-inside.ensures in
    let new = c.lay_out-self-inside.new.entries.items in
    let wider = c.lay_out-self-inside.result in
    let t = tree i.is_few i.held i.root i.leaves i.size i.given es i.free.items h q in
    let xs = shown i.is_few i.held es in
    let ys = shown i.is_few i.held new in
    let long = f.long in
    let more = f.more in
    let kept = wide_kept i.is_few i.held i.leaves wider es new t q.none more (omega (arith, long)) f.front f.kept
    f.unused
    f.played in
    let unused = wide_unused i.is_few i.held i.leaves wider es new t q.none more (omega (arith, long)) f.front f.kept
    f.unused f.played in
    elim (few_or_many i.is_few) [
      | inl small ↦ cond-true i.is_few (first_index (take i.held new)) (winner_of wider ys) small
          ∙ ap first_index (same_front i.held i.leaves wider es new (tree_few i.is_few i.held i.leaves es small t) more
          (omega (arith, long)) (f.front small))
          ∙ sym (root_few i.is_few (take i.held es) i.leaves i.size i.given xs i.free.items i.room c.args.self.now h
          c.self.view_is small)
      | inr many ↦ cond-false i.is_few (first_index (take i.held new)) (winner_of wider ys) many
          ∙ same_root i.leaves wider xs ys (h.played many)
          (played_new i.is_few i.held i.leaves wider es new t q.none more (omega (arith, long)) f.front f.kept f.unused
          f.played many) h.some more kept
          (λ k past low. let m = ap (λ (e : Entry). e.moment) (unused k past low) in omega (arith, m))
          ∙ sym (root_many i.is_few (take i.held es) i.leaves i.size i.given xs i.free.items i.room c.args.self.now h
          c.self.view_is many)
    ]

-- nothing is added
none_added : (os : List (Option Expiration)) (n : ℕ) → n ≡ 0 → os ≡ os ++ replicate n None
none_added os n is = sym (append-nil os) ∙ ap (λ n. os ++ replicate n None) (sym is)

pub returns-else-size-self-clause-slots : goal.returns-else-size-self-clause-slots
returns-else-size-self-clause-slots c =
    let i = c.self.inside in
    let less = c.if-size-self.false in
    let size = size_is i.is_few (take i.held i.entries.items) i.leaves i.size i.given (shown i.is_few i.held i.entries.items)
    i.free.items i.room c.args.self.now c.self.invariant.0 c.self.view_is in
    none_added c.args.self.now.slots (c.args.size - size_of c.args.self.now) (omega (arith, less, size))
