use Rattle.std.proofs.Common.{◌≡◌, ◌≢◌, ℕ, ◌+◌, ◌*◌, ◌<◌, ◌≤◌, inl, inr, true, List, length, sym, ◌∙◌, subst, arith}
use Rattle.std.proofs.Math.ListN.{set}
use Rattle.std.proofs.lemmas.Bool.{OnTrue_at, OnFalse_at}
use Rattle.std.proofs.lemmas.List.{get_or_default}
use Rattle.cyc_heap.specs.declared.entry.Entry.{Entry}
use Rattle.cyc_heap.specs.Tournament.{nowhere, entry_at, comes}
use Rattle.cyc_heap.specs.Few.{IsChild, IsHeapBut, IsBelow, IsSame}
use Rattle.cyc_heap.proofs.Playing.{comes_trans}
use Rattle.cyc_heap.proofs.Moving.{child_low, one_parent, first_of_both, same_self, moved_long, here, heap_down, same_after}
use Rattle.cyc_heap.proofs.Moving.{filled_heap, filled_is, apart_moved}
use Rattle.cyc_heap.proofs.few.sink.Goals.{else-loop-hole-test, then-loop-hole-test+then-not-expires_before}
use Rattle.cyc_heap.proofs.few.sink.Goals as goal

pub loop-hole-init : goal.loop-hole-init
loop-hole-init c = record {
  low = c.requires.position;
  heap = c.requires.heap;
  below = c.requires.below;
  same = same_self c.args.position c.args.few.now;
}

-- what the loop keeps
record Down (position : ℕ) (old : List Entry) (e : Entry) (hole : ℕ) (few : List Entry) : Type 0 where
  pub low : hole < length few
  pub heap : IsHeapBut hole few
  pub below : IsBelow e hole few
  pub same : IsSame position old hole few

pub loop-hole-preserved : goal.loop-hole-preserved
loop-hole-preserved c =
    let h = c.loop-hole.invariant in
    let xs = c.loop-hole.few in
    let hole = c.loop-hole.hole in
    let first = c.first_child-child.ensures in
    let m = c.first_child-child.result in
    let child : IsChild hole m = first.child in
    let down = child_low hole m child in
    let low = h.low in
    let within : m < length xs = first.low in
    let off : m ≢ hole = λ e. absurd (omega (arith, e, down)) in
    let x = c.index-few-child in
    let is : entry_at xs m ≡ x.result = get_or_default xs m nowhere x.result within ∙ sym x.is in
    let long = moved_long xs hole m within low off in
    let before = OnTrue_at c.if-not-expires_before.false c.expires_before.ensures.before in
    let new : List Entry = set xs hole (entry_at xs m) in
    let k : Down c.args.position c.args.few.now c.args.entry m (set xs hole x.result)
    = subst (λ e. Down c.args.position c.args.few.now c.args.entry m (set xs hole e)) is (record {
      low = omega (arith, long, within);
      heap = heap_down xs hole m within low off h.heap child (first_of_both hole m xs first.left first.right);
      below = λ a above. subst (λ p. comes (entry_at new p) c.args.entry ≡ true) (one_parent hole a m child above)
          (subst (λ e. comes e c.args.entry ≡ true) (sym (here xs hole m within low off ∙ is)) before);
      same = same_after xs hole m within low off c.args.position c.args.few.now h.same;
    }) in
    record { low = k.low; heap = k.heap; below = k.below; same = k.same }

pub returns-clause-heap : goal.returns-clause-heap
returns-clause-heap c =
    let h = c.loop-hole.invariant in
    let xs = c.loop-hole.few in
    let hole = c.loop-hole.hole in
    filled_heap xs hole c.args.entry h.low h.heap h.below
    (λ p is low. elim c.loop-hole-test.branch [
      | else-loop-hole-test w ↦ absurd (leaf p is low w.loop-hole-test.false)
      | then-loop-hole-test+then-not-expires_before w ↦
          (let first = w.first_child-child.ensures in
          let m = w.first_child-child.result in
          let x = w.index-few-child in
          let at : entry_at xs m ≡ x.result = get_or_default xs m nowhere x.result first.low ∙ sym x.is in
          let after = OnFalse_at w.if-not-expires_before.true w.expires_before.ensures.after in
          comes_trans c.args.entry (entry_at xs m) (entry_at xs p)
          (subst (λ e. comes c.args.entry e ≡ true) (sym at) after)
          (first_of_both hole m xs first.left first.right p is low))
    ])
    (apart_moved c.args.position c.args.few.now hole xs c.args.entry h.same c.requires.apart)
  where
    -- nothing stands below the last positions
    leaf : (p : ℕ) → IsChild c.loop-hole.hole p → p < length c.loop-hole.few
        → length c.loop-hole.few ≤ 2 * c.loop-hole.hole + 1 → ⊥
    leaf p (inl eq) low past = omega (arith, eq, low, past)
    leaf p (inr eq) low past = omega (arith, eq, low, past)

pub returns-clause-filled : goal.returns-clause-filled
returns-clause-filled c =
    let h = c.loop-hole.invariant in
    filled_is c.loop-hole.few c.loop-hole.hole c.args.entry h.low c.args.position c.args.few.now h.same
