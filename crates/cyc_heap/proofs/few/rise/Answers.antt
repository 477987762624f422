use Rattle.std.proofs.Common.{◌≡◌, ◌≢◌, ℕ, ◌-◌, ◌/◌, ◌<◌, true, List, length, sym, ◌∙◌, subst, arith}
use Rattle.std.proofs.Math.ListN.{set}
use Rattle.std.proofs.lemmas.Bool.{OnFalse_at}
use Rattle.std.proofs.lemmas.List.{get_or_default}
use Rattle.cyc_heap.specs.declared.entry.Entry.{Entry}
use Rattle.cyc_heap.specs.Tournament.{nowhere, entry_at, comes}
use Rattle.cyc_heap.specs.Few.{IsChild, IsHeapBut, IsSame}
use Rattle.cyc_heap.proofs.Moving.{child_low, one_parent, parent, same_self, moved_long, heap_up, same_after}
use Rattle.cyc_heap.proofs.few.rise.Goals as goal

pub loop-hole-init : goal.loop-hole-init
loop-hole-init c = record {
  low = c.requires.position;
  heap = c.requires.heap;
  same = same_self c.args.position c.args.few.now;
}

-- what the loop keeps
record Up (position : ℕ) (old : List Entry) (hole : ℕ) (few : List Entry) : Type 0 where
  pub low : hole < length few
  pub heap : IsHeapBut hole few
  pub same : IsSame position old hole few

pub loop-hole-preserved : goal.loop-hole-preserved
loop-hole-preserved c =
    let h = c.loop-hole.invariant in
    let xs = c.loop-hole.few in
    let hole = c.loop-hole.hole in
    let m = (hole - 1) / 2 in
    let child : IsChild m hole = parent hole c.loop-hole-test.true in
    let down = child_low m hole child in
    let low = h.low in
    let within : m < length xs = omega (arith, down, low) in
    let off : m ≢ hole = λ e. absurd (omega (arith, e, down)) in
    let x = c.index-few-parent in
    let is : entry_at xs m ≡ x.result = get_or_default xs m nowhere x.result within ∙ sym x.is in
    let long = moved_long xs hole m within low off in
    let k : Up c.args.position c.args.few.now m (set xs hole x.result)
    = subst (λ e. Up c.args.position c.args.few.now m (set xs hole e)) is (record {
      low = omega (arith, long, within);
      heap = heap_up xs hole m within low off h.heap child;
      same = same_after xs hole m within low off c.args.position c.args.few.now h.same;
    }) in
    record { low = k.low; heap = k.heap; same = k.same }

pub returns-after-loop-hole-clause-below : goal.returns-after-loop-hole-clause-below
returns-after-loop-hole-clause-below c = λ a is. (let no = c.loop-hole-test.false in
    let l = child_low a c.loop-hole.hole is in absurd (omega (arith, l, no)))

pub returns-then-not-expires_before-clause-below : goal.returns-then-not-expires_before-clause-below
returns-then-not-expires_before-clause-below c = λ a is. (let xs = c.loop-hole.few in
    let hole = c.loop-hole.hole in
    let m = (hole - 1) / 2 in
    let child : IsChild m hole = parent hole c.loop-hole-test.true in
    let l = child_low m hole child in
    let low = c.loop-hole.invariant.low in
    let x = c.index-few-parent in
    let at : entry_at xs m ≡ x.result = get_or_default xs m nowhere x.result (omega (arith, l, low)) ∙ sym x.is in
    let after = OnFalse_at c.if-not-expires_before.true c.expires_before.ensures.after in
    subst (λ p. comes (entry_at xs p) c.args.entry.now ≡ true) (one_parent m a hole child is)
    (subst (λ e. comes e c.args.entry.now ≡ true) (sym at) after))
