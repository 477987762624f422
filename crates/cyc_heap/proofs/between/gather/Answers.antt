use Rattle.std.proofs.Common.{◌≡◌, ◌<◌, ◌≤◌, ◌+◌, ℕ, true, false, length, Option, Some, None, is_some}
use Rattle.std.proofs.Common.{IfSome, IfNone, vec_capacity}
use Rattle.std.proofs.Common.{Vec, Global, refl, sym, ap, ◌∙◌, subst, subst₂, arith}
use Rattle.std.proofs.lemmas.Bool.{false≢true}
use Rattle.std.proofs.lemmas.List.{get_or_default}
use Rattle.cyc_types.specs.Series.{never}
use Rattle.cyc_heap.specs.declared.entry.Entry.{Entry}
use Rattle.cyc_heap.specs.Tournament.{nowhere, cyclic_index}
use Rattle.cyc_heap.proofs.Gathering.{IsGathered, gathered_none, gathered_free, gathered_more, gathered_tree, gathered_kept, leaf}
use Rattle.cyc_heap.proofs.Gathering.{gather_open, gather_apart}
use Rattle.cyc_heap.proofs.between.gather.Goals.{then-is_some, else-is_some}
use Rattle.cyc_heap.proofs.between.gather.Goals as goal

unused_of : (o : Option ℕ) (m : ℕ) → is_some o ≡ false → IfNone o (never < m) → never < m
unused_of None m none h = h
unused_of (Some k) m none h = absurd (false≢true (sym none))

used_of : (o : Option ℕ) (m : ℕ) → is_some o ≡ true → IfSome o (λ k. (k ≡ m) × (k ≤ never)) → m ≤ never
used_of None m some h = absurd (false≢true some)
used_of (Some k) m some h = let (is, low) = h in omega (arith, is, low)

pub loop-position-init : goal.loop-position-init
loop-position-init c = record { gathered = gathered_none c.args.entries.now.items; room = refl }

pub put-requires-clause-heap : goal.put-requires-clause-heap
put-requires-clause-heap c =
    let h = c.loop-position.invariant.gathered in
    let old = c.args.entries.now.items in
    let es = c.loop-position.entries.items in
    let position = c.loop-position.position in
    let long = h.long in
    let all = c.requires.tree.long in
    let test = c.loop-position-test.true in
    let x = c.index.result.now in
    let inside : position < length old = omega (arith, all, test) in
    let is = get_or_default es position nowhere x (omega (arith, long, inside)) ∙ sym c.index.ensures in
    let used = used_of c.moment.result x.moment (sym c.is_some.ensures ∙ c.if-is_some.true) c.moment.ensures.some in
    let at = leaf old position c.loop-position.held es h inside x is in
    let m = ap (λ (e : Entry). e.moment) at in
    gather_open old position c.loop-position.held es h inside x is used
    (sym (ap cyclic_index at) ∙ c.requires.own position test (omega (arith, m, used)))

pub put-requires-clause-apart : goal.put-requires-clause-apart
put-requires-clause-apart c =
    let h = c.loop-position.invariant.gathered in
    let old = c.args.entries.now.items in
    let es = c.loop-position.entries.items in
    let position = c.loop-position.position in
    let long = h.long in
    let all = c.requires.tree.long in
    let test = c.loop-position-test.true in
    let x = c.index.result.now in
    let inside : position < length old = omega (arith, all, test) in
    let is = get_or_default es position nowhere x (omega (arith, long, inside)) ∙ sym c.index.ensures in
    let used = used_of c.moment.result x.moment (sym c.is_some.ensures ∙ c.if-is_some.true) c.moment.ensures.some in
    let at = leaf old position c.loop-position.held es h inside x is in
    let m = ap (λ (e : Entry). e.moment) at in
    gather_apart old position c.loop-position.held es h inside x is used
    (sym (ap cyclic_index at) ∙ c.requires.own position test (omega (arith, m, used)))

pub loop-position-preserved : goal.loop-position-preserved
loop-position-preserved c =
    let h = c.loop-position.invariant.gathered in
    let old = c.args.entries.now.items in
    let es = c.loop-position.entries.items in
    let position = c.loop-position.position in
    let held = c.loop-position.held in
    let long = h.long in
    let all = c.requires.tree.long in
    let test = c.loop-position-test.true in
    let x = c.index.result.now in
    let inside : position < length old = omega (arith, all, test) in
    let is = get_or_default es position nowhere x (omega (arith, long, inside)) ∙ sym c.index.ensures in
    elim c.if-is_some.branch [
      | then-is_some w ↦
          (let used = used_of c.moment.result x.moment (sym c.is_some.ensures ∙ w.if-is_some.true) c.moment.ensures.some in
          let at = leaf old position held es h inside x is in
          let m = ap (λ (e : Entry). e.moment) at in
          let mine = sym (ap cyclic_index at) ∙ c.requires.own position test (omega (arith, m, used)) in
          let f = w.put.ensures in
          let more = gathered_more old position held es h inside x is used mine w.put.new.entries.items f.long f.heap f.filled
          f.behind in
          record {
            gathered = subst₂ (λ n (v : Vec Entry Global). IsGathered old (position + 1) n v.items) (sym w.held-is)
                (sym w.entries-is) more;
            room = ap vec_capacity w.entries-is ∙ f.room ∙ c.loop-position.invariant.room;
          })
      | else-is_some w ↦
          (let unused = unused_of c.moment.result x.moment (sym c.is_some.ensures ∙ w.if-is_some.false) c.moment.ensures.none in
          let same = gathered_free old position held es h inside x is unused in
          record {
            gathered = subst₂ (λ n (v : Vec Entry Global). IsGathered old (position + 1) n v.items) (sym w.held-is)
                (sym w.entries-is) same;
            room = ap vec_capacity w.entries-is ∙ c.loop-position.invariant.room;
          })
    ]

pub returns-clause-tree : goal.returns-clause-tree
returns-clause-tree c =
    let done = c.loop-position-test.false in
    let h = c.loop-position.invariant.gathered in
    let end = c.loop-position.auto.position-end in
    let at : c.loop-position.position ≡ c.args.leaves = omega (arith, done, end) in
    gathered_tree c.args.leaves c.args.entries.now.items c.loop-position.held c.loop-position.entries.items
    (subst (λ n. IsGathered c.args.entries.now.items n c.loop-position.held c.loop-position.entries.items) at h) c.requires.some
    c.requires.own c.requires.tree

pub returns-clause-kept : goal.returns-clause-kept
returns-clause-kept c =
    let done = c.loop-position-test.false in
    let h = c.loop-position.invariant.gathered in
    let end = c.loop-position.auto.position-end in
    let at : c.loop-position.position ≡ c.args.leaves = omega (arith, done, end) in
    gathered_kept c.args.leaves c.args.entries.now.items c.loop-position.held c.loop-position.entries.items
    (subst (λ n. IsGathered c.args.entries.now.items n c.loop-position.held c.loop-position.entries.items) at h) c.requires.some
    c.requires.own c.requires.tree
