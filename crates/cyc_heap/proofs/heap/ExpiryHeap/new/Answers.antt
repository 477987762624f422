use Rattle.std.proofs.Common.{◌≡◌, ◌<◌, ◌++◌, ℕ, true, List, [], replicate, Option, None, length, refl, sym, ap, ◌∙◌, subst}
use Rattle.std.proofs.Common.{arith}
use Rattle.std.proofs.lemmas.Bool.{false≢true}
use Rattle.cyc_types.specs.Series.{never}
use Rattle.cyc_types.specs.Expirations.{Expiration}
use Rattle.cyc_heap.specs.declared.entry.Entry.{Entry}
use Rattle.cyc_heap.specs.Tournament.{entry_at, free_entry, slots, IsListed}
use Rattle.cyc_heap.specs.Few.{shown, IsHeap}
use Rattle.cyc_heap.specs.Heap.{HeapView, new_heap}
use Rattle.cyc_heap.proofs.Slots.{slots_more}
use Rattle.cyc_heap.proofs.Spreading.{length-shown, few_spread, free_else}
use Rattle.cyc_heap.proofs.Growing.{none_listed}
use Rattle.cyc_heap.proofs.heap.ExpiryHeap.new.Goals as goal

-- no few
no_heap : IsHeap []
no_heap = record {
  rising = λ a c _ low. absurd (omega (arith, low));
  apart = λ p q low _ _. absurd (omega (arith, low));
}

none_at : (es : List Entry) → length es ≡ 1 → (i : ℕ) → i < 1 → entry_at (shown true 0 es) i ≡ free_entry
none_at es one i low = free_else [] 1 (length es) no_heap (λ p at. absurd (omega (arith, at)))
    (λ p at. absurd (omega (arith, at)))
    (omega (arith, one)) i (omega (arith, low, one)) (λ p at. absurd (omega (arith, at)))

pub invariant_of-result : goal.invariant_of-result
invariant_of-result c =
    let f = c.add_free.ensures in
    let es = c.add_free.new.entries.items in
    let one = f.long in
    let none = ap length c.in_ok-entries.ensures.items in
    let room = f.room in
    let had = c.in_ok-entries.ensures.capacity in
    let free = c.in_ok-free.ensures.capacity in
    let l = length-shown true 0 es in
    let zero = ap length c.in_ok-free.ensures.items in
    let unused : (i : ℕ) → i < 1 → never < (entry_at (shown true 0 es) i).moment
    = λ i low. (let m = ap (λ (e : Entry). e.moment) (none_at es one i low) in omega (arith, m)) in (
      record {
        some = omega arith;
        at_most = omega arith;
        long = omega (arith, one, l);
        wide = omega arith;
        known = omega arith;
        heap = λ _. few_spread [] 1 (length es) no_heap (λ p at. absurd (omega (arith, at))) (λ p at. absurd (omega (arith, at)))
            (omega (arith, one));
        played = λ no. absurd (false≢true (sym no));
        bare = λ i low _. none_at es one i low;
        listed = subst (λ f. IsListed 0 (shown true 0 es) f) (sym c.in_ok-free.ensures.items) (none_listed (shown true 0 es));
        unused = λ i _ low. unused i low;
      },
      record {
        first = refl;
        used = λ _. omega (arith, zero);
        most = λ _. omega arith;
        none = λ _. refl;
        front = λ _ _. f.unused 0 (omega (arith, none)) (omega arith);
      },
      omega arith,
      omega (arith, room, had),
      omega (arith, free),
    )

none_before : (xs : List Entry) → slots 0 xs ++ replicate {A = Option Expiration} 1 None ≡ new_heap.slots
unfolding slots
none_before xs = refl

-- one free index
first_slots : (xs : List Entry) → length xs ≡ 1 → never < (entry_at xs 0).moment → slots 1 xs ≡ new_heap.slots
first_slots xs one unused = slots_more 0 1 xs (omega (arith, one))
    (λ i from low. subst (λ i. never < (entry_at xs i).moment) (let e : 0 ≡ i = omega (arith, low) in e) unused)
    ∙ none_before xs

pub returns-clause-ok : goal.returns-clause-ok
returns-clause-ok c =
    let f = c.add_free.ensures in
    let es = c.add_free.new.entries.items in
    let m = ap (λ (e : Entry). e.moment) (none_at es f.long 0 (omega arith)) in
    ap (λ (s : List (Option Expiration)). view s)
    (first_slots (shown true 0 es) (length-shown true 0 es ∙ f.long) (omega (arith, m)))
  where
    view : List (Option Expiration) → HeapView
    view s = record { slots = s; root = None; room = 1 }
