-- Slots from which those of cyclics that are gone are dropped in place.
use Rattle.std.proofs.Common.{◌≡◌, ℕ, zero, suc, ◌+◌, ◌<◌, ◌≤◌, Bool, true, false, cond, List, [], ◌∷◌, length, get_or, set, take}
use Rattle.std.proofs.Common.{Option, Some, None, refl, sym, ◌∙◌, subst, arith}
use Rattle.std.specs.Prelude.{is_some}
use Rattle.std.specs.List.{filter, AllWithin}
use Rattle.std.proofs.lemmas.List.{take-set-le, drop-set-lt, length-set}
use Rattle.std.proofs.lemmas.List.Filters.{FiltersInPlace, FiltersInPlace-more_no, FiltersInPlace-more_set}
use Rattle.cyc_finder.specs.Slots.{SlotView}
use Rattle.cyc_finder.specs.Slots.{IsGoneSlot}
use Rattle.cyc_finder.proofs.Here.{tests_here}

-- one that is gone is left out
left_out : (id : ℕ) (o : Option ℕ) (xs : List SlotView) → o ≡ None
    → cond (is_some o) (record { id = id; index = o } ∷ xs) xs ≡ xs
left_out id None xs gone = refl
left_out id (Some i) xs gone = absurd (let no : Some i ≡ None = gone in cc)

all_gone : (xs : List SlotView) (n : ℕ) → AllWithin IsGoneSlot xs 0 n → filter tests_here (take n xs) ≡ []
all_gone xs zero gone = refl
all_gone [] (suc n) gone = refl
all_gone (x ∷ xs) (suc n) gone = left_out x.id x.index (filter tests_here (take n xs)) (gone 0 x (omega arith) (omega arith))
    ∙ all_gone xs n (λ k d from low. gone (suc k) d (omega arith) (omega (arith, low)))

-- nothing is kept of those before the first that is here
pub packs_from : (xs : List SlotView) (n : ℕ) → n ≤ length xs → AllWithin IsGoneSlot xs 0 n → FiltersInPlace tests_here xs xs 0 n
packs_from xs n within gone = record {
  front = sym (all_gone xs n gone);
  rest = refl;
  behind = omega arith;
  within = within;
  long = refl;
}

module _ (xs ys : List SlotView) (k i : ℕ) (so_far : FiltersInPlace tests_here xs ys k i) (low : i < length ys) where
  -- it is written where the next that is here will be
  written : (x : SlotView) → tests_here x ≡ false → x ≡ get_or ys i x → FiltersInPlace tests_here xs (set ys k x) k (i + 1)
  written x fails is = let more = FiltersInPlace-more_no so_far low fails is in record {
    front = take-set-le k ys k x (omega arith) ∙ more.front;
    rest = drop-set-lt (i + 1) ys k x (let b = so_far.behind in omega (arith, b)) ∙ more.rest;
    behind = more.behind;
    within = more.within;
    long = length-set ys k x ∙ more.long;
  }

  pub packs_on : (x : SlotView) → x ≡ get_or ys i x → (kept : ℕ) → kept ≡ k + cond (tests_here x) 1 0
      → FiltersInPlace tests_here xs (set ys k x) kept (i + 1)
  packs_on x is kept more = by_test (tests_here x) refl kept more
    where
      by_test : (b : Bool) → tests_here x ≡ b → (kept : ℕ) → kept ≡ k + cond b 1 0
          → FiltersInPlace tests_here xs (set ys k x) kept (i + 1)
      by_test true holds kept more = subst (λ n. FiltersInPlace tests_here xs (set ys k x) n (i + 1)) (sym more)
          (FiltersInPlace-more_set so_far low holds is)
      by_test false fails kept more = subst (λ n. FiltersInPlace tests_here xs (set ys k x) n (i + 1))
          (sym (let e : kept ≡ k = omega (arith, more) in e)) (written x fails is)
