-- The fold over the online CPUs finds the destination.
use Rattle.std.proofs.Common.{◌≡◌, ◌≢◌, ℕ, zero, suc, ◌+◌, ◌<◌, ◌≤◌, ◌==◌, ◌⊎◌, inl, inr, nat_lt, not, Bool, true, false, cond}
use Rattle.std.proofs.Common.{List, [], ◌∷◌, filter, Option, Some, None, refl, sym, ap, subst, ◌∙◌, arith}
use Rattle.std.specs.List.{slice_get}
use mathlib.Core.Logic.{dite}
use native.Mathlib.Decide.{ℕ_discrete}
use Rattle.std.proofs.lemmas.Bool.Decides.{nat_tests}
use Rattle.std.proofs.lemmas.Option.{same_Some}
use Rattle.cyc_agreement.specs.Cpus.{CpusView, numbers_from}
use Rattle.cyc_agreement.specs.Destination.{len_of, fewer, fewest, is_not, destination}
use Rattle.cyc_system_laws.specs.Destinations.{IsFitTarget, IsDestination}

less_or_same : (a b i j : ℕ) → a ≤ b → i ≤ j → (a < b) ⊎ ((a ≡ b) × (i ≤ j))
less_or_same a b i j h g = dite (ℕ_discrete a b) (λ e. inr (e, g)) (λ ne. inl (omega arith))

module _ {R : Type 0} (source : Option ℕ) (v : CpusView R) where
  -- d is before n
  abbrev Precedes : ℕ → ℕ → Type 0
  Precedes d n = (len_of d v < len_of n v) ⊎ ((len_of d v ≡ len_of n v) × (d ≤ n))

  -- the test at k, counted from n, is true, and the number isn't the source
  abbrev Fits : ℕ → List Bool → ℕ → Type 0
  Fits n xs k = (slice_get xs k ≡ Some true) × (is_not source (n + k) ≡ true)

  abbrev IsBest : ℕ → List Bool → Option ℕ → Type 0
  IsBest n xs None = (k : ℕ) → Fits n xs k → ⊥
  IsBest n xs (Some d) = ((k : ℕ) × (d ≡ n + k) × Fits n xs k) × ((k : ℕ) → Fits n xs k → Precedes d (n + k))

  -- what fits in the rest fits at its position of the whole
  later : (n k : ℕ) (x : Bool) (xs : List Bool) → Fits (n + 1) xs k → Fits n (x ∷ xs) (suc k)
  later n k x xs (here, fit) = (here, subst (λ m. is_not source m ≡ true) (let e : n + 1 + k ≡ n + suc k = omega arith in e) fit)

  earlier : (n k : ℕ) (x : Bool) (xs : List Bool) → Fits n (x ∷ xs) (suc k) → Fits (n + 1) xs k
  earlier n k x xs (here, fit) = (
    here,
    subst (λ m. is_not source m ≡ true)
        (let e : n + suc k ≡ n + 1 + k = omega arith in e) fit,
  )

  -- a first CPU that doesn't fit changes nothing
  passed : (n : ℕ) (x : Bool) (xs : List Bool) (best : Option ℕ) → (Fits n (x ∷ xs) 0 → ⊥) → IsBest (n + 1) xs best →
      IsBest n (x ∷ xs) best
  passed n x xs None unfit none = by
    where
      by : (j : ℕ) → Fits n (x ∷ xs) j → ⊥
      by zero h = unfit h
      by (suc j) h = none j (earlier n j x xs h)
  passed n x xs (Some d) unfit ((k, at, h), least) = ((suc k, (omega (arith, at)), later n k x xs h), by)
    where
      by : (j : ℕ) → Fits n (x ∷ xs) j → Precedes d (n + j)
      by zero g = absurd (unfit g)
      by (suc j) g = subst (Precedes d) (let e : n + 1 + j ≡ n + suc j = omega arith in e) (least j (earlier n j x xs g))

  first_fits : (n : ℕ) (xs : List Bool) → is_not source n ≡ true → Fits n (true ∷ xs) 0
  first_fits n xs fit = (refl, subst (λ m. is_not source m ≡ true) (let e : n ≡ n + 0 = omega arith in e) fit)

  -- a first CPU that fits is the best, or gives way to a better one
  chosen : (n : ℕ) (xs : List Bool) (m : ℕ) (b : Bool) → nat_lt (len_of m v) (len_of n v) ≡ b → is_not source n ≡ true →
      IsBest (n + 1) xs (Some m) →
      IsBest n (true ∷ xs) (Some (cond b m n))
  chosen n xs m true less fit ((k, at, h), least) = ((suc k, (omega (arith, at)), later n k true xs h), by)
    where
      by : (j : ℕ) → Fits n (true ∷ xs) j → Precedes m (n + j)
      by zero g = inl (let l : len_of m v < len_of n v = grind (arith, nat_tests) in
          subst (λ z. len_of m v < len_of z v) (let e : n ≡ n + 0 = omega arith in e) l)
      by (suc j) g = subst (Precedes m) (let e : n + 1 + j ≡ n + suc j = omega arith in e) (least j (earlier n j true xs g))
  chosen n xs m false less fit ((k, at, h), least) = ((0, (let e : n ≡ n + 0 = omega arith in e), first_fits n xs fit), by)
    where
      few : len_of n v ≤ len_of m v
      few = grind (arith, nat_tests)

      further : (j : ℕ) → Precedes m (n + 1 + j) → Precedes n (n + suc j)
      further j (inl l) = inl (let e : n + 1 + j ≡ n + suc j = omega arith in
          let f = subst (λ z. len_of m v < len_of z v) e l in omega (arith, few, f))
      further j (inr (same, low)) = (let e : n + 1 + j ≡ n + suc j = omega arith in
          let f = subst (λ z. len_of m v ≡ len_of z v) e same in less_or_same (len_of n v) (len_of (n + suc j) v) n (n + suc j)
          (omega (arith, few, f)) (omega arith))

      by : (j : ℕ) → Fits n (true ∷ xs) j → Precedes n (n + j)
      by zero g = inr (ap (λ z. len_of z v) (let e : n ≡ n + 0 = omega arith in e), omega arith)
      by (suc j) g = further j (least j (earlier n j true xs g))

  added : (n : ℕ) (xs : List Bool) (best : Option ℕ) → is_not source n ≡ true → IsBest (n + 1) xs best →
      IsBest n (true ∷ xs) (Some (fewer n best v))
  added n xs None fit none = ((0, (let e : n ≡ n + 0 = omega arith in e), first_fits n xs fit), by)
    where
      by : (j : ℕ) → Fits n (true ∷ xs) j → Precedes n (n + j)
      by zero g = inr (ap (λ z. len_of z v) (let e : n ≡ n + 0 = omega arith in e), omega arith)
      by (suc j) g = absurd (none j (earlier n j true xs g))
  added n xs (Some m) fit h = chosen n xs m (nat_lt (len_of m v) (len_of n v)) refl fit h

  at_true : (n : ℕ) (xs : List Bool) (ns : List ℕ) (b : Bool) → is_not source n ≡ b → IsBest (n + 1) xs (fewest ns v) →
      IsBest n (true ∷ xs) (fewest (cond b (n ∷ ns) ns) v)
  at_true n xs ns true fit h = added n xs (fewest ns v) fit h
  at_true n xs ns false fit h = passed n true xs (fewest ns v) (λ g.
      (let wrong : true ≡ false = sym (subst (λ m. is_not source m ≡ true) (let e : n + 0 ≡ n = omega arith in e) g.1) ∙ fit in
      cc)) h

  pub best_from : (n : ℕ) (xs : List Bool) → IsBest n xs (fewest (filter (is_not source) (numbers_from n xs)) v)
  best_from n [] = λ k h. (let wrong : None ≡ Some true = h.0 in cc)
  best_from n (true ∷ xs) = at_true n xs (filter (is_not source) (numbers_from (n + 1) xs)) (is_not source n) refl
      (best_from (n + 1) xs)
  best_from n (false ∷ xs) = passed n false xs (fewest (filter (is_not source) (numbers_from (n + 1) xs)) v)
      (λ g. (let wrong : Some false ≡ Some true = g.0 in cc)) (best_from (n + 1) xs)

  fits_not : (s : Option ℕ) (n : ℕ) → is_not s n ≡ true → s ≢ Some n
  fits_not None n fit e = (let wrong : None ≡ Some n = e in cc)
  fits_not (Some m) n fit e = (let same = same_Some m n e in let alike : (n == m) ≡ true = grind (arith, nat_tests) in
      let wrong : true ≡ false = sym fit ∙ ap not alike in cc)

  not_fits : (s : Option ℕ) (n : ℕ) → s ≢ Some n → is_not s n ≡ true
  not_fits None n ne = refl
  not_fits (Some m) n ne = (let other : n ≢ m = (λ e. ne (ap Some (sym e))) in
      let unlike : (n == m) ≡ false = grind (arith, nat_tests) in ap not unlike)

  fits_at : (n : ℕ) → IsFitTarget source n v → Fits 0 v.online n
  fits_at n (on, ne) = (on, subst (λ m. is_not source m ≡ true) (let e : n ≡ 0 + n = omega arith in e) (not_fits source n ne))

  pub none_fits : (n : ℕ) → destination source v ≡ None → IsFitTarget source n v → ⊥
  none_fits n is fit = subst (λ o. IsBest 0 v.online o) is (best_from 0 v.online) n (fits_at n fit)

  pub is_destination : (d : ℕ) → destination source v ≡ Some d → IsDestination source d v
  is_destination d is =
      let best = subst (λ o. IsBest 0 v.online o) is (best_from 0 v.online) in
      let (k, at, h) = best.0 in
      let same : k ≡ d = omega (arith, at) in
      record {
        fit = subst (λ n. IsFitTarget source n v) same (
          h.0,
          fits_not source k
              (subst (λ m. is_not source m ≡ true) (let e : 0 + k ≡ k = omega arith in e) h.1),
        );
        least = λ n fit. subst (Precedes d) (let e : 0 + n ≡ n = omega arith in e) (best.1 n (fits_at n fit));
      }

  one_destination : (d e : ℕ) → IsDestination source d v → IsDestination source e v → e ≡ d
  one_destination d e a b = by (a.least e b.fit) (b.least d a.fit)
    where
      by : Precedes d e → Precedes e d → e ≡ d
      by (inl x) (inl y) = omega (arith, x, y)
      by (inl x) (inr (y, z)) = omega (arith, x, y)
      by (inr (x, w)) (inl y) = omega (arith, x, y)
      by (inr (x, w)) (inr (y, z)) = omega (arith, w, z)

  pub destination_is : (d : ℕ) → IsDestination source d v → destination source v ≡ Some d
  destination_is d a = by (destination source v) refl
    where
      by : (o : Option ℕ) → destination source v ≡ o → o ≡ Some d
      by None is = absurd (none_fits d is a.fit)
      by (Some e) is = ap Some (one_destination d e a (is_destination e is))
