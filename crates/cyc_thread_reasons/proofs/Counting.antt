-- Counts over lists: different positions are no more than the things that stand there, sums over numbers, and the numbers of
-- those that are true.
use Rattle.std.proofs.Common.{◌≡◌, ◌≢◌, ◌==◌, ℕ, zero, suc, ◌+◌, ◌-◌, ◌*◌, ◌<◌, ◌≤◌, Bool, true, false, cond, not, Option, Some}
use Rattle.std.proofs.Common.{None, List, [], ◌∷◌, length, get_or, set, map, filter, sum_by, refl, sym, ap, ◌∙◌, arith, eq-eqb}
use Rattle.std.proofs.Common.{ne_eqb}
use Rattle.std.proofs.lemmas.List.{length-set, get_or-set_other, length-map, get_or-map}
use Rattle.std.proofs.lemmas.List.Sums.{sum_by-cons, sum_by-set, count_by-le-length}
use Rattle.cyc_types.proofs.Facts.{false_true}
use Rattle.cyc_agreement.specs.Cpus.{numbers_from}

-- no number stands at two positions
abbrev pub HasNoDoubles : List ℕ → Type 0
HasNoDoubles ns = (i j : ℕ) → i < length ns → j < length ns → get_or ns i 0 ≡ get_or ns j 0 → i ≡ j

rest_differs : (n : ℕ) (ns : List ℕ) → HasNoDoubles (n ∷ ns) → HasNoDoubles ns
rest_differs n ns apart i j a b e = let same = apart (suc i) (suc j) (omega (arith, a)) (omega (arith, b)) e in
    omega (arith, same)

not_first : (n : ℕ) (ns : List ℕ) → HasNoDoubles (n ∷ ns) → (i : ℕ) → i < length ns → get_or ns i 0 ≢ n
not_first n ns apart i low e = let same = apart (suc i) 0 (omega (arith, low)) (omega arith) e in omega (arith, same)

-- ---- tests

abbrev value : Bool → ℕ
value b = cond b 1 0

is_false : (b : Bool) → (b ≡ true → ⊥) → b ≡ false
is_false true fails = absurd (fails refl)
is_false false fails = refl

same_some : (a b : ℕ) → Some a ≡ Some b → a ≡ b
same_some a b e = ap (λ (o : Option ℕ). elim o [ None ↦ a | Some z ↦ z ]) e

filter_one : {A : Type 0} (test : A → Bool) (x : A) (xs : List A)
    → length (filter test (x ∷ xs)) ≡ value (test x) + length (filter test xs)
filter_one test x xs = by (test x)
  where
    by : (b : Bool) → length (cond b (x ∷ filter test xs) (filter test xs)) ≡ value b + length (filter test xs)
    by true = omega arith
    by false = omega arith

count_true : {A : Type 0} (test : A → Bool) (xs : List A) → length (filter test xs) ≡ sum_by value (map test xs)
count_true test [] = refl
count_true test (x ∷ xs) = let a = filter_one test x xs in let b = sum_by-cons value (test x) (map test xs) in
    let c = count_true test xs in omega (arith, a, b, c)

-- ---- different positions

-- with the last number's position taken away the others have theirs
others_stand : (n : ℕ) (number : ℕ → ℕ) (key : ℕ → Option ℕ) (bs : List Bool) (p : ℕ) → key p ≡ Some (number n)
    → ((i j : ℕ) → i < suc n → j < suc n → number i ≡ number j → i ≡ j)
    → ((i : ℕ) → i < suc n → (q : ℕ) × (q < length bs) × (get_or bs q false ≡ true) × (key q ≡ Some (number i)))
    → (i : ℕ) → i < n
    → (q : ℕ) × (q < length (set bs p false)) × (get_or (set bs p false) q false ≡ true) × (key q ≡ Some (number i))
others_stand n number key bs p named apart stands i less =
    let (q, low, passes, other) = stands i (omega (arith, less)) in
    let long = length-set bs p false in
    let ne : q ≢ p = λ e. (let same = apart i n (omega (arith, less)) (omega arith)
    (same_some (number i) (number n) (sym other ∙ ap key e ∙ named)) in omega (arith, same, less)) in
    (q, omega (arith, low, long), get_or-set_other bs p q false false ne ∙ passes, other)

marked : (n : ℕ) (number : ℕ → ℕ) (key : ℕ → Option ℕ) (bs : List Bool)
    → ((i j : ℕ) → i < n → j < n → number i ≡ number j → i ≡ j)
    → ((i : ℕ) → i < n → (p : ℕ) × (p < length bs) × (get_or bs p false ≡ true) × (key p ≡ Some (number i)))
    → n ≤ sum_by value bs
marked zero number key bs apart stands = omega arith
marked (suc n) number key bs apart stands =
    let (p, low, passes, named) = stands n (omega arith) in
    let less = sum_by-set value bs p false false low in let one = ap value passes in
    let rest = marked n number key (set bs p false) (λ i j a b. apart i j (omega (arith, a)) (omega (arith, b)))
    (others_stand n number key bs p named apart stands) in
    omega (arith, less, one, rest)

-- n different numbers, each the key of a position at which a thing passes, are at most as many as the things that pass
pub pigeons_at : {A : Type 0} (test : A → Bool) (d : A) (xs : List A) (n : ℕ) (number : ℕ → ℕ) (key : ℕ → Option ℕ)
    → ((i j : ℕ) → i < n → j < n → number i ≡ number j → i ≡ j)
    → ((i : ℕ) → i < n → (p : ℕ) × (p < length xs) × (test (get_or xs p d) ≡ true) × (key p ≡ Some (number i)))
    → n ≤ length (filter test xs)
pigeons_at test d xs n number key apart stands = let all = count_true test xs in
    let few = marked n number key (map test xs) apart there in omega (arith, all, few)
  where
    there : (i : ℕ) → i < n
        → (p : ℕ) × (p < length (map test xs)) × (get_or (map test xs) p false ≡ true) × (key p ≡ Some (number i))
    there i less = let (p, low, passes, named) = stands i less in let long = length-map xs test in
        (p, omega (arith, low, long), get_or-map test xs p d false low ∙ passes, named)

-- the same where the numbers are a list
pub pigeons_of : {A : Type 0} (test : A → Bool) (d : A) (xs : List A) (keys : List ℕ) (key : ℕ → Option ℕ) → HasNoDoubles keys
    → ((i : ℕ) → i < length keys
    → (p : ℕ) × (p < length xs) × (test (get_or xs p d) ≡ true) × (key p ≡ Some (get_or keys i 0)))
    → length keys ≤ length (filter test xs)
pigeons_of test d xs keys key apart stands = pigeons_at test d xs (length keys) (λ i. get_or keys i 0) key apart stands

-- ---- sums over numbers

pub sum_all : (f : ℕ → ℕ) (k : ℕ) (ns : List ℕ) → ((i : ℕ) → i < length ns → k ≤ f (get_or ns i 0)) → length ns * k ≤ sum_by f ns
sum_all f k [] low = omega arith
sum_all f k (n ∷ ns) low = let a = sum_by-cons f n ns in let b = low 0 (omega arith) in
    let c = sum_all f k ns (λ i less. low (suc i) (omega (arith, less))) in omega (arith, a, b, c)

sum_zero : (f : ℕ → ℕ) (ns : List ℕ) → ((i : ℕ) → i < length ns → f (get_or ns i 0) ≡ 0) → sum_by f ns ≡ 0
sum_zero f [] each = refl
sum_zero f (n ∷ ns) each = let a = sum_by-cons f n ns in let b = each 0 (omega arith) in
    let c = sum_zero f ns (λ i low. each (suc i) (omega (arith, low))) in omega (arith, a, b, c)

-- at most one number passes
one_passes : (t : ℕ → Bool) (ns : List ℕ) → HasNoDoubles ns → ((n m : ℕ) → t n ≡ true → t m ≡ true → n ≡ m)
    → sum_by (λ n. value (t n)) ns ≤ 1
one_passes t [] apart one = omega arith
one_passes t (n ∷ ns) apart one = by (t n) refl (one_passes t ns (rest_differs n ns apart) one)
  where
    by : (b : Bool) → t n ≡ b → sum_by (λ m. value (t m)) ns ≤ 1 → sum_by (λ m. value (t m)) (n ∷ ns) ≤ 1
    by true is rest = let a = sum_by-cons (λ (m : ℕ). value (t m)) n ns in let b = ap value is in
        let c = sum_zero (λ m. value (t m)) ns (λ i low. ap value (is_false (t (get_or ns i 0))
        (λ e. not_first n ns apart i low (one (get_or ns i 0) n e is)))) in omega (arith, a, b, c)
    by false is rest = let a = sum_by-cons (λ (m : ℕ). value (t m)) n ns in let b = ap value is in omega (arith, a, b, rest)

sum_one_more : {A : Type 0} (on : ℕ → A → Bool) (x : A) (xs : List A) (ns : List ℕ)
    → sum_by (λ n. length (filter (on n) (x ∷ xs))) ns
    ≡ sum_by (λ n. value (on n x)) ns + sum_by (λ n. length (filter (on n) xs)) ns
sum_one_more on x xs [] = omega arith
sum_one_more on x xs (n ∷ ns) =
    let a = sum_by-cons (λ (m : ℕ). length (filter (on m) (x ∷ xs))) n ns in
    let b = sum_by-cons (λ (m : ℕ). value (on m x)) n ns in
    let c = sum_by-cons (λ (m : ℕ). length (filter (on m) xs)) n ns in
    let d = filter_one (on n) x xs in let e = sum_one_more on x xs ns in omega (arith, a, b, c, d, e)

-- things of which each stands on at most one of the numbers, or on any, or on none
module _ {A : Type 0} (on : ℕ → A → Bool) (single everywhere : A → Bool)
    (one : (x : A) → single x ≡ true → (n m : ℕ) → on n x ≡ true → on m x ≡ true → n ≡ m)
    (nowhere : (x : A) → single x ≡ false → everywhere x ≡ false → (n : ℕ) → on n x ≡ false)
    (ns : List ℕ) (apart : HasNoDoubles ns) where
  at_most : (x : A) → sum_by (λ n. value (on n x)) ns ≤ value (single x) + length ns * value (everywhere x)
  at_most x = by (single x) (everywhere x) refl refl
    where
      by : (s e : Bool) → single x ≡ s → everywhere x ≡ e → sum_by (λ n. value (on n x)) ns ≤ value s + length ns * value e
      by true e is all = let few = one_passes (λ n. on n x) ns apart (one x is) in omega (arith, few)
      by false true is all = let few = count_by-le-length (λ (n : ℕ). on n x) ns in omega (arith, few)
      by false false is all =
          let off = sum_zero (λ n. value (on n x)) ns (λ i low. ap value (nowhere x is all (get_or ns i 0))) in omega (arith, off)

  pub sum_on : (xs : List A)
      → sum_by (λ n. length (filter (on n) xs)) ns ≤ length (filter single xs) + length ns * length (filter everywhere xs)
  sum_on [] = let off = sum_zero (λ n. length (filter (on n) [])) ns (λ i low. refl) in omega (arith, off)
  sum_on (x ∷ xs) =
      let a = sum_one_more on x xs ns in let b = at_most x in let c = sum_on xs in let e = filter_one single x xs in
      let f = ap (λ k. length ns * k) (filter_one everywhere x xs) in omega (arith, a, b, c, e, f)

  -- a single thing that stands on none of them
  pub sum_on_but_one : (d : A) (xs : List A) (p : ℕ) → p < length xs → single (get_or xs p d) ≡ true
      → ((i : ℕ) → i < length ns → on (get_or ns i 0) (get_or xs p d) ≡ false)
      → sum_by (λ n. length (filter (on n) xs)) ns + 1 ≤ length (filter single xs) + length ns * length (filter everywhere xs)
  sum_on_but_one d [] p low is off = absurd (omega (arith, low))
  sum_on_but_one d (x ∷ xs) zero low is off =
      let a = sum_one_more on x xs ns in let b = sum_zero (λ n. value (on n x)) ns (λ i less. ap value (off i less)) in
      let c = sum_on xs in let e = filter_one single x xs in let g = ap value is in
      let f = ap (λ k. length ns * k) (filter_one everywhere x xs) in omega (arith, a, b, c, e, f, g)
  sum_on_but_one d (x ∷ xs) (suc p) low is off =
      let a = sum_one_more on x xs ns in let b = at_most x in
      let c = sum_on_but_one d xs p (omega (arith, low)) is off in let e = filter_one single x xs in
      let f = ap (λ k. length ns * k) (filter_one everywhere x xs) in omega (arith, a, b, c, e, f)

-- ---- all but one

keeps_all : (p : ℕ → Bool) (ns : List ℕ) → ((i : ℕ) → i < length ns → p (get_or ns i 0) ≡ true) → length (filter p ns) ≡ length ns
keeps_all p [] all = refl
keeps_all p (n ∷ ns) all = let a = filter_one p n ns in let b = ap value (all 0 (omega arith)) in
    let c = keeps_all p ns (λ i low. all (suc i) (omega (arith, low))) in omega (arith, a, b, c)

pub without_one : (ns : List ℕ) (n i : ℕ) → HasNoDoubles ns → i < length ns → get_or ns i 0 ≡ n
    → length (filter (λ m. not (m == n)) ns) + 1 ≡ length ns
without_one [] n i apart low is = absurd (omega (arith, low))
without_one (m ∷ ns) n zero apart low is =
    let a = filter_one (λ (l : ℕ). not (l == n)) m ns in let b = ap (λ (t : Bool). value (not t)) (eq-eqb m n is) in
    let c = keeps_all (λ l. not (l == n)) ns (λ j less. ap (λ (t : Bool). not t)
    (ne_eqb (get_or ns j 0) n (λ e. not_first m ns apart j less (e ∙ sym is)))) in
    omega (arith, a, b, c)
without_one (m ∷ ns) n (suc i) apart low is =
    let a = filter_one (λ (l : ℕ). not (l == n)) m ns in
    let b = ap (λ (t : Bool). value (not t)) (ne_eqb m n (λ e. not_first m ns apart i (omega (arith, low)) (is ∙ sym e))) in
    let c = without_one ns n i (rest_differs m ns apart) (omega (arith, low)) is in omega (arith, a, b, c)

-- ---- the numbers of those that are true

number_at : (k : ℕ) (bs : List Bool) (i : ℕ) → i < length (numbers_from k bs)
    → (j : ℕ) × (j < length bs) × (get_or (numbers_from k bs) i 0 ≡ k + j) × (get_or bs j false ≡ true)
number_at k [] i low = absurd (omega (arith, low))
number_at k (true ∷ bs) zero low = (0, omega arith, omega arith, refl)
number_at k (true ∷ bs) (suc i) low = let (j, less, is, there) = number_at (k + 1) bs i (omega (arith, low)) in
    (suc j, omega (arith, less), omega (arith, is), there)
number_at k (false ∷ bs) i low = let (j, less, is, there) = number_at (k + 1) bs i low in
    (suc j, omega (arith, less), omega (arith, is), there)

-- each is the number of one that is true
pub numbers_are : (k : ℕ) (bs : List Bool) (i : ℕ) → i < length (numbers_from k bs)
    → (k ≤ get_or (numbers_from k bs) i 0) × (get_or bs (get_or (numbers_from k bs) i 0 - k) false ≡ true)
    × (get_or (numbers_from k bs) i 0 - k < length bs)
numbers_are k bs i low = let (j, less, is, there) = number_at k bs i low in
    let back : get_or (numbers_from k bs) i 0 - k ≡ j = omega (arith, is) in
    (omega (arith, is), ap (λ m. get_or bs m false) back ∙ there, omega (arith, back, less))

number_of : (k : ℕ) (bs : List Bool) (j : ℕ) → get_or bs j false ≡ true
    → (i : ℕ) × (i < length (numbers_from k bs)) × (get_or (numbers_from k bs) i 0 ≡ k + j)
number_of k [] j up = absurd (false_true up)
number_of k (true ∷ bs) zero up = (0, omega arith, omega arith)
number_of k (true ∷ bs) (suc j) up = let (i, low, is) = number_of (k + 1) bs j up in
    (suc i, omega (arith, low), omega (arith, is))
number_of k (false ∷ bs) zero up = absurd (false_true up)
number_of k (false ∷ bs) (suc j) up = let (i, low, is) = number_of (k + 1) bs j up in (i, low, omega (arith, is))

-- and each of these is there
pub number_there : (bs : List Bool) (n : ℕ) → get_or bs n false ≡ true
    → (i : ℕ) × (i < length (numbers_from 0 bs)) × (get_or (numbers_from 0 bs) i 0 ≡ n)
number_there bs n up = let (i, low, is) = number_of 0 bs n up in (i, low, omega (arith, is))

pub numbers_differ : (k : ℕ) (bs : List Bool) (i j : ℕ) → i < length (numbers_from k bs) → j < length (numbers_from k bs)
    → get_or (numbers_from k bs) i 0 ≡ get_or (numbers_from k bs) j 0 → i ≡ j
numbers_differ k [] i j a b e = absurd (omega (arith, a))
numbers_differ k (true ∷ bs) zero zero a b e = refl
numbers_differ k (true ∷ bs) zero (suc j) a b e =
    let (q, less, is, there) = number_at (k + 1) bs j (omega (arith, b)) in absurd (omega (arith, e, is))
numbers_differ k (true ∷ bs) (suc i) zero a b e =
    let (q, less, is, there) = number_at (k + 1) bs i (omega (arith, a)) in absurd (omega (arith, e, is))
numbers_differ k (true ∷ bs) (suc i) (suc j) a b e =
    let same = numbers_differ (k + 1) bs i j (omega (arith, a)) (omega (arith, b)) e in omega (arith, same)
numbers_differ k (false ∷ bs) i j a b e = numbers_differ (k + 1) bs i j a b e

pub all_but_one : (bs : List Bool) (n : ℕ) → get_or bs n false ≡ true
    → length (filter (λ m. not (m == n)) (numbers_from 0 bs)) + 1 ≡ length (numbers_from 0 bs)
all_but_one bs n up = let (i, low, is) = number_there bs n up in without_one (numbers_from 0 bs) n i (numbers_differ 0 bs) low is
