-- A list that a loop changes position by position, and the elements that pass a test up to a position.
use Rattle.std.proofs.Common.{◌≡◌, ℕ, zero, suc, ◌+◌, ◌<◌, ◌≤◌, Bool, true, false, cond, Some, List, [], ◌∷◌, ◌++◌, length, map}
use Rattle.std.proofs.Common.{filter, take, drop, slice_set, refl, sym, ap, ◌∙◌, add-one, arith}
use Rattle.std.specs.Prelude.{◌||◌, ◌==◌}
use Rattle.std.specs.List.{slice_get}
use Rattle.std.proofs.lemmas.Option.{slice_get_within, get_or_from_slice_get}
use Rattle.std.proofs.lemmas.List.Elements.{filter_more}
use Rattle.std.proofs.lemmas.List.Filters.{length-filter_more}
use Rattle.std.proofs.lemmas.Bool.{or_right}
use Rattle.cyc_places.specs.declared.record.Record.{Record}
use Rattle.cyc_places.specs.Places.{IsRecord, HasRisingIds}
use Rattle.cyc_agreement.proofs.Lists.{among, eq_true, true_eq, false_true}
use Rattle.cyc_agreement.proofs.Spots.{none_some, same_some}

-- the elements below a position are changed, and the others are not
pub changed_to : {A : Type 0} → (A → A) → ℕ → List A → List A
changed_to f k xs = map f (take k xs) ++ drop k xs

pub changed_none : {A : Type 0} (f : A → A) (xs : List A) → changed_to f 0 xs ≡ xs
unfolding changed_to
changed_none f [] = refl
changed_none f (x ∷ xs) = refl

pub changed_length : {A : Type 0} (f : A → A) (k : ℕ) (xs : List A) → length (changed_to f k xs) ≡ length xs
unfolding changed_to
changed_length f zero [] = refl
changed_length f zero (x ∷ xs) = refl
changed_length f (suc k) [] = refl
changed_length f (suc k) (x ∷ xs) = (let e = changed_length f k xs in omega (arith, e))

pub changed_all : {A : Type 0} (f : A → A) (k : ℕ) (xs : List A) → length xs ≤ k → changed_to f k xs ≡ map f xs
unfolding changed_to
changed_all f zero [] all = refl
changed_all f zero (x ∷ xs) all = absurd (omega (arith, all))
changed_all f (suc k) [] all = refl
changed_all f (suc k) (x ∷ xs) all = ap (λ l. f x ∷ l) (changed_all f k xs (omega (arith, all)))

-- what stands at the position is as it was
pub changed_at : {A : Type 0} (f : A → A) (k : ℕ) (xs : List A) → slice_get (changed_to f k xs) k ≡ slice_get xs k
unfolding changed_to
changed_at f zero [] = refl
changed_at f zero (x ∷ xs) = refl
changed_at f (suc k) [] = refl
changed_at f (suc k) (x ∷ xs) = changed_at f k xs

set_suc : {A : Type 0} (f : A → A) (k : ℕ) (xs : List A) (x : A) → slice_get xs k ≡ Some x
    → slice_set (changed_to f k xs) k (f x) ≡ changed_to f (suc k) xs
unfolding changed_to
set_suc f k [] x e = absurd (none_some e)
set_suc f zero (y ∷ xs) x e = ap (λ z. f z ∷ xs) (sym (same_some e))
set_suc f (suc k) (y ∷ xs) x e = ap (λ l. f y ∷ l) (set_suc f k xs x e)

keep_suc : {A : Type 0} (f : A → A) (k : ℕ) (xs : List A) (x : A) → slice_get xs k ≡ Some x → f x ≡ x
    → changed_to f k xs ≡ changed_to f (suc k) xs
unfolding changed_to
keep_suc f k [] x e same = absurd (none_some e)
keep_suc f zero (y ∷ xs) x e same = ap (λ z. z ∷ xs) (same_some e ∙ sym same ∙ ap f (sym (same_some e)))
keep_suc f (suc k) (y ∷ xs) x e same = ap (λ l. f y ∷ l) (keep_suc f k xs x e same)

pub changed_set : {A : Type 0} (f : A → A) (k : ℕ) (xs : List A) (x : A) → slice_get xs k ≡ Some x
    → slice_set (changed_to f k xs) k (f x) ≡ changed_to f (k + 1) xs
changed_set f k xs x e = set_suc f k xs x e ∙ ap (λ j. changed_to f j xs) (sym (add-one k))

pub changed_keep : {A : Type 0} (f : A → A) (k : ℕ) (xs : List A) (x : A) → slice_get xs k ≡ Some x → f x ≡ x
    → changed_to f k xs ≡ changed_to f (k + 1) xs
changed_keep f k xs x e same = keep_suc f k xs x e same ∙ ap (λ j. changed_to f j xs) (sym (add-one k))

-- ---- those that pass

pub passing_more : {A : Type 0} (p : A → Bool) (k : ℕ) (xs : List A) (x : A) (b : Bool) → slice_get xs k ≡ Some x → p x ≡ b
    → filter p (take (k + 1) xs) ≡ filter p (take k xs) ++ cond b (x ∷ []) []
passing_more p k xs x b at is = filter_more p xs k x (slice_get_within xs k x at)
    ∙ ap (λ y. filter p (take k xs) ++ cond (p y) (y ∷ []) []) (get_or_from_slice_get xs k x x at)
    ∙ ap (λ c. filter p (take k xs) ++ cond c (x ∷ []) []) is

pub passing_count : {A : Type 0} (p : A → Bool) (k : ℕ) (xs : List A) (x : A) (b : Bool) → slice_get xs k ≡ Some x → p x ≡ b
    → length (filter p (take (k + 1) xs)) ≡ length (filter p (take k xs)) + cond b 1 0
passing_count p k xs x b at is = length-filter_more p xs k x (slice_get_within xs k x at)
    ∙ ap (λ y. length (filter p (take k xs)) + cond (p y) 1 0) (get_or_from_slice_get xs k x x at)
    ∙ ap (λ c. length (filter p (take k xs)) + cond c 1 0) is

pub passing_few : {A : Type 0} (p : A → Bool) (k : ℕ) (xs : List A) → length (filter p (take k xs)) ≤ length (filter p xs)
passing_few p zero [] = omega arith
passing_few p zero (x ∷ xs) = omega arith
passing_few p (suc k) [] = omega arith
passing_few p (suc k) (x ∷ xs) = by (p x) (passing_few p k xs)
  where
    by : (b : Bool) → length (filter p (take k xs)) ≤ length (filter p xs)
        → length (cond b (x ∷ filter p (take k xs)) (filter p (take k xs))) ≤ length (cond b (x ∷ filter p xs) (filter p xs))
    by true l = omega (arith, l)
    by false l = l

pub passing_low : {A : Type 0} (p : A → Bool) (k : ℕ) (xs : List A) → length (filter p (take k xs)) ≤ k
passing_low p zero [] = omega arith
passing_low p zero (x ∷ xs) = omega arith
passing_low p (suc k) [] = omega arith
passing_low p (suc k) (x ∷ xs) = by (p x) (passing_low p k xs)
  where
    by : (b : Bool) → length (filter p (take k xs)) ≤ k
        → length (cond b (x ∷ filter p (take k xs)) (filter p (take k xs))) ≤ suc k
    by true l = omega (arith, l)
    by false l = omega (arith, l)

pub same_passing : {A : Type 0} (p q : A → Bool) → ((x : A) → q x ≡ p x) → (xs : List A) → filter q xs ≡ filter p xs
same_passing p q same [] = refl
same_passing p q same (x ∷ xs) = (λ i. cond (same x i) (x ∷ same_passing p q same xs i) (same_passing p q same xs i))

-- ---- records

-- the ids of records
abbrev pub ids_in : List Record → List ℕ
ids_in rs = map (λ (r : Record). r.id) rs

-- one of these has the id, and passes
pub found_in : (p : Record → Bool) (q : ℕ) (rs : List Record) → among q (ids_in (filter p rs)) ≡ true → (j : ℕ) × (r : Record)
    × IsRecord rs j r × (r.id ≡ q) × (p r ≡ true)
found_in p q [] e = absurd (false_true e)
found_in p q (x ∷ rs) e = by (p x) refl e (found_in p q rs)
  where
    after_it : ((j : ℕ) × (r : Record) × IsRecord rs j r × (r.id ≡ q) × (p r ≡ true)) → (j : ℕ) × (r : Record)
        × IsRecord (x ∷ rs) j r × (r.id ≡ q) × (p r ≡ true)
    after_it (j, r, is, named, passes) = (suc j, r, is, named, passes)

    by_first : (b : Bool) → (x.id == q) ≡ b → p x ≡ true → ((x.id == q) || among q (ids_in (filter p rs))) ≡ true
        → (among q (ids_in (filter p rs)) ≡ true → (j : ℕ) × (r : Record) × IsRecord rs j r × (r.id ≡ q) × (p r ≡ true))
        → (j : ℕ) × (r : Record) × IsRecord (x ∷ rs) j r × (r.id ≡ q) × (p r ≡ true)
    by_first true is passes h rest = (0, x, refl, eq_true x.id q is, passes)
    by_first false is passes h rest = after_it (rest (sym (ap (λ b. b || among q (ids_in (filter p rs))) is) ∙ h))

    by : (b : Bool) → p x ≡ b → among q (ids_in (cond b (x ∷ filter p rs) (filter p rs))) ≡ true
        → (among q (ids_in (filter p rs)) ≡ true → (j : ℕ) × (r : Record) × IsRecord rs j r × (r.id ≡ q) × (p r ≡ true))
        → (j : ℕ) × (r : Record) × IsRecord (x ∷ rs) j r × (r.id ≡ q) × (p r ≡ true)
    by true passes h rest = by_first (x.id == q) refl passes h rest
    by false fails h rest = after_it (rest h)

-- one that passes is among them
pub is_in : (p : Record → Bool) (k : ℕ) (r : Record) (rs : List Record) → IsRecord rs k r → p r ≡ true
    → among r.id (ids_in (filter p rs)) ≡ true
is_in p k r [] is passes = absurd (none_some is)
is_in p zero r (x ∷ rs) is passes = by (p x) (ap p (same_some is) ∙ passes)
  where
    by : (b : Bool) → b ≡ true → among r.id (ids_in (cond b (x ∷ filter p rs) (filter p rs))) ≡ true
    by true e = ap (λ b. b || among r.id (ids_in (filter p rs))) (true_eq x.id r.id (ap (λ (y : Record). y.id) (same_some is)))
    by false e = absurd (false_true e)
is_in p (suc k) r (x ∷ rs) is passes = by (p x) (is_in p k r rs is passes)
  where
    by : (b : Bool) → among r.id (ids_in (filter p rs)) ≡ true
        → among r.id (ids_in (cond b (x ∷ filter p rs) (filter p rs))) ≡ true
    by true e = ap (λ c. (x.id == r.id) || c) e ∙ or_right (x.id == r.id) true refl
    by false e = e

taken_at : (rs : List Record) (k j : ℕ) (r : Record) → IsRecord (take k rs) j r → (j < k) × IsRecord rs j r
taken_at [] zero j r e = absurd (none_some e)
taken_at [] (suc k) j r e = absurd (none_some e)
taken_at (x ∷ rs) zero j r e = absurd (none_some e)
taken_at (x ∷ rs) (suc k) zero r e = (omega arith, e)
taken_at (x ∷ rs) (suc k) (suc j) r e = let (low, is) = taken_at rs k j r e in (omega (arith, low), is)

-- the id of a record is not among those before it
pub not_before : (p : Record → Bool) (rs : List Record) (k : ℕ) (r : Record) → HasRisingIds rs → IsRecord rs k r
    → among r.id (ids_in (filter p (take k rs))) ≡ true → ⊥
not_before p rs k r rising is h =
    let (j, s, at, named, passes) = found_in p r.id (take k rs) h in
    let (low, there) = taken_at rs k j s at in
    let less = rising j k s r low there is in omega (arith, less, named)
