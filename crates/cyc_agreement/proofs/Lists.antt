-- Tests over a list from which an element went, or to which one came.
use Rattle.std.proofs.Common.{◌≡◌, ◌≢◌, ℕ, zero, suc, ◌<◌, Bool, true, false, List, [], ◌∷◌, length, get_or, map, take}
use Rattle.std.proofs.Common.{drop, refl, sym, ap, ◌∙◌, arith, eq-eqb, ne_eqb}
use Rattle.std.specs.Prelude.{◌||◌, ◌==◌, insert, remove}
use Rattle.std.specs.List.{list_any}
use Rattle.std.proofs.lemmas.List.{take-append-drop}
use Rattle.std.proofs.lemmas.List.Folds.{list_any-append}
use Rattle.std.proofs.lemmas.Bool.{or_right}
pub use Rattle.cyc_types.proofs.Facts.{false_true}

-- whether an id is among these
abbrev pub among : ℕ → List ℕ → Bool
among id ids = list_any (λ own. own == id) ids

or_swap : (a b c : Bool) → (a || (b || c)) ≡ (b || (a || c))
or_swap true true c = refl
or_swap true false c = refl
or_swap false true c = refl
or_swap false false c = refl

or_false : (a b c : Bool) → b ≡ false → (a || (b || c)) ≡ (a || c)
or_false a true c e = absurd (let odd : true ≡ false = e in cc)
or_false a false c e = refl

pub any_insert : {A : Type 0} (p : A → Bool) (xs : List A) (k : ℕ) (x : A) → list_any p (insert xs k x) ≡ (p x || list_any p xs)
any_insert p xs k x = list_any-append p (take k xs) (x ∷ drop k xs)
    ∙ or_swap (list_any p (take k xs)) (p x) (list_any p (drop k xs))
    ∙ ap (λ b. p x || b) (sym (list_any-append p (take k xs) (drop k xs)) ∙ ap (λ l. list_any p l) (take-append-drop k xs))

pub any_remove : {A : Type 0} (p : A → Bool) (xs : List A) (k : ℕ) (d : A) → k < length xs → p (get_or xs k d) ≡ false
    → list_any p (remove xs k) ≡ list_any p xs
any_remove p [] k d low fails = absurd (omega (arith, low))
any_remove p (x ∷ xs) zero d low fails = sym (or_false false (p x) (list_any p xs) fails)
any_remove p (x ∷ xs) (suc k) d low fails = ap (λ b. p x || b) (any_remove p xs k d (omega (arith, low)) fails)

pub any_none : {A : Type 0} (p : A → Bool) (xs : List A) → ((j : ℕ) (d : A) → j < length xs → p (get_or xs j d) ≡ false)
    → list_any p xs ≡ false
any_none p [] h = refl
any_none p (x ∷ xs) h = ap (λ b. b || list_any p xs) (h 0 x (omega arith))
    ∙ any_none p xs (λ j d low. h (suc j) d (omega (arith, low)))

pub any_at : {A : Type 0} (p : A → Bool) (xs : List A) (k : ℕ) (d : A) → k < length xs → p (get_or xs k d) ≡ true
    → list_any p xs ≡ true
any_at p [] k d low passes = absurd (omega (arith, low))
any_at p (x ∷ xs) zero d low passes = ap (λ b. b || list_any p xs) passes
any_at p (x ∷ xs) (suc k) d low passes = ap (λ b. p x || b) (any_at p xs k d (omega (arith, low)) passes)
    ∙ or_right (p x) true refl

-- the position of one that passes
pub any_position : {A : Type 0} (p : A → Bool) (xs : List A) → list_any p xs ≡ true → (k : ℕ) × (k < length xs)
    × ((d : A) → p (get_or xs k d) ≡ true)
any_position p [] e = absurd (let odd : false ≡ true = e in cc)
any_position p (x ∷ xs) e = by (p x) refl e (any_position p xs)
  where
    by : (b : Bool) → p x ≡ b → (b || list_any p xs) ≡ true
        → (list_any p xs ≡ true → (k : ℕ) × (k < length xs) × ((d : _) → p (get_or xs k d) ≡ true))
        → (k : ℕ) × (k < length (x ∷ xs)) × ((d : _) → p (get_or (x ∷ xs) k d) ≡ true)
    by true is e rest = (0, omega arith, λ d. is)
    by false is e rest = let (k, low, passes) = rest e in (suc k, omega (arith, low), passes)

pub any_map : {A B : Type 0} (f : A → B) (p : B → Bool) (xs : List A) → list_any p (map f xs) ≡ list_any (λ x. p (f x)) xs
any_map f p [] = refl
any_map f p (x ∷ xs) = ap (λ b. p (f x) || b) (any_map f p xs)

pub eq_true : (a b : ℕ) → (a == b) ≡ true → a ≡ b
eq_true a b e = grind arith

pub true_eq : (a b : ℕ) → a ≡ b → (a == b) ≡ true
true_eq a b e = eq-eqb a b e

pub false_ne : (a b : ℕ) → a ≢ b → (a == b) ≡ false
false_ne a b ne = ne_eqb a b ne
