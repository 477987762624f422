-- Lists with one element set, and lists of one element over and over.
use Rattle.std.proofs.Common.{◌≡◌, ℕ, zero, suc, ◌<◌, List, [], ◌∷◌, length, get_or, refl, ap, arith}
use Rattle.std.specs.Prelude.{slice_set, replicate}

pub set_twice : {A : Type 0} (xs : List A) (n : ℕ) (a b : A) → slice_set (slice_set xs n a) n b ≡ slice_set xs n b
set_twice [] n a b = refl
set_twice (x ∷ xs) zero a b = refl
set_twice (x ∷ xs) (suc n) a b = ap (λ ys. x ∷ ys) (set_twice xs n a b)

pub set_get : {A : Type 0} (xs : List A) (n : ℕ) (d : A) → slice_set xs n (get_or xs n d) ≡ xs
set_get [] n d = refl
set_get (x ∷ xs) zero d = refl
set_get (x ∷ xs) (suc n) d = ap (λ ys. x ∷ ys) (set_get xs n d)

pub get_set : {A : Type 0} (xs : List A) (n : ℕ) (a d : A) → n < length xs → get_or (slice_set xs n a) n d ≡ a
get_set [] n a d low = absurd (omega (arith, low))
get_set (x ∷ xs) zero a d low = refl
get_set (x ∷ xs) (suc n) a d low = get_set xs n a d (omega (arith, low))

pub length_set : {A : Type 0} (xs : List A) (n : ℕ) (a : A) → length (slice_set xs n a) ≡ length xs
length_set [] n a = refl
length_set (x ∷ xs) zero a = refl
length_set (x ∷ xs) (suc n) a = let r = length_set xs n a in omega (arith, r)

pub same_all : {A : Type 0} (k n : ℕ) (z : A) → get_or (replicate k z) n z ≡ z
same_all zero n z = refl
same_all (suc k) zero z = refl
same_all (suc k) (suc n) z = same_all k n z
