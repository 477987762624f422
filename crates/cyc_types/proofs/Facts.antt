-- Facts of tests, of options and of one element of a list, on which proofs of many crates stand.
use Rattle.std.proofs.Common.{◌≡◌, ◌≢◌, ℕ, ◌-◌, ◌<◌, Bool, true, false, not, Option, Some, None, List, length, slice_set}
use Rattle.std.proofs.Common.{refl, sym}
use Rattle.std.proofs.Common.{ap, ◌∙◌, arith, T}
use Rattle.std.specs.Prelude.{nat_lt, ◌&&◌}
use Rattle.std.specs.List.{slice_get}
use Rattle.std.proofs.lemmas.Bool.Decides.{nat_tests}
use Rattle.std.proofs.lemmas.Option.{slice_get_read, slice_get-get_or, slice_get_past}
use Rattle.std.proofs.lemmas.List.{get_or-set_same, get_or-set_other, length-set}
use mathlib.Core.Logic.{dite}
use native.Mathlib.Decide.{ℕ_discrete}

pub false_true : false ≡ true → ⊥
false_true e = cc

pub and_first : (a b : Bool) → (a && b) ≡ true → a ≡ true
and_first true b e = refl
and_first false b e = e

pub both_true : (a b : Bool) → (a && b) ≡ true → (a ≡ true) × (b ≡ true)
both_true true b e = (refl, e)
both_true false b e = absurd (false_true e)

pub not_false : (b : Bool) → not b ≡ false → b ≡ true
not_false true e = refl
not_false false e = absurd (false_true (sym e))

pub so_true : (b : Bool) → T b → b ≡ true
so_true true t = refl
so_true false t = absurd t

pub lt_so : (a b : ℕ) → nat_lt a b ≡ true → a < b
lt_so a b e = grind (arith, nat_tests, e)

pub lt_true : (a b : ℕ) → a < b → nat_lt a b ≡ true
lt_true a b h = grind (arith, nat_tests, h)

pub same_some : {A : Type 0} {x y : A} → Some x ≡ Some y → x ≡ y
same_some {A = A} {x = x} {y = y} e = ap (λ (o : Option A). elim o [ None ↦ x | Some z ↦ z ]) e

-- one element of a list that another takes the place of, and those beside it
pub get_set_same : {A : Type 0} (xs : List A) (i : ℕ) (x : A) → i < length xs → slice_get (slice_set xs i x) i ≡ Some x
get_set_same xs i x low = slice_get_read (slice_set xs i x) (length xs) i x (sym (length-set xs i x)) low
    (sym (get_or-set_same xs i x x low))

pub get_set_other : {A : Type 0} (xs : List A) (i j : ℕ) (x : A) → j ≢ i → slice_get (slice_set xs i x) j ≡ slice_get xs j
get_set_other xs i j x ne = let n = length-set xs i x in dite (ℕ_discrete (length xs - j) 0)
    (λ z. slice_get_past (slice_set xs i x) j (omega (arith, z, n)) ∙ sym (slice_get_past xs j (omega (arith, z))))
    (λ p. slice_get-get_or (slice_set xs i x) j x (omega (arith, p, n)) ∙ ap Some (get_or-set_other xs i j x x ne)
    ∙ sym (slice_get-get_or xs j x (omega (arith, p))))
