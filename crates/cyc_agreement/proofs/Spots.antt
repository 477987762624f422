-- One position of a list.
use Rattle.std.proofs.Common.{◌≡◌, ℕ, zero, suc, ◌<◌, ◌⊎◌, inl, inr, Option, Some, None, List, [], ◌∷◌, ◌++◌, length, refl, sym}
use Rattle.std.proofs.Common.{ap, arith}
use Rattle.std.specs.List.{slice_get}
pub use Rattle.cyc_types.proofs.Facts.{same_some}
use Rattle.cyc_places.specs.declared.record.Record.{Record}
use Rattle.cyc_agreement.specs.Cpus.{CpusView}
use Rattle.cyc_agreement.specs.System.{SystemView}

pub none_some : {A : Type 0} {x : A} → None ≡ Some x → ⊥
none_some {A = A} {x = x} e = cc

pub get_last : {A : Type 0} (xs : List A) (x : A) → slice_get (xs ++ x ∷ []) (length xs) ≡ Some x
get_last [] x = refl
get_last (y ∷ ys) x = get_last ys x

pub get_front : {A : Type 0} (xs : List A) (x : A) (i : ℕ) (r : A) → slice_get xs i ≡ Some r → slice_get (xs ++ x ∷ []) i ≡ Some r
get_front [] x i r e = absurd (none_some e)
get_front (y ∷ ys) x zero r e = e
get_front (y ∷ ys) x (suc i) r e = get_front ys x i r e

-- an element of a list that grew by one is an old one or the new one
pub get_either : {A : Type 0} (xs : List A) (x : A) (i : ℕ) (r : A) → slice_get (xs ++ x ∷ []) i ≡ Some r
    → (slice_get xs i ≡ Some r) ⊎ (r ≡ x)
get_either [] x zero r e = inr (sym (same_some e))
get_either [] x (suc i) r e = absurd (none_some e)
get_either (y ∷ ys) x zero r e = inl e
get_either (y ∷ ys) x (suc i) r e = get_either ys x i r e

-- each position below the length has its element
pub get_some : {A : Type 0} (xs : List A) (n : ℕ) → n < length xs → (x : A) × (slice_get xs n ≡ Some x)
get_some [] n low = absurd (omega (arith, low))
get_some (x ∷ xs) zero low = (x, refl)
get_some (x ∷ xs) (suc n) low = get_some xs n (omega (arith, low))

-- a system with these parts
abbrev pub seen : {R : Type 0} → CpusView R → List Record → ℕ → SystemView R
seen cpus records last = record { cpus = cpus; records = records; last = last }
