-- The numbers of the online CPUs from one on, and the choice among them.
use Rattle.std.proofs.Common.{◌≡◌, ℕ, suc, ◌+◌, Bool, true, false, not, List, ◌∷◌, filter, cond, drop, Option, Some, None, refl}
use Rattle.std.proofs.Common.{sym, ap, ◌∙◌, add-one}
use Rattle.std.specs.List.{slice_get}
use Rattle.std.specs.Option.{option_eq}
use lib.Dec.{eqb}
use Rattle.std.proofs.lemmas.Option.{slice_get_within, get_or_from_slice_get}
use Rattle.std.proofs.Math.Seq.{drop-cons}
use Rattle.cyc_agreement.specs.Cpus.{CpusView, numbers_from}
use Rattle.cyc_agreement.specs.Destination.{fewer, fewest, is_not}

-- a source is compared as the code compares it
pub is_not_source : (source : Option ℕ) (n : ℕ) → not (option_eq eqb (Some n) source) ≡ is_not source n
is_not_source None n = refl
is_not_source (Some m) n = refl

drop_at : (xs : List Bool) (n : ℕ) (x : Bool) → slice_get xs n ≡ Some x → drop n xs ≡ x ∷ drop (n + 1) xs
drop_at xs n x here = let low = slice_get_within xs n x here in
    drop-cons xs n x low ∙ ap (λ y. y ∷ drop (suc n) xs) (get_or_from_slice_get xs n x x here)
    ∙ ap (λ k. x ∷ drop k xs) (sym (add-one n))

pub numbers_at : (xs : List Bool) (n : ℕ) (x : Bool) → slice_get xs n ≡ Some x →
    numbers_from n (drop n xs) ≡ numbers_from n (x ∷ drop (n + 1) xs)
numbers_at xs n x here = ap (λ ys. numbers_from n ys) (drop_at xs n x here)

-- an online CPU that is not the source is among them, and no other
pub online_among : (source : Option ℕ) (xs : List Bool) (n : ℕ) → slice_get xs n ≡ Some true → is_not source n ≡ true →
    filter (is_not source) (numbers_from n (drop n xs)) ≡ n ∷ filter (is_not source) (numbers_from (n + 1) (drop (n + 1) xs))
online_among source xs n here fit = ap (λ ns. filter (is_not source) ns) (numbers_at xs n true here)
    ∙ ap (λ b. cond b (n ∷ filter (is_not source) (numbers_from (n + 1) (drop (n + 1) xs)))
    (filter (is_not source) (numbers_from (n + 1) (drop (n + 1) xs)))) fit

pub source_not_among : (source : Option ℕ) (xs : List Bool) (n : ℕ) → slice_get xs n ≡ Some true → is_not source n ≡ false →
    filter (is_not source) (numbers_from n (drop n xs)) ≡ filter (is_not source) (numbers_from (n + 1) (drop (n + 1) xs))
source_not_among source xs n here fit = ap (λ ns. filter (is_not source) ns) (numbers_at xs n true here)
    ∙ ap (λ b. cond b (n ∷ filter (is_not source) (numbers_from (n + 1) (drop (n + 1) xs)))
    (filter (is_not source) (numbers_from (n + 1) (drop (n + 1) xs)))) fit

pub offline_not_among : (source : Option ℕ) (xs : List Bool) (n : ℕ) → slice_get xs n ≡ Some false →
    filter (is_not source) (numbers_from n (drop n xs)) ≡ filter (is_not source) (numbers_from (n + 1) (drop (n + 1) xs))
offline_not_among source xs n here = ap (λ ns. filter (is_not source) ns) (numbers_at xs n false here)

-- the best of those from n on
abbrev pub best_from : {R : Type 0} → Option ℕ → CpusView R → ℕ → Option ℕ
best_from source v n = fewest (filter (is_not source) (numbers_from n (drop n v.online))) v

-- with the CPU before them
pub best_taken : {R : Type 0} (source : Option ℕ) (v : CpusView R) (n k r : ℕ) (best : Option ℕ) → n + 1 ≡ k →
    slice_get v.online n ≡ Some true → is_not source n ≡ true → best ≡ best_from source v k → r ≡ fewer n best v →
    Some r ≡ best_from source v n
best_taken source v n k r best next here fit is least =
    ap Some (least ∙ ap (λ o. fewer n o v) (is ∙ ap (λ j. best_from source v j) (sym next)))
    ∙ sym (ap (λ ns. fewest ns v) (online_among source v.online n here fit))

-- or without it
pub best_kept : {R : Type 0} (source : Option ℕ) (v : CpusView R) (n k : ℕ) (best : Option ℕ) → n + 1 ≡ k →
    filter (is_not source) (numbers_from n (drop n v.online)) ≡ filter (is_not source)
    (numbers_from (n + 1) (drop (n + 1) v.online)) →
    best ≡ best_from source v k → best ≡ best_from source v n
best_kept source v n k best next among is = is ∙ ap (λ j. best_from source v j) (sym next) ∙ sym (ap (λ ns. fewest ns v) among)
