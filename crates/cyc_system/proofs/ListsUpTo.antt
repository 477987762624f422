-- Lists of ids up to a position, and from it on.
use Rattle.std.proofs.Common.{◌≡◌, ℕ, zero, suc, ◌+◌, ◌-◌, ◌<◌, ◌≤◌, Bool, true, false, cond, Some, List, [], ◌∷◌, ◌++◌, length}
use Rattle.std.proofs.Common.{filter, take, drop, refl, sym, ap, ◌∙◌, arith}
use Rattle.std.specs.Prelude.{remove}
use Rattle.std.specs.List.{slice_get}
use Rattle.std.proofs.lemmas.List.{take-append-drop, length-drop, append-nil}
use Rattle.std.proofs.lemmas.List.Elements.{filter-append}
use mathlib.Core.Logic.{dite}
use native.Mathlib.Decide.{ℕ_discrete}
use Rattle.cyc_agreement.proofs.Spots.{same_some, none_some}
use Rattle.cyc_agreement.proofs.Shifted.{Rise}
use Rattle.std.proofs.lemmas.Option.{slice_get_within, get_or_from_slice_get}

one_more : (k : ℕ) → k + 1 ≡ suc k
one_more k = omega arith

take_suc : {A : Type 0} (xs : List A) (k : ℕ) (x : A) → slice_get xs k ≡ Some x → take (suc k) xs ≡ take k xs ++ x ∷ []
take_suc [] k x at = absurd (none_some at)
take_suc (y ∷ ys) zero x at = ap (λ z. z ∷ []) (same_some at)
take_suc (y ∷ ys) (suc k) x at = ap (λ l. y ∷ l) (take_suc ys k x at)

drop_suc : {A : Type 0} (xs : List A) (k : ℕ) (x : A) → slice_get xs k ≡ Some x → drop k xs ≡ x ∷ drop (suc k) xs
drop_suc [] k x at = absurd (none_some at)
drop_suc (y ∷ ys) zero x at = ap (λ z. z ∷ ys) (same_some at)
drop_suc (y ∷ ys) (suc k) x at = drop_suc ys k x at

pub take_more : {A : Type 0} (xs : List A) (k : ℕ) (x : A) → slice_get xs k ≡ Some x → take (k + 1) xs ≡ take k xs ++ x ∷ []
take_more xs k x at = ap (λ n. take n xs) (one_more k) ∙ take_suc xs k x at

pub drop_more : {A : Type 0} (xs : List A) (k : ℕ) (x : A) → slice_get xs k ≡ Some x → drop k xs ≡ x ∷ drop (k + 1) xs
drop_more xs k x at = drop_suc xs k x at ∙ ap (λ n. x ∷ drop n xs) (sym (one_more k))

pub take_removed : {A : Type 0} (xs : List A) (k : ℕ) (x : A) → slice_get xs k ≡ Some x → take k (remove xs k) ≡ take k xs
take_removed [] k x at = absurd (none_some at)
take_removed (y ∷ ys) zero x at = refl
take_removed (y ∷ ys) (suc k) x at = ap (λ l. y ∷ l) (take_removed ys k x at)

drop_gone : {A : Type 0} (xs : List A) (k : ℕ) (x : A) → slice_get xs k ≡ Some x → drop k (remove xs k) ≡ drop (suc k) xs
drop_gone [] k x at = absurd (none_some at)
drop_gone (y ∷ ys) zero x at = refl
drop_gone (y ∷ ys) (suc k) x at = drop_gone ys k x at

pub drop_removed : {A : Type 0} (xs : List A) (k : ℕ) (x : A) → slice_get xs k ≡ Some x → drop k (remove xs k) ≡ drop (k + 1) xs
drop_removed xs k x at = drop_gone xs k x at ∙ ap (λ n. drop n xs) (sym (one_more k))

pub none_more : {A : Type 0} (xs : List A) (k : ℕ) → length xs ≤ k → drop k xs ≡ []
none_more [] zero low = refl
none_more [] (suc k) low = refl
none_more (x ∷ xs) zero low = absurd (omega (arith, low))
none_more (x ∷ xs) (suc k) low = none_more xs k (omega (arith, low))

tail_is : {A : Type 0} {x y : A} {xs ys : List A} → x ∷ xs ≡ y ∷ ys → xs ≡ ys
tail_is {A} {x} {y} {xs} {ys} e = ap (λ (l : List A). drop 1 l) e

head_is : {A : Type 0} {x y : A} {xs ys : List A} → x ∷ xs ≡ y ∷ ys → x ≡ y
head_is {A} {x} {y} {xs} {ys} e = same_some (ap (λ (l : List A). slice_get l 0) e)

-- where the rests agree, so do their first elements, and the rests after these
pub first_at : {A : Type 0} (xs ys : List A) (k n : ℕ) (x : A) → drop k xs ≡ drop n ys → slice_get xs k ≡ Some x
    → slice_get ys n ≡ Some x
first_at xs [] k n x e at = absurd (let odd : x ∷ drop (k + 1) xs ≡ [] = sym (drop_more xs k x at) ∙ e
    ∙ none_more [] n (omega arith) in cc)
first_at xs (y ∷ ys) k zero x e at = ap Some (sym (head_is (sym (drop_more xs k x at) ∙ e)))
first_at xs (y ∷ ys) k (suc n) x e at = first_at xs ys k n x e at

pub rest_after : {A : Type 0} (xs ys : List A) (k n : ℕ) (x : A) → drop k xs ≡ drop n ys → slice_get xs k ≡ Some x
    → drop (k + 1) xs ≡ drop (n + 1) ys
rest_after xs ys k n x e at = tail_is (sym (drop_more xs k x at) ∙ e ∙ drop_more ys n x (first_at xs ys k n x e at))

pub low_too : {A : Type 0} (xs ys : List A) (k n : ℕ) → drop k xs ≡ drop n ys → n < length ys → k < length xs
low_too xs ys k n e low = let a = length-drop k xs in let b = length-drop n ys in let c = ap length e in
    omega (arith, a, b, c, low)

pub take_whole : {A : Type 0} (xs : List A) (k : ℕ) → drop k xs ≡ [] → take k xs ≡ xs
take_whole xs k e = sym (append-nil (take k xs)) ∙ ap (λ l. take k xs ++ l) (sym e) ∙ take-append-drop k xs

-- ---- those that pass a test

pub filter_same : {A : Type 0} (p q : A → Bool) (xs : List A) → ((x : A) → p x ≡ q x) → filter p xs ≡ filter q xs
filter_same p q [] same = refl
filter_same p q (x ∷ xs) same = (λ i. cond (same x i) (x ∷ filter_same p q xs same i) (filter_same p q xs same i))

pub filter_in : {A : Type 0} (p : A → Bool) (xs : List A) (k : ℕ) (x : A) → slice_get xs k ≡ Some x → p x ≡ true
    → filter p (take (k + 1) xs) ≡ filter p (take k xs) ++ x ∷ []
filter_in p xs k x at e = ap (filter p) (take_more xs k x at) ∙ filter-append p (take k xs) (x ∷ [])
    ∙ ap (λ b. filter p (take k xs) ++ cond b (x ∷ []) []) e

pub filter_out : {A : Type 0} (p : A → Bool) (xs : List A) (k : ℕ) (x : A) → slice_get xs k ≡ Some x → p x ≡ false
    → filter p (take (k + 1) xs) ≡ filter p (take k xs)
filter_out p xs k x at e = ap (filter p) (take_more xs k x at) ∙ filter-append p (take k xs) (x ∷ [])
    ∙ ap (λ b. filter p (take k xs) ++ cond b (x ∷ []) []) e
    ∙ append-nil (filter p (take k xs))

pub length_more : {A : Type 0} (xs : List A) (x : A) → length (xs ++ x ∷ []) ≡ length xs + 1
length_more [] x = refl
length_more (y ∷ ys) x = let e = length_more ys x in omega (arith, e)

-- an id that rises has one position
pub one_position : (ids : List ℕ) (i j id : ℕ) → Rise ids → slice_get ids i ≡ Some id → slice_get ids j ≡ Some id → i ≡ j
one_position ids i j id rise a b =
    let x = get_or_from_slice_get ids i id 0 a in let y = get_or_from_slice_get ids j id 0 b in
    let p = slice_get_within ids i id a in let q = slice_get_within ids j id b in
    dite (ℕ_discrete i j) (λ e. e) (λ ne. dite (ℕ_discrete (j - i) 0)
    (λ z. let r = rise j i (omega (arith, z, ne)) p in absurd (omega (arith, r, x, y)))
    (λ n. let r = rise i j (omega (arith, n)) q in absurd (omega (arith, r, x, y))))
