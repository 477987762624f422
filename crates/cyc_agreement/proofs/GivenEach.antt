-- What an iterator over a list has given, and what was made of each.
use Rattle.std.proofs.Common.{◌≡◌, ℕ, ◌+◌, List, [], ◌∷◌, ◌++◌, All, map, length, get_or, refl, sym, ap, ◌∙◌, subst, append_assoc}
use Rattle.std.proofs.Common.{arith}
use Rattle.std.proofs.lemmas.List.{append-nil, map-append, length-append}

-- it gave one element
pub given_all : {A : Type 0} (ys : List A) (x : A) (rest rest' all : List A) → rest ≡ x ∷ rest' → ys ++ rest ≡ all
    → (ys ++ x ∷ []) ++ rest' ≡ all
given_all ys x rest rest' all e f = append_assoc ys (x ∷ []) rest' ∙ ap (λ (zs : List _). ys ++ zs) (sym e) ∙ f

pub given_many : {A : Type 0} (n m : ℕ) (x : A) (rest rest' : List A) → rest ≡ x ∷ rest' → n + 1 ≡ m → m ≡ length rest
    → n ≡ length rest'
given_many n m x rest rest' e f g = let h = ap (λ (zs : List _). length zs) e in omega (arith, f, g, h)

-- what holds of all holds of the element that it gave
at_length : {A : Type 0} (ys rest : List A) (x d : A) → get_or (ys ++ x ∷ rest) (length ys) d ≡ x
at_length [] rest x d = refl
at_length (y ∷ ys) rest x d = at_length ys rest x d

pub given_holds : {A : Type 0} (P : A → Type 0) (ys : List A) (x : A) (rest rest' all : List A) → rest ≡ x ∷ rest'
    → ys ++ rest ≡ all → All P all → P x
given_holds P ys x rest rest' all e f h =
    let is : ys ++ x ∷ rest' ≡ all = ap (λ (zs : List _). ys ++ zs) (sym e) ∙ f in
    let long = length-append ys (x ∷ rest') in
    subst P (at_length ys rest' x x) (subst (λ zs. All P zs) (sym is) h (length ys) x (omega (arith, long)))

-- it gave none
pub given_none : {A : Type 0} (ys rest all : List A) (n : ℕ) → n ≡ 0 → n ≡ length rest → ys ++ rest ≡ all → ys ≡ all
given_none ys [] all n e f g = sym (append-nil ys) ∙ g
given_none ys (x ∷ rest) all n e f g = absurd (omega (arith, e, f))

-- one more was made
pub made_more : {A B : Type 0} (q : A → B) (ws ws' : List B) (xs : List A) (w : B) (x : A) → ws' ≡ ws ++ w ∷ [] → ws ≡ map q xs
    → w ≡ q x → ws' ≡ map q (xs ++ x ∷ [])
made_more q ws ws' xs w x e f k = e ∙ ap (λ (zs : List _). zs ++ w ∷ []) f ∙ ap (λ z. map q xs ++ z ∷ []) k
    ∙ sym (map-append q xs (x ∷ []))
