-- Two lists, element by element.
use Rattle.std.proofs.Common.{◌≡◌, ℕ, suc, ◌+◌, ◌<◌, List, [], ◌∷◌, ◌++◌, refl, sym, ap, subst, ◌∙◌, length, map, get_or}
use Rattle.std.proofs.Common.{append_assoc, arith}
use Rattle.std.proofs.lemmas.List.{map-append, length-append, length-map}
use Rattle.cyc_types.specs.Pairs.{EachTwo}

module _ {A B : Type 0} (P : A → B → Type 0) where
  pub each_long : (xs : List A) (ys : List B) → EachTwo P xs ys → length ys ≡ length xs
  each_long [] [] e = refl
  each_long [] (y ∷ ys) e = absurd e
  each_long (x ∷ xs) [] e = absurd e
  each_long (x ∷ xs) (y ∷ ys) e = ap (λ n. suc n) (each_long xs ys e.1)

  pub each_more : (xs : List A) (ys : List B) (x : A) (y : B) → EachTwo P xs ys → P x y → EachTwo P (xs ++ x ∷ []) (ys ++ y ∷ [])
  each_more [] [] x y e p = (p, tt)
  each_more [] (z ∷ ys) x y e p = absurd e
  each_more (z ∷ xs) [] x y e p = absurd e
  each_more (z ∷ xs) (w ∷ ys) x y e p = (e.0, each_more xs ys x y e.1 p)

  -- the element at the position of y
  pub each_at : (xs : List A) (ys zs : List B) (y : B) (k : ℕ) (d : A) → EachTwo P xs (ys ++ y ∷ zs) → k ≡ length ys
      → P (get_or xs k d) y
  each_at [] [] zs y k d e is = absurd e
  each_at [] (w ∷ ys) zs y k d e is = absurd e
  each_at (x ∷ xs) [] zs y k d e is = subst (λ n. P (get_or (x ∷ xs) n d) y) (sym is) e.0
  each_at (x ∷ xs) (w ∷ ys) zs y k d e is =
      subst (λ n. P (get_or (x ∷ xs) n d) y) (sym is) (each_at xs ys zs y (length ys) d e.1 refl)

  pub each_low : (xs : List A) (ys zs : List B) (y : B) → EachTwo P xs (ys ++ y ∷ zs) → length ys < length xs
  each_low [] [] zs y e = absurd e
  each_low [] (w ∷ ys) zs y e = absurd e
  each_low (x ∷ xs) [] zs y e = omega arith
  each_low (x ∷ xs) (w ∷ ys) zs y e = let r = each_low xs ys zs y e.1 in omega (arith, r)

-- the same said of what a map makes of the second list
pub each_of_map : {A B C : Type 0} (P : A → C → Type 0) (f : B → C) (xs : List A) (ys : List B) → EachTwo P xs (map f ys)
    → EachTwo (λ x y. P x (f y)) xs ys
each_of_map P f [] [] e = tt
each_of_map P f [] (y ∷ ys) e = absurd e
each_of_map P f (x ∷ xs) [] e = absurd e
each_of_map P f (x ∷ xs) (y ∷ ys) e = (e.0, each_of_map P f xs ys e.1)

-- one after another
pub each_then : {A B C : Type 0} (P : A → B → Type 0) (Q : B → C → Type 0) (S : A → C → Type 0)
    → ((x : A) (y : B) (z : C) → P x y → Q y z → S x z) →
    (xs : List A) (ys : List B) (zs : List C) → EachTwo P xs ys → EachTwo Q ys zs → EachTwo S xs zs
each_then P Q S f [] [] [] p q = tt
each_then P Q S f [] [] (z ∷ zs) p q = absurd q
each_then P Q S f [] (y ∷ ys) zs p q = absurd p
each_then P Q S f (x ∷ xs) [] zs p q = absurd p
each_then P Q S f (x ∷ xs) (y ∷ ys) [] p q = absurd q
each_then P Q S f (x ∷ xs) (y ∷ ys) (z ∷ zs) p q = (f x y z p.0 q.0, each_then P Q S f xs ys zs p.1 q.1)

-- one element more of each
pub each_pushed : {A B : Type 0} (P : A → B → Type 0) (xs : List A) (ys : List B) (xs' : List A) (ys' : List B) (x : A) (y : B)
    → xs' ≡ xs ++ x ∷ [] →
    ys' ≡ ys ++ y ∷ [] → EachTwo P xs ys → P x y → EachTwo P xs' ys'
each_pushed P xs ys xs' ys' x y e f p q =
    subst (λ (zs : List _). EachTwo P zs ys') (sym e)
    (subst (λ (zs : List _). EachTwo P (xs ++ x ∷ []) zs) (sym f) (each_more P xs ys x y p q))

-- an iterator gave one element
pub taken_all : {A : Type 0} (ys : List A) (x : A) (rest rest' all : List A) → rest ≡ x ∷ rest' → ys ++ rest ≡ all
    → (ys ++ x ∷ []) ++ rest' ≡ all
taken_all ys x rest rest' all e f = append_assoc ys (x ∷ []) rest' ∙ ap (λ (zs : List _). ys ++ zs) (sym e) ∙ f

pub taken_many : {A : Type 0} (n m : ℕ) (x : A) (rest rest' : List A) → rest ≡ x ∷ rest' → n + 1 ≡ m → m ≡ length rest
    → n ≡ length rest'
taken_many n m x rest rest' e f g = let h = ap (λ (zs : List _). length zs) e in omega (arith, f, g, h)

no_more : {A : Type 0} (zs : List A) → zs ++ [] ≡ zs
no_more [] = refl
no_more (z ∷ zs) = ap (λ (ws : List _). z ∷ ws) (no_more zs)

-- an iterator gave none
pub taken_none : {A : Type 0} (ys rest all : List A) (n : ℕ) → n ≡ 0 → n ≡ length rest → ys ++ rest ≡ all → ys ≡ all
taken_none ys [] all n e f g = sym (no_more ys) ∙ g
taken_none ys (x ∷ rest) all n e f g = absurd (omega (arith, e, f))

-- an iterator gave none, and each that it gave before is in what was made
pub mapped_all : {S Y : Type 0} (q : S → Y) (ws : List Y) (ys rest all : List S) (n : ℕ) → n ≡ 0 → n ≡ length rest
    → ys ++ rest ≡ all → ws ≡ map q ys → ws ≡ map q all
mapped_all q ws ys rest all n e f g m = m ∙ ap (λ (zs : List _). map q zs) (taken_none ys rest all n e f g)

pub same_all : {Y : Type 0} (ws ys rest all : List Y) (n : ℕ) → n ≡ 0 → n ≡ length rest → ys ++ rest ≡ all → ws ≡ ys → ws ≡ all
same_all ws ys rest all n e f g m = m ∙ taken_none ys rest all n e f g

pub one_longer : {A : Type 0} (xs xs' : List A) (x : A) → xs' ≡ xs ++ x ∷ [] → length xs' ≡ length xs + 1
one_longer xs xs' x e = let a = ap (λ (zs : List _). length zs) e in let b = length-append xs (x ∷ []) in omega (arith, a, b)

-- ---- two lists of which one part is done and the other is still to come

pub same_more : {H Y : Type 0} (q : H → Y) (ws ws' : List Y) (ys : List H) (w : Y) (y : H) → ws' ≡ ws ++ w ∷ [] → ws ≡ map q ys
    → w ≡ q y → ws' ≡ map q (ys ++ y ∷ [])
same_more q ws ws' ys w y e f k = e ∙ ap (λ (zs : List _). zs ++ w ∷ []) f ∙ ap (λ z. map q ys ++ z ∷ []) k
    ∙ sym (map-append q ys (y ∷ []))

pub map_more : {S H Y : Type 0} (p : S → Y) (q : H → Y) (xs xs' : List S) (ys : List H) (x : S) (y : H) → xs' ≡ xs ++ x ∷ []
    → map p xs ≡ map q ys → p x ≡ q y →
    map p xs' ≡ map q (ys ++ y ∷ [])
map_more p q xs xs' ys x y e m k = ap (λ (ws : List _). map p ws) e ∙ map-append p xs (x ∷ [])
    ∙ ap (λ (ws : List _). ws ++ p x ∷ []) m
    ∙ ap (λ w. map q ys ++ w ∷ []) k ∙ sym (map-append q ys (y ∷ []))

pub map_shift : {S L X : Type 0} (f : S → X) (g : L → X) (xs xs' : List S) (rest rest' : List L) (all : List X) (x : S) (l : L)
    → xs' ≡ xs ++ x ∷ [] → rest ≡ l ∷ rest' →
    f x ≡ g l → map f xs ++ map g rest ≡ all → map f xs' ++ map g rest' ≡ all
map_shift f g xs xs' rest rest' all x l e r k i = ap (λ (ws : List _). map f ws ++ map g rest') e
    ∙ ap (λ (ws : List _). ws ++ map g rest') (map-append f xs (x ∷ []))
    ∙ append_assoc (map f xs) (f x ∷ []) (map g rest') ∙ ap (λ w. map f xs ++ w ∷ map g rest') k
    ∙ ap (λ (ws : List _). map f xs ++ map g ws) (sym r) ∙ i

module _ {S L H X Y : Type 0} (f : S → X) (g : L → X) (p : S → Y) (q : H → Y) (xs : List S) (rest ls : List L)
    (ys iter hs : List H)
    (high : map f xs ++ map g rest ≡ map g ls) (done : map p xs ≡ map q ys) (all : ys ++ iter ≡ hs)
    (long : length ls ≡ length hs) where
  -- as many are to come of both
  same_rest : length rest ≡ length iter
  same_rest =
      let a = ap (λ (ws : List _). length ws) high in let b = length-append (map f xs) (map g rest) in let c = length-map xs f in
      let d = length-map rest g in
      let e = length-map ls g in let h = ap (λ (ws : List _). length ws) done in let i = length-map xs p in let j =
      length-map ys q in
      let k = ap (λ (ws : List _). length ws) all in let m = length-append ys iter in
      omega (arith, a, b, c, d, e, h, i, j, k, m, long)

  pub more_left : (h : H) (iter' : List H) (n : ℕ) → iter ≡ h ∷ iter' → n ≡ length rest → 0 < n
  more_left h iter' n e m = let a = same_rest in let b = ap (λ (ws : List _). length ws) e in omega (arith, a, b, m)

  pub all_given : length iter ≡ 0 → map f xs ≡ map g ls
  all_given z = by rest (same_rest ∙ z) high
    where
      by : (r : List L) → length r ≡ 0 → map f xs ++ map g r ≡ map g ls → map f xs ≡ map g ls
      by [] e i = sym (no_more (map f xs)) ∙ i
      by (l ∷ r) e i = absurd (omega (arith, e))

-- ---- two lists, of which the one is a part of what was made, and the other is still given out

pub map_one_more : {S Y : Type 0} (p : S → Y) (xs xs' : List S) (ys : List Y) (x : S) (y : Y) → xs' ≡ xs ++ x ∷ [] → map p xs ≡ ys
    → p x ≡ y → map p xs' ≡ ys ++ y ∷ []
map_one_more p xs xs' ys x y e m k = ap (λ (ws : List _). map p ws) e ∙ map-append p xs (x ∷ [])
    ∙ ap (λ (ws : List _). ws ++ p x ∷ []) m ∙ ap (λ w. ys ++ w ∷ []) k

pub map_given : {S X : Type 0} (f : S → X) (xs xs' : List S) (rest rest' all : List X) (x : S) (l : X) → xs' ≡ xs ++ x ∷ []
    → rest ≡ l ∷ rest' → f x ≡ l → map f xs ++ rest ≡ all → map f xs' ++ rest' ≡ all
map_given f xs xs' rest rest' all x l e r k i = ap (λ (ws : List _). map f ws ++ rest') e
    ∙ ap (λ (ws : List _). ws ++ rest') (map-append f xs (x ∷ []))
    ∙ append_assoc (map f xs) (f x ∷ []) rest' ∙ ap (λ w. map f xs ++ w ∷ rest') k
    ∙ ap (λ (ws : List _). map f xs ++ ws) (sym r) ∙ i

-- as many are to come of both
pub as_many : {S X Y : Type 0} (f : S → X) (p : S → Y) (xs : List S) (rest all : List X) (ys iter whole : List Y)
    → map f xs ++ rest ≡ all → map p xs ≡ ys → ys ++ iter ≡ whole → length all ≡ length whole → length rest ≡ length iter
as_many f p xs rest all ys iter whole given done through long =
    let a = ap (λ (ws : List _). length ws) given in let b = length-append (map f xs) rest in let c = length-map xs f in
    let d = ap (λ (ws : List _). length ws) done in let e = length-map xs p in
    let h = ap (λ (ws : List _). length ws) through in let i = length-append ys iter in
    omega (arith, a, b, c, d, e, h, i, long)

-- nothing is to come of either
pub given_all : {S X Y : Type 0} (f : S → X) (p : S → Y) (xs : List S) (rest all : List X) (ys iter whole : List Y) (n : ℕ)
    → map f xs ++ rest ≡ all → map p xs ≡ ys → ys ++ iter ≡ whole → length all ≡ length whole → n ≡ 0 → n ≡ length iter
    → map f xs ≡ all
given_all f p xs rest all ys iter whole n given done through long e m =
    taken_none (map f xs) rest all (length rest) (as_many f p xs rest all ys iter whole given done through long ∙ sym m ∙ e) refl
    given
