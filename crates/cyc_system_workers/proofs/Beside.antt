-- Two lists beside each other.
use Rattle.std.proofs.Common.{◌≡◌, ℕ, zero, suc, ◌+◌, ◌≤◌, List, [], ◌∷◌, ◌++◌, length, Some, refl, sym, ap, ◌∙◌, subst}
use Rattle.std.proofs.Common.{◌<◌, arith, map, take, get_or}
use Rattle.std.specs.List.{slice_get}
use Rattle.std.proofs.lemmas.List.{length-append, map-append, take_more}
use Rattle.std.proofs.lemmas.Option.{slice_get_within, same_Some}
use Rattle.cyc_agreement.proofs.Spots.{get_some}
use Rattle.cyc_types.specs.declared.Calls.{Ghosts as Calls}
use Rattle.cyc_types.specs.declared.Raise.{Ghosts as Raise}
use Rattle.cyc_system_workers.specs.declared.lanes.Lane.{Lane}
use Rattle.cyc_system_workers.specs.declared.lanes.LaneAfter.{LaneAfter}
use Rattle.cyc_system_workers.specs.declared.firing.Started.{Started}
use Rattle.cyc_system_workers.specs.declared.firing.Started.TheVariants.{Fires, Stays}
use Rattle.cyc_system_workers.specs.Advancing.{LaneFires}
use Rattle.cyc_system_workers.specs.Starting.{Beside, Owes, Keeps}

module _ {A B : Type 0} (P : A → B → Type 0) where
  at_more : (xs : List A) (ys : List B) (x : A) (y : B) → length ys ≡ length xs →
      ((n : ℕ) (a : A) (b : B) → slice_get xs n ≡ Some a → slice_get ys n ≡ Some b → P a b) → P x y →
      (n : ℕ) (a : A) (b : B) → slice_get (xs ++ x ∷ []) n ≡ Some a → slice_get (ys ++ y ∷ []) n ≡ Some b → P a b
  at_more [] [] x y long each p zero a b e f = subst (λ z. P z b) (same_Some x a e) (subst (λ z. P x z) (same_Some y b f) p)
  at_more [] [] x y long each p (suc n) a b e f = let low = slice_get_within [] n a e in absurd (omega (arith, low))
  at_more [] (w ∷ ys) x y long each p n a b e f = absurd (omega (arith, long))
  at_more (z ∷ xs) [] x y long each p n a b e f = absurd (omega (arith, long))
  at_more (z ∷ xs) (w ∷ ys) x y long each p zero a b e f = each 0 a b e f
  at_more (z ∷ xs) (w ∷ ys) x y long each p (suc n) a b e f =
      at_more xs ys x y (omega (arith, long)) (λ m. each (suc m)) p n a b e f

  -- one element more of each
  pub beside_pushed : (xs : List A) (ys ys' : List B) (x : A) (y : B) → ys' ≡ ys ++ y ∷ [] → Beside P xs ys → P x y
      → Beside P (xs ++ x ∷ []) ys'
  beside_pushed xs ys ys' x y is was p = subst (Beside P (xs ++ x ∷ [])) (sym is) (record {
    long = let a = length-append xs (x ∷ []) in let b = length-append ys (y ∷ []) in let c = was.long in omega (arith, a, b, c);
    each = at_more xs ys x y was.long was.each p;
  })

  pub beside_none : Beside P [] []
  beside_none = record { long = refl; each = λ n x y e f. (let low = slice_get_within [] n x e in absurd (omega (arith, low))) }

  -- some of a list were begun
  pub begun_few : (xs rest all : List A) (ys : List B) → xs ++ rest ≡ all → Beside P xs ys → length ys ≤ length all
  begun_few xs rest all ys e b =
      let long = length-append xs rest in let n = ap (λ (l : List A). length l) e in let m = b.long in omega (arith, long, n, m)

-- what the elements have, with one more of them
pub map_pushed : {A Y : Type 0} (q : A → Y) (xs xs' : List A) (x : A) (ys : List Y) → xs' ≡ xs ++ x ∷ [] → map q xs ≡ ys
    → map q xs' ≡ ys ++ q x ∷ []
map_pushed q xs xs' x ys e f = ap (λ (zs : List _). map q zs) e ∙ map-append q xs (x ∷ [])
    ∙ ap (λ (zs : List _). zs ++ q x ∷ []) f

-- the first elements of a list, with one more of them
pub take_pushed : {A : Type 0} (xs : List A) (n m k : ℕ) (d : A) → m ≡ n + 1 → k ≡ n → n < length xs
    → take n xs ++ get_or xs k d ∷ [] ≡ take m xs
take_pushed xs n m k d e f h = ap (λ j. take n xs ++ get_or xs j d ∷ []) f ∙ sym (take_more xs n d h)
    ∙ ap (λ j. take j xs) (sym e)

pub take_none : {A Y : Type 0} (q : A → Y) (xs : List A) (ys : List Y) (n : ℕ) → xs ≡ [] → n ≡ 0 → map q xs ≡ take n ys
take_none q xs ys n e f = ap (λ (zs : List _). map q zs) e ∙ sym (ap (λ j. take j ys) f)

-- of the positions, one more is taken and one fewer is left
pub position_taken : (n n' left left' all : ℕ) → n' ≡ n + 1 → left' + 1 ≡ left → n + left ≡ all → n' + left' ≡ all
position_taken n n' left left' all e f g = omega (arith, e, f, g)

pub position_left : (n left left' all : ℕ) → left' + 1 ≡ left → n + left ≡ all → n < all
position_left n left left' all f g = omega (arith, f, g)

pub positions_free : {A : Type 0} (n left all : ℕ) (rest xs : List A) → n ≡ 0 → left ≡ length rest → rest ≡ xs → all ≡ length xs
    → n + left ≡ all
positions_free n left all rest xs e f g h = let k = ap (λ (zs : List _). length zs) g in omega (arith, e, f, h, k)

pub positions_full : (n left all : ℕ) → left ≡ 0 → n + left ≡ all → all ≤ n
positions_full n left all e f = omega (arith, e, f)

pub both_full : (n left left' all : ℕ) → left ≡ 0 → n + left ≡ all → n + left' ≡ all → left' ≡ 0
both_full n left left' all e f g = omega (arith, e, f, g)

-- one after the other
pub beside_then : {A B C : Type 0} (P : A → B → Type 0) (Q : B → C → Type 0) (S : A → C → Type 0)
    → ((x : A) (y : B) (z : C) → P x y → Q y z → S x z) →
    (xs : List A) (ys : List B) (zs : List C) → Beside P xs ys → Beside Q ys zs → Beside S xs zs
beside_then P Q S f xs ys zs p q = record {
  long = q.long ∙ p.long;
  each = λ n x z at_x at_z. (let low = slice_get_within xs n x at_x in let long = p.long in
      let y = get_some ys n (omega (arith, low, long)) in f x y.0 z (p.each n x y.0 at_x y.1) (q.each n y.0 z y.1 at_z));
}

module _ {C R : Type 0} (handler : Calls C) (firing : Raise R) (now : ℕ) where
  -- what was begun on a CPU came to its end
  kept : (lane : Lane R C) (started : Started R C) (after : LaneAfter R C)
      → Owes handler firing now lane started
      → Keeps handler firing started after → LaneFires handler firing now lane after
  kept lane (Fires child) after owes keeps =
      subst (λ n. LaneFires handler firing n lane after) owes.1
      (subst (λ l. LaneFires handler firing child.promise.now l after) owes.0 keeps)
  kept lane (Stays left) after owes keeps = subst (LaneFires handler firing now lane) (sym keeps) owes

  pub all_kept : (lanes : List (Lane R C)) (started : List (Started R C)) (after : List (LaneAfter R C)) →
      Beside (Owes handler firing now) lanes started
      → Beside (Keeps handler firing) started after
      → Beside (LaneFires handler firing now) lanes after
  all_kept = beside_then (Owes handler firing now) (Keeps handler firing) (LaneFires handler firing now) kept
