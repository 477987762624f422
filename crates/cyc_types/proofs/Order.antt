use Rattle.std.proofs.Common.{◌≡◌, ℕ, ◌+◌, ◌==◌, ltb, leb, Bool, true, false, cond, ◌&&◌, ◌||◌, List, [], ◌∷◌, ◌++◌, refl, sym}
use Rattle.std.proofs.Common.{ap, ◌∙◌, arith, length}
use Rattle.std.specs.List.{AllByRecursion}
use Rattle.std.proofs.lemmas.Bool.{false≢true}
use Rattle.std.proofs.lemmas.Bool.Decides.{nat_tests}
use Rattle.cyc_types.specs.Expirations.{Expiration, is_before, put_in_order, ascending}

-- the order by numbers
pub test_total : (m i n j : ℕ) → (ltb m n || ((m == n) && leb i j)) ≡ false → (ltb n m || ((n == m) && leb j i)) ≡ true
test_total m i n j h = grind (arith, nat_tests)

pub test_antisym : (m i n j : ℕ) → (ltb m n || ((m == n) && leb i j)) ≡ true → (ltb n m || ((n == m) && leb j i)) ≡ true → (m ≡ n)
    × (i ≡ j)
test_antisym m i n j h k = (grind (arith, nat_tests), grind (arith, nat_tests))

pub test_trans : (m i n j k l : ℕ) → (ltb m n || ((m == n) && leb i j)) ≡ true → (ltb n k || ((n == k) && leb j l)) ≡ true
    → (ltb m k || ((m == k) && leb i l)) ≡ true
test_trans m i n j k l a b = grind (arith, nat_tests)

pub before_total : (p q : Expiration) → is_before p q ≡ false → is_before q p ≡ true
before_total p q h = test_total p.moment p.id q.moment q.id h

pub before_antisym : (p q : Expiration) → is_before p q ≡ true → is_before q p ≡ true → p ≡ q
before_antisym p q h k = let (m, n) = test_antisym p.moment p.id q.moment q.id h k in λ i. record { moment = m i; id = n i }

pub before_trans : (p q r : Expiration) → is_before p q ≡ true → is_before q r ≡ true → is_before p r ≡ true
before_trans p q r h k = test_trans p.moment p.id q.moment q.id r.moment r.id h k

-- two at the front, in either order
front_two : (p q : Expiration) (rest : List Expiration) (b c : Bool) → is_before p q ≡ b → is_before q p ≡ c →
    cond b (p ∷ q ∷ rest) (q ∷ p ∷ rest) ≡ cond c (q ∷ p ∷ rest) (p ∷ q ∷ rest)
front_two p q rest true true h k = let e = before_antisym p q h k in (λ i. e i ∷ sym e i ∷ rest)
front_two p q rest true false h k = refl
front_two p q rest false true h k = refl
front_two p q rest false false h k = absurd (false≢true (sym k ∙ before_total p q h))

-- the order of two puts does not matter
pub put_in_comm : (p q : Expiration) (xs : List Expiration) → put_in_order p (put_in_order q xs) ≡ put_in_order q (put_in_order
    p xs)
put_in_comm p q [] = front_two p q [] (is_before p q) (is_before q p) refl refl
put_in_comm p q (x ∷ xs) = comm_at (put_in_comm p q xs) (is_before p x) (is_before q x) refl refl (is_before p q)
    (is_before q p) refl refl
  where
    comm_at : put_in_order p (put_in_order q xs) ≡ put_in_order q (put_in_order p xs) → (px qx : Bool) → is_before p x ≡ px
        → is_before q x ≡ qx
        → (pq qp : Bool) → is_before p q ≡ pq → is_before q p ≡ qp →
        put_in_order p (cond qx (q ∷ x ∷ xs) (x ∷ put_in_order q xs)) ≡ put_in_order q (cond px (p ∷ x ∷ xs) (x ∷ put_in_order
        p xs))
    comm_at rest true true hp hq pq qp h k =
        ap (λ b. cond (is_before p q) (p ∷ q ∷ x ∷ xs) (q ∷ cond b (p ∷ x ∷ xs) (x ∷ put_in_order p xs))) hp
        ∙ front_two p q (x ∷ xs) (is_before p q) (is_before q p) refl refl
        ∙ ap (λ b. cond (is_before q p) (q ∷ p ∷ x ∷ xs) (p ∷ cond b (q ∷ x ∷ xs) (x ∷ put_in_order q xs))) (sym hq)
    comm_at rest true false hp hq pq true h k = absurd (false≢true (sym hq ∙ before_trans q p x k hp))
    comm_at rest true false hp hq pq false h k =
        ap (λ b. cond b (p ∷ x ∷ put_in_order q xs) (x ∷ put_in_order p (put_in_order q xs))) hp
        ∙ ap (λ b. p ∷ cond b (q ∷ x ∷ xs) (x ∷ put_in_order q xs)) (sym hq)
        ∙ ap (λ b. cond b (q ∷ p ∷ x ∷ xs) (p ∷ cond (is_before q x) (q ∷ x ∷ xs) (x ∷ put_in_order q xs))) (sym k)
    comm_at rest false true hp hq true qp h k = absurd (false≢true (sym hp ∙ before_trans p q x h hq))
    comm_at rest false true hp hq false qp h k =
        ap (λ b. cond b (p ∷ q ∷ x ∷ xs) (q ∷ cond (is_before p x) (p ∷ x ∷ xs) (x ∷ put_in_order p xs))) h
        ∙ ap (λ b. q ∷ cond b (p ∷ x ∷ xs) (x ∷ put_in_order p xs)) hp
        ∙ ap (λ b. cond b (q ∷ x ∷ put_in_order p xs) (x ∷ put_in_order q (put_in_order p xs))) (sym hq)
    comm_at rest false false hp hq pq qp h k =
        ap (λ b. cond b (p ∷ x ∷ put_in_order q xs) (x ∷ put_in_order p (put_in_order q xs))) hp
        ∙ ap (λ ys. x ∷ ys) rest
        ∙ ap (λ b. cond b (q ∷ x ∷ put_in_order p xs) (x ∷ put_in_order q (put_in_order p xs))) (sym hq)

-- the position of an expiration in the list does not matter
pub ascending_middle : (xs : List Expiration) (p : Expiration) (ys : List Expiration)
    → ascending (xs ++ p ∷ ys) ≡ put_in_order p (ascending (xs ++ ys))
ascending_middle [] p ys = refl
ascending_middle (x ∷ xs) p ys = ap (put_in_order x) (ascending_middle xs p ys) ∙ put_in_comm x p (ascending (xs ++ ys))

pub put_in_all : (P : Expiration → Type 0) (p : Expiration) (xs : List Expiration) → P p → AllByRecursion P xs
    → AllByRecursion P (put_in_order p xs)
put_in_all P p [] h all = (h, tt)
put_in_all P p (x ∷ xs) h all = elim (is_before p x) as
    (λ b. AllByRecursion P (cond b (p ∷ x ∷ xs) (x ∷ put_in_order p xs)))
    [ true ↦ (h, all) | false ↦ (all.0, put_in_all P p xs h all.1) ]

pub ascending_all : (P : Expiration → Type 0) (xs : List Expiration) → AllByRecursion P xs → AllByRecursion P (ascending xs)
ascending_all P [] all = tt
ascending_all P (x ∷ xs) all = put_in_all P x (ascending xs) all.0 (ascending_all P xs all.1)

-- one that comes no later than any goes to the front
pub put_in_front : (p : Expiration) (xs : List Expiration) → AllByRecursion (λ q. is_before p q ≡ true) xs
    → put_in_order p xs ≡ p ∷ xs
put_in_front p [] all = refl
put_in_front p (x ∷ xs) all = ap (λ b. cond b (p ∷ x ∷ xs) (x ∷ put_in_order p xs)) all.0

pub ascending_least : (xs : List Expiration) (p : Expiration) (ys : List Expiration)
    → AllByRecursion (λ q. is_before p q ≡ true) (xs ++ ys) → ascending (xs ++ p ∷ ys) ≡ p ∷ ascending (xs ++ ys)
ascending_least xs p ys all = ascending_middle xs p ys
    ∙ put_in_front p (ascending (xs ++ ys)) (ascending_all (λ q. is_before p q ≡ true) (xs ++ ys) all)

pub length_put_in : (p : Expiration) (xs : List Expiration) → length (put_in_order p xs) ≡ length xs + 1
length_put_in p [] = omega arith
length_put_in p (x ∷ xs) = let h = length_put_in p xs in
    elim (is_before p x) as (λ b. length (cond b (p ∷ x ∷ xs) (x ∷ put_in_order p xs)) ≡ length (x ∷ xs) + 1)
    [ true ↦ omega arith | false ↦ omega (arith, h) ]

pub length_ascending : (xs : List Expiration) → length (ascending xs) ≡ length xs
length_ascending [] = refl
length_ascending (x ∷ xs) = let h = length_ascending xs in let k = length_put_in x (ascending xs) in omega (arith, h, k)
