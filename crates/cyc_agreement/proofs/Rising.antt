-- Rising numbers that are among others are no more than these.
use Rattle.std.proofs.Common.{◌≡◌, ◌≢◌, ℕ, suc, ◌<◌, ◌≤◌, Bool, true, false, cond, List, [], ◌∷◌, length, get_or, filter, refl}
use Rattle.std.proofs.Common.{sym, ap, ◌∙◌, arith}
use Rattle.std.specs.Prelude.{◌||◌, ◌==◌}
use Rattle.std.proofs.lemmas.Bool.{or_right}
use Rattle.cyc_places.specs.declared.record.Record.{Record}
use Rattle.cyc_places.specs.Places.{HasRisingIds}
use Rattle.cyc_agreement.proofs.Lists.{among, any_position, eq_true, true_eq, false_ne, false_true}
use Rattle.cyc_agreement.proofs.Shifted.{Rise}
use Rattle.cyc_agreement.proofs.Prefixes.{ids_in, found_in}

-- each is below all that follow
pub Rises : List ℕ → Type 0
Rises [] = Unit {0}
Rises (x ∷ xs) = ((q : ℕ) → among q xs ≡ true → x < q) × Rises xs

pub rises_of : (xs : List ℕ) → Rise xs → Rises xs
unfolding Rises
rises_of [] h = tt
rises_of (x ∷ xs) h = (above, rises_of xs (λ i j less low. h (suc i) (suc j) (omega (arith, less)) (omega (arith, low))))
  where
    above : (q : ℕ) → among q xs ≡ true → x < q
    above q e = let (k, low, is) = any_position (λ own. own == q) xs e in
        let same = eq_true (get_or xs k 0) q (is 0) in
        let less = h 0 (suc k) (omega arith) (omega (arith, low)) in omega (arith, less, same)

-- the ids of the records that pass rise
pub records_rise : (p : Record → Bool) (rs : List Record) → HasRisingIds rs → Rises (ids_in (filter p rs))
unfolding Rises
records_rise p [] h = tt
records_rise p (x ∷ rs) h = by (p x) (records_rise p rs tail)
  where
    tail : HasRisingIds rs
    tail i j r s less a b = h (suc i) (suc j) r s (omega (arith, less)) a b

    above : (q : ℕ) → among q (ids_in (filter p rs)) ≡ true → x.id < q
    above q e = let (j, r, is, named, passes) = found_in p q rs e in
        let less = h 0 (suc j) x r (omega arith) refl is in omega (arith, less, named)

    by : (b : Bool) → Rises (ids_in (filter p rs)) → Rises (ids_in (cond b (x ∷ filter p rs) (filter p rs)))
    by true rest = (above, rest)
    by false rest = rest

pub no_more : (xs ys : List ℕ) → Rises xs → Rises ys → ((q : ℕ) → among q xs ≡ true → among q ys ≡ true) → length xs ≤ length ys
unfolding Rises
no_more [] ys rx ry within = omega arith
no_more (x ∷ xs) [] rx ry within = absurd (false_true (within x (ap (λ b. b || among x xs) (true_eq x x refl))))
no_more (x ∷ xs) (y ∷ ys) rx ry within = by (y == x) refl (no_more xs ys rx.1 ry.1) (no_more (x ∷ xs) ys rx ry.1)
  where
    -- among the rest, unless it is the first
    rest : (q : ℕ) → y ≢ q → ((y == q) || among q ys) ≡ true → among q ys ≡ true
    rest q ne h = sym (ap (λ b. b || among q ys) (false_ne y q ne)) ∙ h

    later : (q : ℕ) → among q xs ≡ true → ((y == q) || among q ys) ≡ true
    later q e = within q (ap (λ b. (x == q) || b) e ∙ or_right (x == q) true refl)

    here : ((y == x) || among x ys) ≡ true
    here = within x (ap (λ b. b || among x xs) (true_eq x x refl))

    Fewer : List ℕ → Type 0
    Fewer zs = ((q : ℕ) → among q zs ≡ true → among q ys ≡ true) → length zs ≤ length ys

    by : (b : Bool) → (y == x) ≡ b → Fewer xs → Fewer (x ∷ xs) → length (x ∷ xs) ≤ length (y ∷ ys)
    by true is fewer all = let same = eq_true y x is in
        let l = fewer (λ q e. rest q (λ f. (let less = rx.0 q e in omega (arith, less, f, same))) (later q e)) in omega (arith, l)
    by false is fewer all =
        let up = ry.0 x (sym (ap (λ b. b || among x ys) is) ∙ here) in
        let m = all (λ q e. by_either q (x == q) refl e up) in omega (arith, m)
      where
        by_either : (q : ℕ) (b : Bool) → (x == q) ≡ b → ((x == q) || among q xs) ≡ true → y < x → among q ys ≡ true
        by_either q true e h up = let same = eq_true x q e in rest q (λ f. omega (arith, up, f, same)) (within q h)
        by_either q false e h up = let l : among q xs ≡ true = sym (ap (λ b. b || among q xs) e) ∙ h in
            let less = rx.0 q l in rest q (λ f. omega (arith, less, f, up)) (later q l)
