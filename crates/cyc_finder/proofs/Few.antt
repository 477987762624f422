-- Different numbers below a limit are at most as many, and fewer where one of them is free.
use Rattle.std.proofs.Common.{◌≡◌, ℕ, zero, suc, ◌+◌, ◌<◌, ◌≤◌, ◌≢◌, eqb, true, false, cond, List, [], ◌∷◌, length, get_or, sym}
use Rattle.std.proofs.Common.{refl, ap, ◌∙◌, subst, arith, eq-eqb, ne_eqb}
use Rattle.std.specs.List.{insert, remove}
use mathlib.Core.Logic.{dite}
use native.Mathlib.Decide.{ℕ_discrete}
use Rattle.cyc_finder.specs.Indexes.{AreDistinct, stands_in}

here : (n : ℕ) (xs : List ℕ) → stands_in n (n ∷ xs) ≡ 1 + stands_in n xs
here n xs = ap (λ b. cond {A = ℕ} b 1 0 + stands_in n xs) (eq-eqb n n refl)

else : (n x : ℕ) (xs : List ℕ) → n ≢ x → stands_in n (x ∷ xs) ≡ stands_in n xs
else n x xs ne = ap (λ b. cond {A = ℕ} b 1 0 + stands_in n xs) (ne_eqb n x ne) ∙ omega arith

abbrev without : ℕ → List ℕ → List ℕ
without n [] = []
without n (x ∷ xs) = cond (eqb n x) (without n xs) (x ∷ without n xs)

without_long : (n : ℕ) (xs : List ℕ) → length xs ≡ length (without n xs) + stands_in n xs
without_long n [] = refl
without_long n (x ∷ xs) = let h = without_long n xs in
    elim (eqb n x) as (λ b. length (x ∷ xs) ≡ length (cond b (without n xs) (x ∷ without n xs)) + (cond b 1 0 + stands_in n xs))
    [ true ↦ omega (arith, h) | false ↦ omega (arith, h) ]

without_times : (n y : ℕ) (xs : List ℕ) → stands_in y (without n xs) ≤ stands_in y xs
without_times n y [] = omega arith
without_times n y (x ∷ xs) = let h = without_times n y xs in
    elim (eqb n x) as (λ b. stands_in y (cond b (without n xs) (x ∷ without n xs)) ≤ cond (eqb y x) 1 0 + stands_in y xs)
    [ true ↦ omega (arith, h) | false ↦ omega (arith, h) ]

without_none : (n : ℕ) (xs : List ℕ) → stands_in n (without n xs) ≡ 0
without_none n [] = refl
without_none n (x ∷ xs) = let h = without_none n xs in dite (ℕ_discrete n x)
    (λ e. subst (λ b. stands_in n (cond b (without n xs) (x ∷ without n xs)) ≡ 0) (sym (eq-eqb n x e)) h)
    (λ ne. subst (λ b. stands_in n (cond b (without n xs) (x ∷ without n xs)) ≡ 0) (sym (ne_eqb n x ne)) (let z =
    else n x (without n xs) ne in omega (arith, z, h)))

-- different numbers below n are at most n
few : (n : ℕ) (xs : List ℕ) → AreDistinct n xs → length xs ≤ n
few zero [] d = omega arith
few zero (x ∷ xs) d = let a = here x xs in let h = (d x).1 (omega (arith, a)) in absurd (omega (arith, h))
few (suc n) xs d = let ys : List ℕ = without n xs in
    let h = few n ys (λ y. let l = without_times n y xs in let o = (d y).0 in (
      omega (arith, l, o),
      λ p. let q = (d y).1 (omega (arith, l, p)) in dite (ℕ_discrete y n)
          (λ e. let z = without_none n xs in let w : stands_in n ys ≡ stands_in y ys = ap (λ (x : ℕ). stands_in x ys) (sym e) in
          absurd (omega (arith, p, w, z)))
          (λ ne. omega (arith, q, ne)),
    )) in
    let a = without_long n xs in let b = (d n).0 in omega (arith, a, b, h)

abbrev one_if : ℕ → ℕ → ℕ
one_if y v = cond (eqb y v) 1 0

pub times_insert : (y v p : ℕ) (xs : List ℕ) → p ≤ length xs → stands_in y (insert xs p v) ≡ one_if y v + stands_in y xs
times_insert y v zero [] low = refl
times_insert y v zero (x ∷ xs) low = refl
times_insert y v (suc p) [] low = absurd (omega (arith, low))
times_insert y v (suc p) (x ∷ xs) low = let h = times_insert y v p xs (omega (arith, low)) in omega (arith, h)

pub times_remove : (y p : ℕ) (xs : List ℕ) → stands_in y (remove xs p) ≤ stands_in y xs
times_remove y zero [] = omega arith
times_remove y zero (x ∷ xs) = omega arith
times_remove y (suc p) [] = omega arith
times_remove y (suc p) (x ∷ xs) = let h = times_remove y p xs in omega (arith, h)

pub times_at : (y : ℕ) (xs : List ℕ) → 0 < stands_in y xs → (k : ℕ) × (k < length xs) × (get_or xs k 0 ≡ y)
times_at y [] some = absurd (omega (arith, some))
times_at y (x ∷ xs) some = dite (ℕ_discrete y x)
    (λ e. (0, omega arith, sym e))
    (λ ne. let z = else y x xs ne in let h = times_at y xs (omega (arith, some, z)) in
    let l = h.1 in (suc h.0, omega (arith, l), h.2))

module _ (limit : ℕ) (xs : List ℕ) (d : AreDistinct limit xs) where
  -- one more, which is free
  pub distinct_insert : (p v : ℕ) → p ≤ length xs → v < limit → stands_in v xs ≡ 0 → AreDistinct limit (insert xs p v)
  distinct_insert p v low small free y = dite (ℕ_discrete y v)
      (λ e. let t = times_insert y v p xs low in let b : one_if y v ≡ 1 = ap (λ b. cond {A = ℕ} b 1 0) (eq-eqb y v e) in
      let z : stands_in y xs ≡ stands_in v xs =
      ap (λ (x : ℕ). stands_in x xs) e in (omega (arith, t, b, z, free), λ _. omega (arith, e, small)))
      (λ ne. let t = times_insert y v p xs low in let b : one_if y v ≡ 0 = ap (λ b. cond {A = ℕ} b 1 0) (ne_eqb y v ne) in
      let o = (d y).0 in (omega (arith, t, b, o), λ s. (d y).1 (omega (arith, t, b, s))))

  pub distinct_remove : (p : ℕ) → AreDistinct limit (remove xs p)
  distinct_remove p y = let t = times_remove y p xs in
      let o = (d y).0 in (omega (arith, t, o), λ s. (d y).1 (omega (arith, t, s)))

  pub fewer : (v : ℕ) → v < limit → stands_in v xs ≡ 0 → length xs < limit
  fewer v small free = let h = few limit (v ∷ xs) (distinct_insert 0 v (omega arith) small free) in omega (arith, h)
