-- A bank has room for all that can be put into it.
use Rattle.std.proofs.Common.{◌≡◌, ℕ, zero, suc, ◌+◌, ◌<◌, ◌≤◌, eqb, true, false, cond, List, [], ◌∷◌, length, map, sym, refl, ap}
use Rattle.std.proofs.Common.{◌∙◌, subst, arith, eq-eqb, ne_eqb}
use Rattle.std.specs.Prelude.{Option, Some, None}
use mathlib.Core.Logic.{dite}
use native.Mathlib.Decide.{ℕ_discrete}
use Rattle.cyc_level.specs.Level.{AdmittedCyclic, SoftLevel, bank_size, count, count_in, times_in, in_hand, place_count}
use Rattle.cyc_level.specs.Lawful.{one_if_any, Lawful}
use Rattle.cyc_level.specs.Events.{as_list}
use Rattle.cyc_level.specs.Conservation.{IsConserved}
use Rattle.cyc_level.proofs.Maps.{hand_here, hand_else}
use Rattle.cyc_level.proofs.Keeps.{once_le, once_pos}

abbrev without : ℕ → List ℕ → List ℕ
without n [] = []
without n (x ∷ xs) = cond (eqb n x) (without n xs) (x ∷ without n xs)

without_long : (n : ℕ) (xs : List ℕ) → length xs ≡ length (without n xs) + times_in n xs
without_long n [] = refl
without_long n (x ∷ xs) = let h = without_long n xs in
    elim (eqb n x) as (λ b. length (x ∷ xs) ≡ length (cond b (without n xs) (x ∷ without n xs)) + (cond b 1 0 + times_in n xs))
    [ true ↦ omega (arith, h) | false ↦ omega (arith, h) ]

without_times : (n y : ℕ) (xs : List ℕ) → times_in y (without n xs) ≤ times_in y xs
without_times n y [] = omega arith
without_times n y (x ∷ xs) = let h = without_times n y xs in
    elim (eqb n x) as (λ b. times_in y (cond b (without n xs) (x ∷ without n xs)) ≤ cond (eqb y x) 1 0 + times_in y xs)
    [ true ↦ omega (arith, h) | false ↦ omega (arith, h) ]

without_none : (n : ℕ) (xs : List ℕ) → times_in n (without n xs) ≡ 0
without_none n [] = refl
without_none n (x ∷ xs) = let h = without_none n xs in dite (ℕ_discrete n x)
    (λ e. subst (λ b. times_in n (cond b (without n xs) (x ∷ without n xs)) ≡ 0) (sym (eq-eqb n x e)) h)
    (λ ne. subst (λ b. times_in n (cond b (without n xs) (x ∷ without n xs)) ≡ 0) (sym (ne_eqb n x ne))
    (let z = hand_else n x ne in omega (arith, z, h)))

hand_once : (y x : ℕ) → in_hand y (Some x) ≤ 1
hand_once y x = elim (eqb y x) as (λ b. cond {A = ℕ} b 1 0 ≤ 1) [ true ↦ omega arith | false ↦ omega arith ]

-- different numbers below n are at most n
pub few : (n : ℕ) (xs : List ℕ) → ((y : ℕ) → 0 < times_in y xs → y < n) → ((y : ℕ) → times_in y xs ≤ 1) → length xs ≤ n
few zero [] low once = omega arith
few zero (x ∷ xs) low once = let h = low x (let a = hand_here x in omega (arith, a)) in absurd (omega (arith, h))
few (suc n) xs low once = let ys : List ℕ = without n xs in
    let h = few n ys
    (λ y p. let l = without_times n y xs in let q = low y (omega (arith, l, p)) in
    dite (ℕ_discrete y n) (λ e. let z = without_none n xs in let w : times_in n ys ≡ times_in y ys =
    ap (λ (x : ℕ). times_in x ys) (sym e) in absurd (omega (arith, p, w, z))) (λ ne. omega (arith, q, ne)))
    (λ y. let l = without_times n y xs in let o = once y in omega (arith, l, o)) in
    let a = without_long n xs in let b = once n in omega (arith, a, b, h)

abbrev index_in : Option AdmittedCyclic → ℕ
index_in None = 0
index_in (Some c) = c.index

module _ (l : SoftLevel) (law : Lawful l) where
  abbrev spot : ℕ → ℕ
  spot id = index_in (l.cyclics id)

  -- the cyclic of an id that stands in a place
  pub placed_cyclic : (id : ℕ) → 0 < place_count l id → (c : AdmittedCyclic) × (l.cyclics id ≡ Some c) × (0 < c.count)
  placed_cyclic id h = cases (l.cyclics id) refl where
    cases : (o : Option AdmittedCyclic) → l.cyclics id ≡ o → (c : AdmittedCyclic) × (l.cyclics id ≡ Some c) × (0 < c.count)
    cases None e = let p = law.one_place id in let z : one_if_any (count l id) ≡ 0 = ap (λ o. one_if_any (count_in o)) e in
        absurd (omega (arith, p, z, h))
    cases (Some c) e = (
      c,
      e,
      dite (ℕ_discrete c.count 0)
          (λ z. let p = law.one_place id in let q : one_if_any (count l id) ≡ 0 = ap (λ o. one_if_any (count_in o)) e
          ∙ ap one_if_any z in absurd (omega (arith, p, q, h))) (λ ne. omega (arith, ne)),
    )

  -- members of a list of ids that stand in bank_size
  spots : (xs : List ℕ) → ((id : ℕ) → times_in id xs ≤ place_count l id) → (y : ℕ) → 0 < times_in y (map spot xs) → (id : ℕ)
      × (0 < times_in id xs) × (spot id ≡ y)
  spots [] less y h = absurd (omega (arith, h))
  spots (x ∷ xs) less y h = dite (ℕ_discrete y (spot x))
      (λ e. (x, (let a = hand_here x in omega (arith, a)), sym e))
      (λ ne. let z = hand_else y (spot x) ne in
      let r = spots xs (λ id. let g = less id in omega (arith, g)) y (omega (arith, h, z)) in let p = r.1 in
      (r.0, omega (arith, p), r.2))

  same_spot : (a b : ℕ) → 0 < place_count l a → 0 < place_count l b → spot a ≡ spot b → a ≡ b
  same_spot a b ha hb e = let c = placed_cyclic a ha in let d = placed_cyclic b hb in
      law.distinct_indexes a b c.0 d.0 c.1 d.1 (sym (ap index_in c.1) ∙ (e ∙ ap index_in d.1))

  spots_once : (xs : List ℕ) → ((id : ℕ) → times_in id xs ≤ place_count l id) → (y : ℕ) → times_in y (map spot xs) ≤ 1
  spots_once [] less y = omega arith
  spots_once (x ∷ xs) less y = let less' : (id : ℕ) → times_in id xs ≤ place_count l id = λ id. let g = less id in
      omega (arith, g) in
      let h = spots_once xs less' y in dite (ℕ_discrete (times_in y (map spot xs)) 0)
      (λ z. let t = hand_once y (spot x) in omega (arith, z, t))
      (λ nz. dite (ℕ_discrete y (spot x))
      (λ e. let r = spots xs less' y (omega (arith, nz)) in let gx = less x in let here = hand_here x in let gr = less' r.0 in
      let pr = r.1 in
      let same : r.0 ≡ x = same_spot r.0 x (omega (arith, gr, pr)) (omega (arith, gx, here)) (r.2 ∙ e) in
      let twice : 0 < times_in x xs = subst (λ (i : ℕ). 0 < times_in i xs) same pr in
      let p = law.one_place x in let o = once_le (count l x) in absurd (omega (arith, gx, here, twice, p, o)))
      (λ ne. let z = hand_else y (spot x) ne in omega (arith, z, h)))

  -- ids that stand in bank_size, each with an index below n, are at most n
  pub roomy : (n : ℕ) (xs : List ℕ) → ((id : ℕ) → times_in id xs ≤ place_count l id)
      → ((id : ℕ) (c : AdmittedCyclic) → l.cyclics id ≡ Some c → 0 < times_in id xs → c.index < n) → length xs ≤ n
  roomy n xs less low = let s = length_map xs in let h = few n (map spot xs)
      (λ y p. let r = spots xs less y p in let g = less r.0 in let q = r.1 in let c = placed_cyclic r.0 (omega (arith, g, q)) in
      subst (λ (i : ℕ). i < n) (sym (ap index_in c.1) ∙ r.2) (low r.0 c.0 c.1 q)) (spots_once xs less) in
      omega (arith, s, h) where
        length_map : (ys : List ℕ) → length (map spot ys) ≡ length ys
        length_map [] = refl
        length_map (y ∷ ys) = ap suc (length_map ys)

  -- the new list, with the firer's hand, fits its bank
  pub new_fits : (id : ℕ) → l.firer_hand ≡ Some id → length l.new_list < bank_size l.hard_bank
  new_fits id full = let h = roomy (bank_size l.hard_bank) (id ∷ l.new_list)
      (λ j. let e : in_hand j l.firer_hand ≡ in_hand j (Some id) = ap (in_hand j) full in omega (arith, e))
      (λ j c e _. law.in_hard_bank j c e) in omega (arith, h)

  pub old_fits : length l.old_list ≤ bank_size l.soft_bank
  old_fits = roomy (bank_size l.soft_bank) l.old_list (λ j. omega arith) law.in_soft_bank

  pub new_fits_hand : length l.new_list + length (as_list l.firer_hand) ≤ bank_size l.hard_bank
  new_fits_hand = cases l.firer_hand refl where
    cases : (o : Option ℕ) → l.firer_hand ≡ o → length l.new_list + length (as_list l.firer_hand) ≤ bank_size l.hard_bank
    cases None e = let h = roomy (bank_size l.hard_bank) l.new_list (λ j. omega arith) (λ j c e _. law.in_hard_bank j c e) in
        let z : length (as_list l.firer_hand) ≡ 0 = ap (λ o. length (as_list o)) e in omega (arith, h, z)
    cases (Some id) e = let h = new_fits id e in let o : length (as_list l.firer_hand) ≡ 1 = ap (λ o. length (as_list o)) e in
        omega (arith, h, o)

  -- a lawful level is conserved
  pub conserved_level : IsConserved l
  conserved_level = record {
    expirations = law.conserved;
    outstanding = λ id h. law.one_place id ∙ once_pos (count l id) h;
    nothing_outstanding = λ id z. law.one_place id ∙ ap one_if_any z;
    new_list_fits = new_fits_hand;
    old_list_fits = old_fits;
  }
