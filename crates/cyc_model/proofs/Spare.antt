-- A CPU with fewer cyclics than slots has an index to spare at each soft level.
use Rattle.std.proofs.Common.{◌≡◌, ◌≢◌, ℕ, zero, suc, ◌+◌, ◌<◌, ◌==◌, eq-eqb, ne_eqb, Bool, true, false, cond, List, [], ◌∷◌}
use Rattle.std.proofs.Common.{length, map, Option, Some, None, refl, ap, sym, ◌∙◌, arith}
use Rattle.std.specs.Prelude.{IsSome, is_some}
use mathlib.Core.Logic.{dite}
use native.Mathlib.Decide.{ℕ_discrete}
use Rattle.cyc_types.specs.declared.level.Soft.{Soft}
use Rattle.cyc_level.specs.Level.{SoftLevel, AdmittedCyclic, bank_size, times_in}
use Rattle.cyc_level.proofs.Maps.{is_some_of}
use Rattle.cyc_model.specs.Cpu.{CyclicState, Cpu, handler_level_of}
use Rattle.cyc_model.specs.Serving.{level_at}
use Rattle.cyc_types.specs.Levels.{as_level}
use Rattle.cyc_model.proofs.Rising.{found, first_not}
use Rattle.cyc_model.proofs.Fit.{HasFree}
use Rattle.cyc_model.proofs.Whole.{Whole, no_level}

-- the list without a number
drop : ℕ → List ℕ → List ℕ
drop k [] = []
drop k (x ∷ xs) = cond (k == x) (drop k xs) (x ∷ drop k xs)

drop_length : (k : ℕ) (xs : List ℕ) → length (drop k xs) + times_in k xs ≡ length xs
unfolding drop
drop_length k [] = refl
drop_length k (x ∷ xs) = by (k == x) (drop_length k xs)
  where
    by : (b : Bool) → length (drop k xs) + times_in k xs ≡ length xs
        → length (cond b (drop k xs) (x ∷ drop k xs)) + (cond b 1 0 + times_in k xs) ≡ suc (length xs)
    by true h = omega (arith, h)
    by false h = omega (arith, h)

drop_other : (k y : ℕ) (xs : List ℕ) → y ≢ k → times_in y (drop k xs) ≡ times_in y xs
unfolding drop
drop_other k y [] ne = refl
drop_other k y (x ∷ xs) ne = dite (ℕ_discrete k x)
    (λ e. let a = ap (λ (b : Bool). times_in y (cond b (drop k xs) (x ∷ drop k xs))) (eq-eqb k x e) in
    let z : cond {A = ℕ} (y == x) 1 0 ≡ 0 = ap (λ (b : Bool). cond {A = ℕ} b 1 0) (ne_eqb y x (λ s. ne (s ∙ sym e))) in
    let r = drop_other k y xs ne in omega (arith, a, z, r))
    (λ far. let a = ap (λ (b : Bool). times_in y (cond b (drop k xs) (x ∷ drop k xs))) (ne_eqb k x far) in
    let r = drop_other k y xs ne in omega (arith, a, r))

-- a number below n that isn't among fewer than n
spare : (n : ℕ) (xs : List ℕ) → length xs < n → (i : ℕ) × (i < n) × (times_in i xs ≡ 0)
spare zero xs few = absurd (omega (arith, few))
spare (suc n) xs few = dite (ℕ_discrete (times_in n xs) 0)
    (λ z. (n, omega arith, z))
    (λ some. let len = drop_length n xs in let r = spare n (drop n xs) (omega (arith, few, len, some)) in let low = r.1 in
    (r.0, omega (arith, low), sym (drop_other n r.0 xs (λ (e : r.0 ≡ n). omega (arith, low, e))) ∙ r.2))

abbrev index_of : Option AdmittedCyclic → ℕ
index_of None = 0
index_of (Some c) = c.index

abbrev used : SoftLevel → List CyclicState → List ℕ
used l cs = map (λ x. index_of (l.cyclics x.timer.id)) cs

used_length : (l : SoftLevel) (cs : List CyclicState) → length (used l cs) ≡ length cs
used_length l [] = refl
used_length l (x ∷ xs) = ap suc (used_length l xs)

in_used : (l : SoftLevel) (cs : List CyclicState) (id : ℕ) (c : AdmittedCyclic) → IsSome (found id cs) → l.cyclics id ≡ Some c
    → 0 < times_in c.index (used l cs)
in_used l [] id c some is = absurd (cc)
in_used l (x ∷ xs) id c some is = dite (ℕ_discrete x.timer.id id)
    (λ e. let a = ap (λ (k : ℕ). index_of (l.cyclics k)) e ∙ ap index_of is in
    let one : cond {A = ℕ} (c.index == index_of (l.cyclics x.timer.id)) 1 0 ≡ 1 =
    ap (λ (b : Bool). cond {A = ℕ} b 1 0) (eq-eqb c.index (index_of (l.cyclics x.timer.id)) (sym a)) in omega (arith, one))
    (λ ne. let r = in_used l xs id c (sym (ap is_some (first_not id x xs ne)) ∙ some) is in omega (arith, r))

pub spare_index : (soft : Soft) (c : Cpu) → Whole c → length c.cyclics < bank_size (level_at soft c).hard_bank
    → HasFree (level_at soft c)
spare_index soft c w few =
    let l = level_at soft c in
    let len = used_length l c.cyclics in
    let r = spare (bank_size l.hard_bank) (used l c.cyclics) (omega (arith, few, len)) in
    record {
      index = r.0;
      below = r.1;
      unused = λ id a at e. let here = in_used l c.cyclics id a (there id (w.back soft id (is_some_of (l.cyclics id) a at))) at in
          let same = ap (λ (i : ℕ). times_in i (used l c.cyclics)) e in let none = r.2 in omega (arith, here, same, none);
    }
  where
    there : (id : ℕ) → handler_level_of id c ≡ as_level soft → IsSome (found id c.cyclics)
    there id is = by (found id c.cyclics) refl
      where
        by : (o : Option CyclicState) → found id c.cyclics ≡ o → IsSome (found id c.cyclics)
        by None none = absurd (no_level id c none soft is)
        by (Some x) some = ap is_some some
