-- The map of the admitted cyclics, changed at one id, and options.
use Rattle.std.proofs.Common.{◌≡◌, ℕ, ◌+◌, ◌≢◌, Bool, true, false, cond, List, [], ◌∷◌, ◌++◌, sym, refl, ap, ◌∙◌, subst, arith}
use Rattle.std.proofs.Common.{eq-eqb, ne_eqb}
use Rattle.std.specs.Prelude.{Option, Some, None, is_some, IsSome, IsSomeAnd}
use mathlib.Core.Logic.{dite}
use native.Mathlib.Decide.{ℕ_discrete}
use Rattle.std.specs.Option.{option_map}
use Rattle.cyc_level.specs.Level.{AdmittedCyclic, Cyclics, times_in, in_hand}
use Rattle.cyc_level.specs.Events.{changed_at}

pub some_same : {A : Type 0} (a b : A) → Some a ≡ Some b → a ≡ b
some_same a b e = cc

pub none_some : {A : Type 0} (P : Type 0) (a : A) (o : Option A) → o ≡ None → o ≡ Some a → P
none_some P a o n s = let e : None ≡ Some a = sym n ∙ s in absurd (cc)

-- the value behind a test
pub some_of : {A : Type 0} (o : Option A) → IsSome o → (a : A) × (o ≡ Some a)
some_of None h = absurd (cc)
some_of (Some a) h = (a, refl)

pub is_some_of : {A : Type 0} (o : Option A) (a : A) → o ≡ Some a → IsSome o
is_some_of o a e = ap is_some e

-- a value that changed, or went, of none
pub mapped_none : (f : AdmittedCyclic → AdmittedCyclic) (b : Bool) (o : Option AdmittedCyclic) → o ≡ None
    → cond b (option_map f o) o ≡ None
mapped_none f true o e = ap (option_map f) e
mapped_none f false o e = e

pub cleared_none : (b : Bool) (o : Option AdmittedCyclic) → o ≡ None → cond b None o ≡ None
cleared_none true o e = refl
cleared_none false o e = e

pub not_none : {A : Type 0} (o : Option A) → IsSome o → ¬ (o ≡ None)
not_none None h e = absurd (cc)
not_none (Some a) h e = absurd (cc)

pub some_and : {A : Type 0} (P : A → Type 0) (o : Option A) → IsSomeAnd o P → (a : A) × (o ≡ Some a) × P a
some_and P None h = absurd h
some_and P (Some a) h = (a, refl, h)

pub is_some_and : {A : Type 0} (P : A → Type 0) (o : Option A) (a : A) → o ≡ Some a → P a → IsSomeAnd o P
is_some_and P o a e h = subst (λ o. IsSomeAnd o P) (sym e) h

module _ (m : Cyclics) (id : ℕ) (f : Option AdmittedCyclic → Option AdmittedCyclic) where
  pub at_same : changed_at m id f id ≡ f (m id)
  at_same = ap (λ b. cond b (f (m id)) (m id)) (eq-eqb id id refl)

  pub at_other : (j : ℕ) → j ≢ id → changed_at m id f j ≡ m j
  at_other j ne = ap (λ b. cond b (f (m j)) (m j)) (ne_eqb j id ne)

  pub at_cases : (P : ℕ → Option AdmittedCyclic → Type 0) → P id (f (m id)) → ((j : ℕ) → j ≢ id → P j (m j)) → (j : ℕ)
      → P j (changed_at m id f j)
  at_cases P here there j = dite (ℕ_discrete j id)
      (λ e. subst (λ (k : ℕ). P k (changed_at m id f k)) (sym e) (subst (P id) (sym at_same) here))
      (λ ne. subst (P j) (sym (at_other j ne)) (there j ne))

-- a change that keeps the index
module _ (m : Cyclics) (id : ℕ) (f : AdmittedCyclic → AdmittedCyclic) (same : (c : AdmittedCyclic) → c.index ≡ (f c).index) where
  was : (o : Option AdmittedCyclic) (d : AdmittedCyclic) → option_map f o ≡ Some d → (c : AdmittedCyclic) × (o ≡ Some c)
      × (c.index ≡ d.index)
  was None d e = absurd (cc)
  was (Some c) d e = (c, refl, same c ∙ ap (λ (x : AdmittedCyclic). x.index) (some_same (f c) d e))

  pub from_old : (j : ℕ) (d : AdmittedCyclic) → changed_at m id (option_map f) j ≡ Some d → (c : AdmittedCyclic) × (m j ≡ Some c)
      × (c.index ≡ d.index)
  from_old j d e = at_cases m id (option_map f) (λ k o. o ≡ Some d → (c : AdmittedCyclic) × (m k ≡ Some c) × (c.index ≡ d.index))
      (was (m id) d) (λ k _ h. (d, h, refl)) j e

pub hand_here : (id : ℕ) → in_hand id (Some id) ≡ 1
hand_here id = ap (λ b. cond b 1 0) (eq-eqb id id refl)

pub hand_else : (j id : ℕ) → j ≢ id → in_hand j (Some id) ≡ 0
hand_else j id ne = ap (λ b. cond b 1 0) (ne_eqb j id ne)

pub times_append : (id : ℕ) (xs ys : List ℕ) → times_in id (xs ++ ys) ≡ times_in id xs + times_in id ys
times_append id [] ys = omega arith
times_append id (x ∷ xs) ys = let h = times_append id xs ys in omega (arith, h)
