-- The raises of each id, over all its stays.
use Rattle.std.proofs.Common.{◌≡◌, ◌≢◌, ℕ, ◌+◌, ◌≤◌, eqb, Bool, true, false, cond, List, [], ◌∷◌, refl, ap, sym, subst, arith}
use Rattle.std.proofs.Common.{ne_eqb}
use Rattle.std.specs.Prelude.{Option, Some, None}
use mathlib.Core.Logic.{dite}
use native.Mathlib.Decide.{ℕ_discrete}
use Rattle.ring_rule.specs.declared.RaiseStep.{RaiseStep}
use Rattle.ring_rule.specs.declared.RaiseStep.TheVariants.{Admitted, Loaded, Lost, Added, Cleared}
use Rattle.cyc_level.specs.Runs.{StayCounts, stay_calls, one_more}
use Rattle.ring_rule.specs.Trail.{open_stay, ended_calls, raises_of, losses_on_trail}
use Rattle.cyc_ring.specs.Views.{IsBalanced, IsSeenSound}

abbrev Even : ℕ → Option StayCounts → ℕ → ℕ → Type 0
Even e o l m = e + stay_calls o + l ≡ m

abbrev Within : Option StayCounts → Type 0
Within None = Unit {0}
Within (Some s) = s.lost ≤ s.sent

within : (o : Option StayCounts) → ((s : StayCounts) → o ≡ Some s → s.lost ≤ s.sent) → Within o
within None h = tt
within (Some s) h = h s refl

admits : (b : Bool) (e l m i : ℕ) (o : Option StayCounts) → (b ≡ true → o ≡ None) → Even e o l m
    → Even e (cond b (Some record { index = i; sent = 0; lost = 0 }) o) l m
admits true e l m i o z h = let n : stay_calls o ≡ 0 = ap stay_calls (z refl) in omega (arith, h, n)
admits false e l m i o z h = h

adds : (b : Bool) (e l m : ℕ) (o : Option StayCounts) → Within o → (b ≡ true → o ≢ None) → Even e o l m
    → Even e (cond b (one_more 0 o) o) l (cond {A = ℕ} b 1 0 + m)
adds true e l m None w z h = absurd (z refl refl)
adds true e l m (Some s) w z h = omega (arith, w, h)
adds false e l m o w z h = omega (arith, h)

loses : (b : Bool) (e l m : ℕ) (o : Option StayCounts) → Even e o l m
    → Even e (cond b (one_more 1 o) o) (cond {A = ℕ} b 1 0 + l) (cond {A = ℕ} b 1 0 + m)
loses true e l m None h = omega (arith, h)
loses true e l m (Some s) h = omega (arith, h)
loses false e l m o h = omega (arith, h)

clears : (b : Bool) (e l m : ℕ) (o : Option StayCounts) → Even e o l m
    → Even (cond {A = ℕ} b (e + stay_calls o) e) (cond b None o) l m
clears true e l m o h = omega (arith, h)
clears false e l m o h = h

to_id : (id a : ℕ) (P : ℕ → Type 0) → eqb id a ≡ true → P a → P id
to_id id a P e p = dite (ℕ_discrete id a) (λ q. subst P (sym q) p) (λ ne. let f = ne_eqb id a ne in absurd (cc))

module _ (t : List RaiseStep) (B : IsBalanced t) where
  pub balanced_admitted : (a i : ℕ) → open_stay a t ≡ None → IsBalanced (Admitted a i ∷ t)
  balanced_admitted a i none id = admits (eqb id a) (ended_calls id t) (losses_on_trail id t) (raises_of id t) i (open_stay id t)
      (λ e. to_id id a (λ x. open_stay x t ≡ None) e none) (B id)

  pub balanced_added : (c a n before : ℕ) → IsSeenSound c t → open_stay a t ≢ None → IsBalanced (Added a n ∷ Loaded a before ∷ t)
  balanced_added c a n before S some id = adds (eqb id a) (ended_calls id t) (losses_on_trail id t) (raises_of id t) (open_stay
      id t)
      (within (open_stay id t) (λ s e. let x = (S id s e).1 in omega (arith, x)))
      (λ e. to_id id a (λ x. open_stay x t ≢ None) e some) (B id)

  pub balanced_lost : (a n : ℕ) → IsBalanced (Lost a n ∷ t)
  balanced_lost a n id = loses (eqb id a) (ended_calls id t) (losses_on_trail id t) (raises_of id t) (open_stay id t) (B id)

  pub balanced_cleared : (a : ℕ) → IsBalanced (Cleared a ∷ t)
  balanced_cleared a id = clears (eqb id a) (ended_calls id t) (losses_on_trail id t) (raises_of id t) (open_stay id t) (B id)

pub balanced_none : IsBalanced []
balanced_none id = refl
