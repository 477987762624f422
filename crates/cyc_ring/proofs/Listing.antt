-- The finder of a raise seat after a step.
use Rattle.std.proofs.Common.{◌≡◌, ℕ, eqb, Bool, true, false, cond, List, ◌∷◌, refl, ap, sym, ◌∙◌}
use Rattle.std.specs.Prelude.{Option, Some, None}
use Rattle.ring_rule.specs.declared.RaiseStep.{RaiseStep}
use Rattle.ring_rule.specs.declared.RaiseStep.TheVariants.{Admitted, Cleared}
use Rattle.cyc_level.specs.Runs.{StayCounts, one_more}
use Rattle.ring_rule.specs.Trail.{open_stay}
use Rattle.cyc_ring.specs.Rows.{stay_index}

admitted_index : (b : Bool) (i : ℕ) (o : Option StayCounts)
    → cond b (Some i) (stay_index o) ≡ stay_index (cond b (Some record { index = i; sent = 0; lost = 0 }) o)
admitted_index true i o = refl
admitted_index false i o = refl

cleared_index : (b : Bool) (o : Option StayCounts) → cond b None (stay_index o) ≡ stay_index (cond b None o)
cleared_index true o = refl
cleared_index false o = refl

more_index : (b : Bool) (n : ℕ) (o : Option StayCounts) → stay_index o ≡ stay_index (cond b (one_more n o) o)
more_index true n None = refl
more_index true n (Some s) = refl
more_index false n o = refl

module _ (t : List RaiseStep) (listed listed' : ℕ → Option ℕ) (L : (id : ℕ) → listed id ≡ stay_index (open_stay id t)) where
  pub listed_admitted : (a i : ℕ) → ((j : ℕ) → listed' j ≡ cond (eqb j a) (Some i) (listed j)) → (id : ℕ)
      → listed' id ≡ stay_index (open_stay id (Admitted a i ∷ t))
  listed_admitted a i new id = new id ∙ (ap (cond (eqb id a) (Some i)) (L id) ∙ admitted_index (eqb id a) i (open_stay id t))

  pub listed_cleared : (a : ℕ) → ((j : ℕ) → listed' j ≡ cond (eqb j a) None (listed j)) → (id : ℕ)
      → listed' id ≡ stay_index (open_stay id (Cleared a ∷ t))
  listed_cleared a new id = new id ∙ (ap (cond (eqb id a) None) (L id) ∙ cleared_index (eqb id a) (open_stay id t))

pub listed_more : (t t' : List RaiseStep) (listed : ℕ → Option ℕ) → ((id : ℕ) → listed id ≡ stay_index (open_stay id t))
    → (a n : ℕ) → ((id : ℕ) → open_stay id t' ≡ cond (eqb id a) (one_more n (open_stay id t)) (open_stay id t)) → (id : ℕ)
    → listed id ≡ stay_index (open_stay id t')
listed_more t t' listed L a n grows id = L id ∙ (more_index (eqb id a) n (open_stay id t) ∙ ap stay_index (sym (grows id)))

pub no_stay : (o : Option StayCounts) → stay_index o ≡ None → o ≡ None
no_stay None e = refl
no_stay (Some s) e = absurd (cc)
