-- The hand of a drain seat.
use Rattle.std.proofs.Common.{◌≡◌, ℕ, zero, suc, List, [], ◌∷◌, ◌++◌, refl, sym, ap, ◌∙◌}
use Rattle.std.specs.Prelude.{Option, Some, None, IsSome}
use Rattle.ring_rule.specs.declared.DrainStep.{DrainStep}
use Rattle.ring_rule.specs.declared.DrainStep.TheVariants.{LoadedHardBank, LoadedProducer, Took, Followed, Subtracted}
use Rattle.ring_rule.specs.Trail.{held_entry, made_calls, id_in_entry, drainer_hand_of}
use Rattle.cyc_ring.specs.Rows.{entry_in_hand}
use Rattle.cyc_types.specs.Draining.{Takes}
use Rattle.cyc_ring.specs.Steps.{AreFollows, DrainSteps}

pub entry_some : (n : ℕ) → ¬ (n ≡ 0) → entry_in_hand n ≡ Some n
entry_some zero ne = absurd (ne refl)
entry_some (suc n) ne = refl

-- looks and follows change neither the hand nor what is made
module _ (start : ℕ) (t : List DrainStep) where
  pub held_follows : (xs : List DrainStep) → AreFollows start t xs → held_entry (xs ++ t) ≡ held_entry t
  held_follows [] f = refl
  held_follows (Followed bank ∷ LoadedProducer end ∷ LoadedHardBank saw ∷ xs) f = held_follows xs f.3
  held_follows (Followed bank ∷ LoadedProducer end ∷ []) f = absurd f
  held_follows (Followed bank ∷ []) f = absurd f
  held_follows (LoadedHardBank x ∷ xs) f = absurd f
  held_follows (LoadedProducer x ∷ xs) f = absurd f
  held_follows (Took x ∷ xs) f = absurd f
  held_follows (Subtracted x ∷ xs) f = absurd f
  held_follows (Followed bank ∷ LoadedHardBank x ∷ xs) f = absurd f
  held_follows (Followed bank ∷ Took x ∷ xs) f = absurd f
  held_follows (Followed bank ∷ Subtracted x ∷ xs) f = absurd f
  held_follows (Followed bank ∷ Followed x ∷ xs) f = absurd f
  held_follows (Followed bank ∷ LoadedProducer end ∷ LoadedProducer x ∷ xs) f = absurd f
  held_follows (Followed bank ∷ LoadedProducer end ∷ Took x ∷ xs) f = absurd f
  held_follows (Followed bank ∷ LoadedProducer end ∷ Subtracted x ∷ xs) f = absurd f
  held_follows (Followed bank ∷ LoadedProducer end ∷ Followed x ∷ xs) f = absurd f

  pub made_follows : (id : ℕ) (xs : List DrainStep) → AreFollows start t xs → made_calls id (xs ++ t) ≡ made_calls id t
  made_follows id [] f = refl
  made_follows id (Followed bank ∷ LoadedProducer end ∷ LoadedHardBank saw ∷ xs) f = made_follows id xs f.3
  made_follows id (Followed bank ∷ LoadedProducer end ∷ []) f = absurd f
  made_follows id (Followed bank ∷ []) f = absurd f
  made_follows id (LoadedHardBank x ∷ xs) f = absurd f
  made_follows id (LoadedProducer x ∷ xs) f = absurd f
  made_follows id (Took x ∷ xs) f = absurd f
  made_follows id (Subtracted x ∷ xs) f = absurd f
  made_follows id (Followed bank ∷ LoadedHardBank x ∷ xs) f = absurd f
  made_follows id (Followed bank ∷ Took x ∷ xs) f = absurd f
  made_follows id (Followed bank ∷ Subtracted x ∷ xs) f = absurd f
  made_follows id (Followed bank ∷ Followed x ∷ xs) f = absurd f
  made_follows id (Followed bank ∷ LoadedProducer end ∷ LoadedProducer x ∷ xs) f = absurd f
  made_follows id (Followed bank ∷ LoadedProducer end ∷ Took x ∷ xs) f = absurd f
  made_follows id (Followed bank ∷ LoadedProducer end ∷ Subtracted x ∷ xs) f = absurd f
  made_follows id (Followed bank ∷ LoadedProducer end ∷ Followed x ∷ xs) f = absurd f

  -- a take leaves what is made, and its answer is the hand
  pub made_take : (steps : List DrainStep) (answer : Option ℕ) → DrainSteps start t (Takes answer) steps → (id : ℕ)
      → made_calls id (steps ++ t) ≡ made_calls id t
  made_take steps None f id = ap (λ (l : List DrainStep). made_calls id (l ++ t)) f.2.4 ∙ made_follows id f.0 f.1
  made_take steps (Some x) f id = ap (λ (l : List DrainStep). made_calls id (l ++ t)) f.2.5 ∙ made_follows id f.0 f.1

  pub hand_take : (steps : List DrainStep) (answer : Option ℕ) → held_entry t ≡ None → DrainSteps start t (Takes answer) steps
      → drainer_hand_of (steps ++ t) ≡ answer
  hand_take steps None bare f = ap (λ (l : List DrainStep). drainer_hand_of (l ++ t)) f.2.4
      ∙ (ap id_in_entry (held_follows f.0 f.1) ∙ ap id_in_entry bare)
  hand_take steps (Some x) bare f = ap (λ (l : List DrainStep). drainer_hand_of (l ++ t)) f.2.5 ∙ ap Some (sym f.2.4)

bare_of : (o : Option ℕ) → id_in_entry o ≡ None → o ≡ None
bare_of None e = refl
bare_of (Some x) e = absurd (cc)

pub bare_held : (t : List DrainStep) → drainer_hand_of t ≡ None → held_entry t ≡ None
bare_held t e = bare_of (held_entry t) e

pub full_hand : (n : ℕ) → IsSome (id_in_entry (entry_in_hand n)) → ¬ (n ≡ 0)
full_hand zero some e = absurd (cc)
full_hand (suc n) some e = absurd (cc)
