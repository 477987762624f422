-- A cyclic is known until its removal answers.
use Rattle.std.proofs.Common.{◌≡◌, ℕ, ◌+◌, ◌==◌, Bool, true, false, cond, List, [], ◌∷◌, map, find, Option, Some, None, refl}
use Rattle.std.proofs.Common.{ap, sym, ◌∙◌}
use Rattle.std.specs.Prelude.{⊤, not, IsSome, is_some}
use Rattle.std.specs.Option.{option_map}
use Rattle.cyc_script.specs.declared.step.Step.{Step}
use Rattle.cyc_script.specs.declared.step.Step.TheVariants.{Add, Omni, Bind, Unbind, Reprogram, Remove, Advance, Softint, Juggle}
use Rattle.cyc_script.specs.declared.step.Step.TheVariants.{Offline, Online, Suspend, Resume}
use Rattle.cyc_model.specs.Firing.{fire_here}
use Rattle.cyc_model.specs.Questions.{plain}
use Rattle.cyc_model.specs.State.{State, Outcome, Placement, On, OnAll, Placed, on_number, each, cpus_online}
use Rattle.cyc_model.specs.Places.{placement_of, is_no_cyclic, given, destination_of}
use Rattle.cyc_model.specs.Add.{enter}
use Rattle.cyc_model.specs.Omni.{component, everywhere}
use Rattle.cyc_model.specs.Kept.{Kept}
use Rattle.cyc_model.specs.Script.{refusal_of, does}
use Rattle.cyc_model.proofs.Placing.{placement_given_old}
use Rattle.cyc_model.proofs.Spread.{Good}
use Rattle.cyc_model.proofs.Reaching.{safe_does}

-- a step that can end no removal
abbrev pub IsLasting : Step → Type 0
IsLasting (Remove name) = ⊥
IsLasting (Softint i) = ⊥
IsLasting _ = ⊤

abbrev has_id : ℕ → List ℕ → Bool
has_id id [] = false
has_id id (j ∷ js) = cond (j == id) true (has_id id js)

known_ids : (id : ℕ) (ps : List Placed) → is_some (find (λ p. p.id == id) ps) ≡ has_id id (map (λ p. p.id) ps)
known_ids id [] = refl
known_ids id (p ∷ ps) = by (p.id == id) (known_ids id ps)
  where
    by : (b : Bool) → is_some (find (λ (q : Placed). q.id == id) ps) ≡ has_id id (map (λ q. q.id) ps)
        → is_some (cond b (Some p) (find (λ (q : Placed). q.id == id) ps)) ≡ cond b true (has_id id (map (λ q. q.id) ps))
    by true h = refl
    by false h = h

some_placed : (o : Option Placed) → is_some (option_map (λ p. p.placement) o) ≡ is_some o
some_placed None = refl
some_placed (Some p) = refl

-- whether an id is known depends on the ids alone
pub same_known : (id : ℕ) (s t : State) → map (λ p. p.id) t.placed ≡ map (λ p. p.id) s.placed
    → is_some (placement_of id t) ≡ is_some (placement_of id s)
same_known id s t same =
    some_placed (find (λ p. p.id == id) t.placed) ∙ known_ids id t.placed ∙ ap (has_id id) same
    ∙ sym (known_ids id s.placed) ∙ sym (some_placed (find (λ p. p.id == id) s.placed))

pub same_each : {A : Type 0} → (f : A → State → Outcome) → ((x : A) (s : State) → (f x s).state.placed ≡ s.placed)
    → (xs : List A) (s : State)
    → (each f xs s).state.placed ≡ s.placed
same_each f same [] s = refl
same_each f same (x ∷ xs) s = same_each f same xs (f x s).state ∙ same x s

module _ (id : ℕ) where
  abbrev Stays : State → State → Type 0
  Stays s t = IsSome (placement_of id s) → IsSome (placement_of id t)

  stays_placed : (s t : State) → t.placed ≡ s.placed → Stays s t
  stays_placed s t same known = ap (λ ps. is_some (option_map (λ (p : Placed). p.placement) (find (λ p. p.id == id) ps))) same
      ∙ known

  stays_given : (name : ℕ) (placement : Placement) (s : State) → Stays s (given name placement s)
  stays_given name placement s known = by (placement_of id s) refl known
    where
      by : (o : Option Placement) → placement_of id s ≡ o → IsSome o → IsSome (placement_of id (given name placement s))
      by None is some = absurd (cc)
      by (Some p) is some = ap is_some (placement_given_old name placement s id p is)

  stays_moved : (s t : State) → Kept s t → Stays s t
  stays_moved s t h known = same_known id s t h.ids ∙ known

  stays_does : (texts : List (List ℕ)) (indexes : ℕ → ℕ) (step : ℕ) (x : Step) (s : State) → IsLasting x → Good s
      → refusal_of plain x s ≡ None → Stays s (does plain texts indexes step x s).state
  stays_does texts indexes step (Add a) s is g why known = stays_given a.name (On (destination_of None s) false) s known
  stays_does texts indexes step (Omni a) s is g why known =
      let t = given a.name (OnAll (everywhere a)) s in
      stays_placed t (does plain texts indexes step (Omni a) s).state
      (same_each (λ n u. enter indexes n (component (s.last_id + 1) n (everywhere a) u.clock) u) (λ n u. refl) (cpus_online t) t)
      (stays_given a.name (OnAll (everywhere a)) s known)
  stays_does texts indexes step (Bind b) s is g why known =
      stays_moved s (does plain texts indexes step (Bind b) s).state (safe_does texts indexes step (Bind b) s tt g why) known
  stays_does texts indexes step (Unbind name) s is g why known =
      stays_moved s (does plain texts indexes step (Unbind name) s).state (safe_does texts indexes step
      (Unbind name) s tt g why) known
  stays_does texts indexes step (Reprogram r) s is g why known = known
  stays_does texts indexes step (Remove name) s is g why known = absurd is
  stays_does texts indexes step (Advance now) s is g why known =
      stays_placed s (does plain texts indexes step (Advance now) s).state
      (same_each (λ n. on_number n (fire_here n now)) (λ n u. refl) (cpus_online s) (record s { clock = now })) known
  stays_does texts indexes step (Softint i) s is g why known = absurd is
  stays_does texts indexes step (Juggle n) s is g why known =
      stays_moved s (does plain texts indexes step (Juggle n) s).state (safe_does texts indexes step (Juggle n) s tt g why) known
  stays_does texts indexes step (Offline n) s is g why known =
      stays_moved s (does plain texts indexes step (Offline n) s).state (safe_does texts indexes step
      (Offline n) s tt g why) known
  stays_does texts indexes step (Online n) s is g why known =
      stays_moved s (does plain texts indexes step (Online n) s).state (safe_does texts indexes step (Online n) s tt g why) known
  stays_does texts indexes step Suspend s is g why known = known
  stays_does texts indexes step Resume s is g why known = known

  -- what is unknown after it was so before
  pub unknown_before : (texts : List (List ℕ)) (indexes : ℕ → ℕ) (step : ℕ) (x : Step) (s : State) → IsLasting x → Good s
      → refusal_of plain x s ≡ None → is_no_cyclic id (does plain texts indexes step x s).state ≡ true → is_no_cyclic id s ≡ true
  unknown_before texts indexes step x s is g why gone = by (placement_of id s) refl
    where
      by : (o : Option Placement) → placement_of id s ≡ o → not (is_some (placement_of id s)) ≡ true
      by None e = ap (λ p. not (is_some p)) e
      by (Some p) e =
          let known = stays_does texts indexes step x s is g why (ap is_some e) in
          absurd (let no : false ≡ true = sym (ap not known) ∙ gone in cc)
