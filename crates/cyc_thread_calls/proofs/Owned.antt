-- The id that a run gave a name is that of no other name, and the name got no other.
use Rattle.std.proofs.Common.{◌≡◌, ◌≢◌, ◌==◌, ◌∙◌, ℕ, ◌+◌, ◌<◌, ◌≤◌, Bool, true, false, cond, List, [], ◌∷◌, Option, Some}
use Rattle.std.proofs.Common.{None, refl, sym, arith}
use Rattle.cyc_types.specs.declared.Calls.{Ghosts as Calls}
use Rattle.cyc_types.specs.declared.Raise.{Ghosts as Raise}
use Rattle.cyc_threads.proofs.Lists.{eq_true, true_eq, false_ne}
use Rattle.cyc_threads.proofs.Spots.{same_some, none_some}
use Rattle.cyc_script.specs.declared.step.Step.{Step}
use Rattle.cyc_script.specs.declared.step.Step.TheVariants as steps
use Rattle.cyc_script.specs.WellFormed.{name_fits, names_fit}
use Rattle.cyc_threads.specs.declared.progress.Progress.{Progress}
use Rattle.cyc_threads.specs.Words.{waits_first}
use Rattle.cyc_threads.specs.Steps.{TakesSteps}
use Rattle.cyc_thread_calls.specs.Leading.{call_of}
use Rattle.cyc_thread_calls.specs.Giving.{later_id, id_in_steps}
use Rattle.cyc_thread_calls.proofs.Meets.{given, AllGive}
use Rattle.cyc_thread_calls.proofs.Rising.{and_left, and_right, does_rises, begins_rise, does_gives, all_more, above}

-- these two are the name and its id, or neither is
abbrev pub Fit : ℕ → ℕ → ℕ → ℕ → Type 0
Fit i k j d = (d == i) ≡ (j == k)

both : (i k j d : ℕ) → d ≡ i → (j == k) ≡ true → Fit i k j d
both i k j d e is = true_eq d i e ∙ sym is

neither : (i k j d : ℕ) → d ≢ i → j ≢ k → Fit i k j d
neither i k j d a b = false_ne d i a ∙ sym (false_ne j k b)

later_only : (o : Option ℕ) (i : ℕ) → later_id None o ≡ Some i → o ≡ Some i
later_only None i e = e
later_only (Some j) i e = e

-- a step that may give the name an id, and the steps after it
module _ (All : (ℕ → ℕ → Type 0) → Type 0)
    (more : (P Q : ℕ → ℕ → Type 0) → ((j d : ℕ) → P j d → Q j d) → All P → All Q)
    (i k n name low high : ℕ) (g later : Option ℕ)
    (gives : (d : ℕ) → g ≡ Some d → (name ≡ n) × (low < d) × (d ≤ high))
    (rises : low ≤ high) (rest : All (λ j d. (n + 1 ≤ j) × (high < d)))
    (known : later ≡ Some i → (n + 1 ≤ k) × (high < i) × All (Fit i k)) where
  abbrev Known : Type 0
  Known = (n ≤ k) × (low < i) × ((d : ℕ) → g ≡ Some d → Fit i k name d) × All (Fit i k)

  known_here : (d : ℕ) → g ≡ Some d → d ≡ i → (name == k) ≡ true → Known
  known_here d is same own =
      let (next, above_low, below) = gives d is in let own' = eq_true name k own in (
        omega (arith, next, own'),
        omega (arith, above_low, same),
        (λ e q. both i k name e (sym (same_some (sym is ∙ q)) ∙ same) own),
        more _ _ (λ j e (far, new). neither i k j e (λ (z : e ≡ i). omega (arith, z, new, below, same))
            (λ (z : j ≡ k). omega (arith, z, far, next, own'))) rest,
      )

  known_later : later ≡ Some i → Known
  known_later is =
      let (far, up, all) = known is in (
        omega (arith, far),
        omega (arith, up, rises),
        (λ e q. (let (next, above_low, below) = gives e q in
            neither i k name e (λ (z : e ≡ i). omega (arith, z, up, below)) (λ (z : name ≡ k). omega (arith, z, next, far)))),
        all,
      )

  step_known : (b : Bool) (o l : Option ℕ) → (name == k) ≡ b → g ≡ o → later ≡ l → later_id (cond b o None) l ≡ Some i → Known
  step_known b o (Some j) own is then e = known_later (then ∙ e)
  step_known true (Some d) None own is then e = known_here d is (same_some e) own
  step_known true None None own is then e = absurd (none_some e)
  step_known false o None own is then e = absurd (none_some e)

module _ {C R : Type 0} (handler : Calls C) (firing : Raise R) (i k : ℕ) where
  abbrev Give : (ℕ → ℕ → Type 0) → (s : Progress R C) (xs : List Step) (t : Progress R C)
      → TakesSteps handler firing s xs t → Type 0
  Give P s xs t takes = AllGive handler firing P s xs t takes

  pub known : (n : ℕ) (s : Progress R C) (xs : List Step) (t : Progress R C)
      (takes : TakesSteps handler firing s xs t) → names_fit n xs ≡ true
      → id_in_steps handler firing k s xs t takes ≡ Some i
      → (n ≤ k) × (s.side.system.last < i) × Give (Fit i k) s xs t takes
  known n s [] t takes fits is = absurd (none_some is)
  known n s (steps.Add a ∷ xs) t (u, (v, begins, does), rest) fits is =
      let x = steps.Add a in let ok = and_right (name_fits n x) (names_fit (n + 1) xs) fits in
      let first = begins_rise handler firing true s v begins in
      let then = does_rises handler firing x v u does in
      let g = given (call_of handler firing x v u does) in
      let later = id_in_steps handler firing k u xs t rest in
      let own : (d : ℕ) → g ≡ Some d → (a.name ≡ n) × (s.side.system.last < d) × (d ≤ u.side.system.last) = λ d e.
      (let (next, low, high) = does_gives handler firing n x v u does (and_left (name_fits n x) _ fits) d e in
      (next, omega (arith, first, low), high)) in
      let (far, low, gives, more) = step_known (λ P. Give P u xs t rest)
      (λ P Q f. all_more handler firing P Q f u xs t rest) i k n a.name s.side.system.last u.side.system.last
      g later own (omega (arith, first, then)) (above handler firing (n + 1) u xs t rest ok)
      (λ e. known (n + 1) u xs t rest ok e) (a.name == k) g later refl refl refl is in
      (far, low, (gives, more))
  known n s (steps.Omni a ∷ xs) t (u, (v, begins, does), rest) fits is =
      let x = steps.Omni a in let ok = and_right (name_fits n x) (names_fit (n + 1) xs) fits in
      let first = begins_rise handler firing true s v begins in
      let then = does_rises handler firing x v u does in
      let g = given (call_of handler firing x v u does) in
      let later = id_in_steps handler firing k u xs t rest in
      let own : (d : ℕ) → g ≡ Some d → (a.name ≡ n) × (s.side.system.last < d) × (d ≤ u.side.system.last) = λ d e.
      (let (next, low, high) = does_gives handler firing n x v u does (and_left (name_fits n x) _ fits) d e in
      (next, omega (arith, first, low), high)) in
      let (far, low, gives, more) = step_known (λ P. Give P u xs t rest)
      (λ P Q f. all_more handler firing P Q f u xs t rest) i k n a.name s.side.system.last u.side.system.last
      g later own (omega (arith, first, then)) (above handler firing (n + 1) u xs t rest ok)
      (λ e. known (n + 1) u xs t rest ok e) (a.name == k) g later refl refl refl is in
      (far, low, (gives, more))
  known n s (x ∷ xs) t (u, (v, begins, does), rest) fits is =
      let first = begins_rise handler firing (waits_first x) s v begins in
      let then = does_rises handler firing x v u does in
      let (far, low, more) = known n u xs t rest (and_right (name_fits n x) (names_fit n xs) fits)
      (later_only (id_in_steps handler firing k u xs t rest) i is) in
      (far, omega (arith, first, then, low), (tt, more))
