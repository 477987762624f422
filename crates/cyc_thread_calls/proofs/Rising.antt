-- The ids that a run gives are distinct, and so are the names that it gives them.
use Rattle.std.proofs.Common.{◌≡◌, ℕ, ◌<◌, ◌≤◌, inl, inr, Bool, true, false, List, [], ◌∷◌, Option, Some}
use Rattle.std.proofs.Common.{Result, Ok, Err, refl, sym, ap, arith}
use Rattle.std.specs.Prelude.{◌&&◌}
use Rattle.std.specs.List.{FoldsTo}
use Rattle.cyc_types.specs.declared.Calls.{Ghosts as Calls}
use Rattle.cyc_types.specs.declared.Raise.{Ghosts as Raise}
use Rattle.cyc_types.specs.declared.level.Level.{Level}
use Rattle.cyc_types.specs.declared.moment.When.{When}
use Rattle.cyc_types.specs.declared.refusal.Refusal.{Refusal}
use Rattle.cyc_threads.proofs.Lists.{eq_true}
use Rattle.cyc_threads.proofs.Spots.{same_some, none_some}
use Rattle.cyc_script.specs.declared.step.Step.{Step}
use Rattle.cyc_script.specs.declared.step.Step.TheVariants as steps
use Rattle.cyc_script.specs.WellFormed.{names_after, name_fits, names_fit}
use Rattle.cyc_threads.specs.System.{SystemView}
use Rattle.cyc_threads.specs.Calls.{SystemCall, Changes, Add, AddOmni, PollRemove}
use Rattle.cyc_threads.proofs.Pieces.{made_of}
use Rattle.cyc_system_rings.specs.Leading.{LeadCall, Make}
use Rattle.cyc_system_rings.proofs.Singles.{ok_err}
use Rattle.cyc_threads.specs.declared.progress.Progress.{Progress}
use Rattle.cyc_threads.specs.StepCalls.{CallsFor, Poll, Polls}
use Rattle.cyc_threads.specs.Words.{DoesStep, Begins, waits_first}
use Rattle.cyc_threads.specs.Steps.{TakesSteps}
use Rattle.cyc_thread_calls.specs.Leading.{call_of}
use Rattle.cyc_thread_calls.specs.Giving.{given_by}
use Rattle.cyc_thread_calls.proofs.Called.{by_word}
use Rattle.cyc_thread_calls.proofs.Meets.{Gives, AllGive}

pub and_left : (a b : Bool) → (a && b) ≡ true → a ≡ true
and_left true b e = refl
and_left false b e = e

pub and_right : (a b : Bool) → (a && b) ≡ true → b ≡ true
and_right true b e = e
and_right false true e = refl
and_right false false e = e

gives_more : (P Q : ℕ → ℕ → Type 0) → ((j d : ℕ) → P j d → Q j d) → (x : Step) (o : Option LeadCall) → Gives P x o → Gives Q x o
gives_more P Q f (steps.Add a) o g = λ d e. f a.name d (g d e)
gives_more P Q f (steps.Omni a) o g = λ d e. f a.name d (g d e)
gives_more P Q f x o g = tt

module _ {R : Type 0} (firing : Raise R) (s t : SystemView R) where
  -- the id that a call gives is above all that were given before it
  added_above : (level : Level) (when : When) (now : ℕ) (answer : Result ℕ Refusal) → Changes firing s
      (Add level when now answer) t → (d : ℕ) → given_by (Make (Add level when now answer)) ≡ Some d
      → (s.last < d) × (d ≤ t.last)
  added_above level when now (Err e) c d is = absurd (none_some is)
  added_above level when now (Ok id) (inl (e, why, is, same)) d q = absurd (ok_err is)
  added_above level when now (Ok id) (inr (clear, (n, chosen, next, works, records, last))) d q =
      let same = same_some q in (omega (arith, next, same), omega (arith, last, same))

  omni_above : (level : Level) (when : When) (skew now : ℕ) (answer : Result ℕ Refusal) → Changes firing s
      (AddOmni level when skew now answer) t → (d : ℕ) → given_by (Make (AddOmni level when skew now answer)) ≡ Some d
      → (s.last < d) × (d ≤ t.last)
  omni_above level when skew now (Err e) c d is = absurd (none_some is)
  omni_above level when skew now (Ok id) (inl (e, why, is, same)) d q = absurd (ok_err is)
  omni_above level when skew now (Ok id) (inr (clear, (next, works, records, last))) d q =
      let same = same_some q in (omega (arith, next, same), omega (arith, last, same))

module _ {C R : Type 0} (handler : Calls C) (firing : Raise R) where
  -- no step takes an id back
  abbrev Rises : Progress R C → Progress R C → Type 0
  Rises s t = s.side.system.last ≤ t.side.system.last

  unmoved : (s t : Progress R C) → t ≡ s → Rises s t
  unmoved s t e = let l = ap (λ (p : Progress R C). p.side.system.last) e in omega (arith, l)

  call_rises : (name : ℕ) (call : SystemCall) (s t : Progress R C) → CallsFor firing name call s t → Rises s t
  call_rises name call s t c = (made_of firing s.side.system t.side.system call c.did).last

  pub does_rises : (x : Step) (s t : Progress R C) → DoesStep handler firing x s t → Rises s t
  does_rises (steps.Advance now) s t (inl (suspended, e)) =
      let l = ap (λ (p : Progress R C). p.side.system.last) e in omega (arith, l)
  does_rises (steps.Advance now) s t (inr d) =
      let a = d.fired.last in let b = ap (λ (p : _). p.system.last) d.side in omega (arith, a, b)
  does_rises (steps.Softint i) s t e = unmoved s t e
  does_rises x s t d = by_word handler firing s t (λ o. Rises s t) (λ e. unmoved s t e) x tt
      (λ name call is c. call_rises name call s t c) d

  polls_rise : (polls : List Poll) (s t : Progress R C) → FoldsTo (Polls firing) s polls t → Rises s t
  polls_rise [] s t e = unmoved s t (sym e)
  polls_rise (p ∷ polls) s t (u, (here, did), rest) =
      let a = call_rises p.name (PollRemove p.id p.answer) s u did in let b = polls_rise polls u t rest in omega (arith, a, b)

  pub begins_rise : (b : Bool) (s t : Progress R C) → Begins firing b s t → Rises s t
  begins_rise false s t e = unmoved s t e
  begins_rise true s t (polls, u, polled, settles) =
      let a = polls_rise polls s u polled in let b = settles.asked.last in omega (arith, a, b)

  -- what a step gives: the next name, and an id above those before it
  pub does_gives : (n : ℕ) (x : Step) (s t : Progress R C) (d : DoesStep handler firing x s t)
      → name_fits n x ≡ true → Gives (λ j id. (j ≡ n) × (s.side.system.last < id) × (id ≤ t.side.system.last)) x
      (call_of handler firing x s t d)
  does_gives n (steps.Add a) s t (inl (when, starts, lasts, long, (answer, did))) fits = λ d e.
      (let (low, high) = added_above firing s.side.system t.side.system a.level when s.clock answer did.did d e in
      (eq_true a.name n fits, low, high))
  does_gives n (steps.Add a) s t (inr (bad, same)) fits = λ d e. absurd (none_some e)
  does_gives n (steps.Omni a) s t (inl (when, starts, lasts, long, (answer, did))) fits = λ d e.
      (let (low, high) = omni_above firing s.side.system t.side.system a.level when a.skew s.clock answer did.did d e in
      (eq_true a.name n fits, low, high))
  does_gives n (steps.Omni a) s t (inr (bad, same)) fits = λ d e. absurd (none_some e)
  does_gives n x s t d fits = tt

  pub all_more : (P Q : ℕ → ℕ → Type 0) → ((j d : ℕ) → P j d → Q j d) → (s : Progress R C) (xs : List Step) (t : Progress R C)
      (takes : TakesSteps handler firing s xs t) → AllGive handler firing P s xs t takes
      → AllGive handler firing Q s xs t takes
  all_more P Q f s [] t takes all = tt
  all_more P Q f s (x ∷ xs) t (u, (v, begins, does), rest) (gives, more) =
      (gives_more P Q f x (call_of handler firing x v u does) gives, all_more P Q f u xs t rest more)

  names_rise : (n : ℕ) (x : Step) → n ≤ names_after n x
  names_rise n (steps.Add a) = omega arith
  names_rise n (steps.Omni a) = omega arith
  names_rise n x = omega arith

  -- all that steps give: names of these numbers or greater ones, and ids above those before them
  pub above : (n : ℕ) (s : Progress R C) (xs : List Step) (t : Progress R C)
      (takes : TakesSteps handler firing s xs t) → names_fit n xs ≡ true
      → AllGive handler firing (λ j d. (n ≤ j) × (s.side.system.last < d)) s xs t takes
  above n s [] t takes fits = tt
  above n s (x ∷ xs) t (u, (v, begins, does), rest) fits =
      let a = begins_rise (waits_first x) s v begins in let b = does_rises x v u does in
      let m = names_rise n x in (
        gives_more _ _ (λ j d (is, low, high). (omega (arith, is), omega (arith, a, low))) x
            (call_of handler firing x v u does) (does_gives n x v u does (and_left _ _ fits)),
        all_more _ _ (λ j d (far, low). (omega (arith, m, far), omega (arith, a, b, low))) u xs t rest
            (above (names_after n x) u xs t rest (and_right (name_fits n x) _ fits)),
      )
