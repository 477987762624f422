-- A run of a script in threads is a run of calls.
use Rattle.std.proofs.Common.{◌≡◌, ℕ, zero, suc, inl, inr, List, [], ◌∷◌, ◌++◌, Option, Some, None, Result, Err, refl, sym, ap}
use Rattle.std.proofs.Common.{◌∙◌}
use Rattle.std.specs.Prelude.{Bool, true, false}
use Rattle.std.specs.List.{slice_get, FoldsTo}
use Rattle.cyc_types.specs.declared.Calls.{Ghosts as Calls}
use Rattle.cyc_types.specs.declared.Raise.{Ghosts as Raise}
use Rattle.cyc_types.proofs.Runs.{folds_on, folds_more}
use Rattle.cyc_timers.specs.declared.fire.Fired.{Fired}
use Rattle.cyc_timers.specs.declared.fire.FireRefused.{FireRefused}
use Rattle.cyc_threads.proofs.Spots.{same_some, none_some}
use Rattle.cyc_script.specs.declared.step.Step.{Step}
use Rattle.cyc_script.specs.declared.step.Step.TheVariants as steps
use Rattle.cyc_threads.specs.Calls.{SystemCall, PollRemove, AskTotals}
use Rattle.cyc_threads.specs.SystemSide.{SystemSide}
use Rattle.cyc_system_rings.specs.Leading.{LeadCall, Make, FireAll, AskAll}
use Rattle.cyc_system_rings.specs.Events.{AcceptedSteps, AllAccepted}
use Rattle.cyc_words.specs.declared.named.Named.{Named}
use Rattle.cyc_words.specs.declared.named.Named.TheVariants.{Nothing, Cyclic, Leaving, Removed}
use Rattle.cyc_threads.specs.declared.progress.Progress.{Progress}
use Rattle.cyc_threads.specs.declared.counting.Line.{Line}
use Rattle.cyc_threads.specs.StepCalls.{CallsFor, Poll, Polls, Waits, Fires, refusal_of_fire, refusal_at}
use Rattle.cyc_threads.specs.Words.{DoesStep, Begins, TakesStep, waits_first}
use Rattle.cyc_threads.specs.Steps.{TakesSteps, Runs}
use Rattle.cyc_threads.specs.Counting.{NameLine, Tells, TellsOf, Reports}
use Rattle.cyc_thread_calls.specs.Leading.{calls_in, poll_calls, wait_calls, begin_calls, told_calls_of, told_calls}
use Rattle.cyc_thread_calls.specs.Leading.{call_of, step_calls, steps_calls, run_calls, all_calls}
use Rattle.cyc_thread_calls.proofs.Called.{by_word}

-- an answer that is there is that of its number
at_number : (answers : List (Option (Result Fired FireRefused))) (n : ℕ) (a : Option (Result Fired FireRefused))
    → slice_get answers n ≡ Some a → refusal_at answers n ≡ refusal_of_fire a
at_number [] n a e = absurd (none_some e)
at_number (x ∷ xs) zero a e = ap refusal_of_fire (same_some e)
at_number (x ∷ xs) (suc n) a e = at_number xs n a e

module _ {C R : Type 0} (handler : Calls C) (firing : Raise R) where
  abbrev D : SystemSide R C → LeadCall → SystemSide R C → Type 0
  D = AcceptedSteps handler firing

  -- from the system of one to that of another by these calls
  abbrev pub Goes : Progress R C → List LeadCall → Progress R C → Type 0
  Goes s calls t = FoldsTo D s.side calls t.side

  goes_none : (s t : Progress R C) → t ≡ s → Goes s [] t
  goes_none s t e = ap (λ (p : Progress R C). p.side) (sym e)

  goes_on : (s t u : Progress R C) (xs ys : List LeadCall) → Goes s xs t → Goes t ys u → Goes s (xs ++ ys) u
  goes_on s t u xs ys a b = folds_on D s.side xs t.side ys u.side a b

  goes_call : (name : ℕ) (call : SystemCall) (s t : Progress R C) → CallsFor firing name call s t → D s.side (Make call) t.side
  goes_call name call s t c = ((c.did, c.leads), c.sound)

  goes_one : (name : ℕ) (call : SystemCall) (s t : Progress R C) → CallsFor firing name call s t → Goes s (Make call ∷ []) t
  goes_one name call s t c = (t.side, goes_call name call s t c, refl)

  polls_go : (polls : List Poll) (s t : Progress R C) → FoldsTo (Polls firing) s polls t → Goes s (poll_calls polls) t
  polls_go [] s t e = goes_none s t (sym e)
  polls_go (p ∷ polls) s t (u, (here, did), rest) =
      (u.side, goes_call p.name (PollRemove p.id p.answer) s u did, polls_go polls u t rest)

  pub wait_goes : (s t : Progress R C) (w : Waits firing s t) → Goes s (wait_calls firing s t w) t
  wait_goes s t (polls, u, run, q) =
      folds_more D s.side (poll_calls polls) u.side AskAll t.side (polls_go polls s u run) (q.asked, q.sound)

  pub begin_goes : (b : Bool) (s t : Progress R C) (w : Begins firing b s t) → Goes s (begin_calls firing b s t w) t
  begin_goes false s t e = goes_none s t e
  begin_goes true s t w = wait_goes s t w

  not_refused : (a : Option (Result Fired FireRefused)) (e : FireRefused) → refusal_of_fire a ≡ None → a ≡ Some (Err e) → ⊥
  not_refused a e none is = none_some (sym none ∙ ap refusal_of_fire is)

  pub accepted_fires : (now : ℕ) (s t : Progress R C) (f : Fires handler firing now s t) → AllAccepted f.after
  accepted_fires now s t f n e is = not_refused (Some (Err e)) e
      (sym (at_number f.after.answers.items n (Some (Err e)) is) ∙ f.accepted n) refl

  fires_go : (now : ℕ) (s t : Progress R C) → Fires handler firing now s t → Goes s (FireAll now ∷ []) t
  fires_go now s t f = (t.side, (f.after, f.fired, accepted_fires now s t f, f.side, f.sound), refl)

  pub does_go : (x : Step) (s t : Progress R C) (d : DoesStep handler firing x s t)
      → Goes s (calls_in (call_of handler firing x s t d)) t
  does_go (steps.Advance now) s t (inl (suspended, e)) = ap (λ (p : Progress R C). p.side) (sym e)
  does_go (steps.Advance now) s t (inr f) = fires_go now s t f
  does_go (steps.Softint i) s t e = goes_none s t e
  does_go x s t d = by_word handler firing s t (λ o. Goes s (calls_in o) t) (λ e. goes_none s t e) x tt
      (λ name call is c. goes_one name call s t c) d

  pub step_goes : (s : Progress R C) (x : Step) (t : Progress R C) (d : TakesStep handler firing s x t)
      → Goes s (step_calls handler firing s x t d) t
  step_goes s x t (u, b, d) = goes_on s u t _ _ (begin_goes (waits_first x) s u b) (does_go x u t d)

  pub steps_go : (s : Progress R C) (xs : List Step) (t : Progress R C)
      (run : TakesSteps handler firing s xs t)
      → Goes s (steps_calls handler firing s xs t run) t
  steps_go s [] t e = goes_none s t (sym e)
  steps_go s (x ∷ xs) t (u, d, rest) = goes_on s u t _ _ (step_goes s x u d) (steps_go u xs t rest)

  pub run_goes : (s : Progress R C) (xs : List Step) (t : Progress R C) (run : Runs handler firing s xs t)
      → Goes s (run_calls handler firing s xs t run) t
  run_goes s xs t (u, taken, w) = goes_on s u t _ _ (steps_go s xs u taken) (wait_goes u t w)

  told_goes : (named : Named) (line : Line) (s t : Progress R C) (d : TellsOf firing named line s t)
      → Goes s (told_calls_of firing named line s t d) t
  told_goes Nothing line s t (is, e) = goes_none s t e
  told_goes (Cyclic id) line s t (answer, did, is) = goes_one 0 (AskTotals id answer) s t did
  told_goes (Leaving id) line s t (answer, did, is) = goes_one 0 (AskTotals id answer) s t did
  told_goes (Removed receipt) line s t (is, e) = goes_none s t e

  pub all_told_go : (all : List NameLine) (s t : Progress R C) (d : FoldsTo (Tells firing) s all t)
      → Goes s (told_calls firing all s t d) t
  all_told_go [] s t e = goes_none s t (sym e)
  all_told_go (told ∷ all) s t (u, d, rest) =
      goes_on s u t _ _ (told_goes told.named told.line s u d) (all_told_go all u t rest)

  pub all_go : (xs : List Step) (lines : List Line) (s t u : Progress R C) (run : Runs handler firing s xs t)
      (r : Reports firing lines t u) → Goes s (all_calls handler firing xs lines s t u run r) u
  all_go xs lines s t u run r = goes_on s t u _ _ (run_goes s xs t run) (all_told_go r.all t u r.tells)
