-- Each advance of a run stays below never, since each of its script does.
use Rattle.std.proofs.Common.{◌≡◌, ℕ, List, [], ◌∷◌, ◌++◌, Bool, true, false, All, arith, inl, inr}
use Rattle.std.specs.Prelude.{nat_le, nat_lt}
use Rattle.std.specs.List.{FoldsTo}
use Rattle.std.proofs.lemmas.Bool.Decides.{nat_tests}
use Rattle.std.proofs.lemmas.List.Elements.{All-nil, All-cons, All-head, All-tail}
use Rattle.cyc_types.specs.declared.Calls.{Ghosts as Calls}
use Rattle.cyc_types.specs.declared.Raise.{Ghosts as Raise}
use Rattle.cyc_types.specs.Series.{never}
use Rattle.cyc_script.specs.WellFormed.{moment_fits, moment_after, moments_fit}
use Rattle.cyc_script.specs.declared.step.Step.{Step}
use Rattle.cyc_script.specs.declared.step.Step.TheVariants as steps
use Rattle.cyc_threads.specs.Calls.{PollRemove}
use Rattle.cyc_system_rings.specs.Leading.{LeadCall, Make, FireAll, AskAll}
use Rattle.cyc_system_rings.specs.Events.{IsBeforeNever}
use Rattle.cyc_words.specs.declared.named.Named.{Named}
use Rattle.cyc_words.specs.declared.named.Named.TheVariants.{Nothing, Cyclic, Leaving, Removed}
use Rattle.cyc_threads.specs.declared.progress.Progress.{Progress}
use Rattle.cyc_threads.specs.declared.counting.Line.{Line}
use Rattle.cyc_threads.specs.StepCalls.{Poll, Waits}
use Rattle.cyc_threads.specs.Words.{DoesStep, Begins, waits_first}
use Rattle.cyc_threads.specs.Steps.{TakesSteps, Runs}
use Rattle.cyc_threads.specs.Counting.{NameLine, Tells, TellsOf, Reports}
use Rattle.cyc_thread_calls.specs.Leading.{calls_in, poll_calls, wait_calls, begin_calls, call_of, steps_calls}
use Rattle.cyc_thread_calls.specs.Leading.{told_calls_of, told_calls, all_calls}
use Rattle.cyc_thread_calls.proofs.Called.{by_word}
use Rattle.cyc_thread_calls.proofs.Rising.{and_left, and_right}

abbrev pub AreEarly : List LeadCall → Type 0
AreEarly calls = All IsBeforeNever calls

none_late : AreEarly []
none_late = All-nil IsBeforeNever

one_early : (call : LeadCall) → IsBeforeNever call → AreEarly (call ∷ [])
one_early call early = All-cons IsBeforeNever call [] early none_late

both_early : (xs ys : List LeadCall) → AreEarly xs → AreEarly ys → AreEarly (xs ++ ys)
both_early [] ys a b = b
both_early (x ∷ xs) ys a b =
    All-cons IsBeforeNever x (xs ++ ys) (All-head IsBeforeNever x xs a) (both_early xs ys (All-tail IsBeforeNever x xs a) b)

polls_early : (polls : List Poll) → AreEarly (poll_calls polls ++ AskAll ∷ [])
polls_early [] = one_early AskAll tt
polls_early (p ∷ polls) = All-cons IsBeforeNever (Make (PollRemove p.id p.answer)) (poll_calls polls ++ AskAll ∷ []) tt
    (polls_early polls)

module _ {C R : Type 0} (handler : Calls C) (firing : Raise R) where
  wait_early : (s t : Progress R C) (w : Waits firing s t) → AreEarly (wait_calls firing s t w)
  wait_early s t (polls, u, polled, settles) = polls_early polls

  begin_early : (b : Bool) (s t : Progress R C) (w : Begins firing b s t) → AreEarly (begin_calls firing b s t w)
  begin_early false s t w = none_late
  begin_early true s t w = wait_early s t w

  does_early : (now : ℕ) (x : Step) (s t : Progress R C) (d : DoesStep handler firing x s t)
      → moment_fits now x ≡ true → AreEarly (calls_in (call_of handler firing x s t d))
  does_early now (steps.Advance moment) s t (inl suspended) fits = none_late
  does_early now (steps.Advance moment) s t (inr d) fits =
      let below = and_right (nat_le now moment) (nat_lt moment never) fits in
      one_early (FireAll moment) (grind (arith, nat_tests, below))
  does_early now (steps.Softint i) s t d fits = none_late
  does_early now x s t d fits = by_word handler firing s t (λ o. AreEarly (calls_in o)) (λ e. none_late) x tt
      (λ name call is c. one_early (Make call) tt) d

  steps_early : (now : ℕ) (s : Progress R C) (xs : List Step) (t : Progress R C)
      (takes : TakesSteps handler firing s xs t) → moments_fit now xs ≡ true
      → AreEarly (steps_calls handler firing s xs t takes)
  steps_early now s [] t takes fits = none_late
  steps_early now s (x ∷ xs) t (u, (v, begins, does), rest) fits = both_early
      (begin_calls firing (waits_first x) s v begins ++ calls_in (call_of handler firing x v u does))
      (steps_calls handler firing u xs t rest)
      (both_early (begin_calls firing (waits_first x) s v begins)
      (calls_in (call_of handler firing x v u does)) (begin_early (waits_first x) s v begins)
      (does_early now x v u does (and_left (moment_fits now x) (moments_fit (moment_after now x) xs) fits)))
      (steps_early (moment_after now x) u xs t rest (and_right (moment_fits now x) _ fits))

  line_early : (named : Named) (line : Line) (s t : Progress R C) (w : TellsOf firing named line s t)
      → AreEarly (told_calls_of firing named line s t w)
  line_early Nothing line s t w = none_late
  line_early (Cyclic own) line s t (answer, did, is) = one_early _ tt
  line_early (Leaving own) line s t (answer, did, is) = one_early _ tt
  line_early (Removed receipt) line s t w = none_late

  lines_early : (all : List NameLine) (s t : Progress R C) (w : FoldsTo (Tells firing) s all t)
      → AreEarly (told_calls firing all s t w)
  lines_early [] s t w = none_late
  lines_early (one ∷ all) s t (u, tells, rest) = both_early (told_calls_of firing one.named one.line s u tells)
      (told_calls firing all u t rest) (line_early one.named one.line s u tells) (lines_early all u t rest)

  pub all_early : (now : ℕ) (xs : List Step) (lines : List Line) (s t u : Progress R C)
      (runs : Runs handler firing s xs t) (reports : Reports firing lines t u)
      → moments_fit now xs ≡ true → AreEarly (all_calls handler firing xs lines s t u runs reports)
  all_early now xs lines s t u (v, takes, waits) reports fits = both_early _ _
      (both_early (steps_calls handler firing s xs v takes) (wait_calls firing v t waits)
      (steps_early now s xs v takes fits) (wait_early v t waits))
      (lines_early reports.all t u reports.tells)
