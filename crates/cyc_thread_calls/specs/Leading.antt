-- The calls of the system that a run in threads made, in order: what led it, read off its steps as they were taken.
use Rattle.std.specs.Prelude.{◌≡◌, Bool, true, false, List, [], ◌∷◌, ◌++◌, map, Option, Some, None}
use Rattle.std.specs.Option.{option_map, option_map_or}
use Rattle.std.specs.List.{FoldsTo}
use mathlib.Core.Logic.{inl, inr}
use Rattle.cyc_types.specs.declared.Calls.{Ghosts as Calls}
use Rattle.cyc_types.specs.declared.Raise.{Ghosts as Raise}
use Rattle.cyc_script.specs.declared.step.Step.{Step}
use Rattle.cyc_script.specs.declared.step.Step.TheVariants as steps
use Rattle.cyc_threads.specs.Calls.{PollRemove, AskTotals}
use Rattle.cyc_system_rings.specs.Leading.{LeadCall, Make, FireAll, AskAll}
use Rattle.cyc_words.specs.declared.named.Named.{Named}
use Rattle.cyc_words.specs.declared.named.Named.TheVariants.{Nothing, Cyclic, Leaving, Removed}
use Rattle.cyc_threads.specs.declared.progress.Progress.{Progress}
use Rattle.cyc_threads.specs.declared.counting.Line.{Line}
use Rattle.cyc_threads.specs.StepCalls.{CallsFor, Poll, Waits}
use Rattle.cyc_words.specs.Words.{call_made}
use Rattle.cyc_threads.specs.Words.{DoesStep, Begins, TakesStep, waits_first}
use Rattle.cyc_threads.specs.Steps.{TakesSteps, Runs}
use Rattle.cyc_threads.specs.Counting.{NameLine, Tells, TellsOf, Reports}

-- a call, where there is one
abbrev pub calls_in : Option LeadCall → List LeadCall
calls_in o = option_map_or (λ call. call ∷ []) o []

-- the polls of open removals
abbrev pub poll_calls : List Poll → List LeadCall
poll_calls polls = map (λ (p : Poll). Make (PollRemove p.id p.answer)) polls

module _ {C R : Type 0} (firing : Raise R) where
  -- a wait: the polls, and then the question that all CPUs answered as settled
  abbrev pub wait_calls : (s t : Progress R C) → Waits firing s t → List LeadCall
  wait_calls s t (polls, u, polled, settles) = poll_calls polls ++ AskAll ∷ []

  -- what comes before the call of a step
  abbrev pub begin_calls : (waits : Bool) (s t : Progress R C) → Begins firing waits s t → List LeadCall
  begin_calls false s t begins = []
  begin_calls true s t begins = wait_calls s t begins

  -- what was asked for the line of a name
  abbrev pub told_calls_of : (named : Named) (line : Line) (s t : Progress R C) → TellsOf firing named line s t → List LeadCall
  told_calls_of Nothing line s t tells = []
  told_calls_of (Cyclic id) line s t (answer, did, is) = Make (AskTotals id answer) ∷ []
  told_calls_of (Leaving id) line s t (answer, did, is) = Make (AskTotals id answer) ∷ []
  told_calls_of (Removed receipt) line s t tells = []

  abbrev pub told_calls : (all : List NameLine) (s t : Progress R C) → FoldsTo (Tells firing) s all t → List LeadCall
  told_calls [] s t tells = []
  told_calls (told ∷ all) s t (u, tells, rest) = told_calls_of told.named told.line s u tells ++ told_calls all u t rest

  -- and for the whole report
  abbrev pub report_calls : (lines : List Line) (s t : Progress R C) → Reports firing lines s t → List LeadCall
  report_calls lines s t reports = told_calls reports.all s t reports.tells

module _ {C R : Type 0} (handler : Calls C) (firing : Raise R) where
  -- the call that a step made; a step that did nothing made none
  abbrev pub call_of : (x : Step) (s t : Progress R C) → DoesStep handler firing x s t → Option LeadCall
  call_of (steps.Advance now) s t (inl suspended) = None
  call_of (steps.Advance now) s t (inr fires) = Some (FireAll now)
  call_of (steps.Softint i) s t does = None
  call_of x s t does = option_map Make
      (call_made s.clock s.names (λ name call answer. CallsFor firing name call s t) (λ why. t ≡ s) x does)

  -- those of a step: of the wait before it, and its own
  abbrev pub step_calls : (s : Progress R C) (x : Step) (t : Progress R C) → TakesStep handler firing s x t → List LeadCall
  step_calls s x t (u, begins, does) = begin_calls firing (waits_first x) s u begins ++ calls_in (call_of x u t does)

  -- of all steps
  abbrev pub steps_calls : (s : Progress R C) (xs : List Step) (t : Progress R C)
      → TakesSteps handler firing s xs t → List LeadCall
  steps_calls s [] t takes = []
  steps_calls s (x ∷ xs) t (u, takes, rest) = step_calls s x u takes ++ steps_calls u xs t rest

  -- of all steps and of the wait after them
  abbrev pub run_calls : (s : Progress R C) (xs : List Step) (t : Progress R C) → Runs handler firing s xs t → List LeadCall
  run_calls s xs t (u, takes, waits) = steps_calls s xs u takes ++ wait_calls firing u t waits

  -- of a run and its report
  abbrev pub all_calls : (xs : List Step) (lines : List Line) (s t u : Progress R C)
      → Runs handler firing s xs t → Reports firing lines t u → List LeadCall
  all_calls xs lines s t u runs reports = run_calls s xs t runs ++ report_calls firing lines t u reports
