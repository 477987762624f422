-- How the steps of a run in threads were met: which of them were accepted, read off the answers of their calls.
use Rattle.cyc_threads.specs.Calls.{Suspend, Resume}
use Rattle.std.specs.Prelude.{Bool, true, false, List, [], ◌∷◌}
use Rattle.std.specs.Result.{is_ok}
use Rattle.std.specs.Option.{option_map_or}
use Rattle.cyc_types.specs.declared.Calls.{Ghosts as Calls}
use Rattle.cyc_types.specs.declared.Raise.{Ghosts as Raise}
use Rattle.cyc_script.specs.declared.step.Step.{Step}
use Rattle.cyc_script.specs.declared.step.Step.TheVariants.{Softint}
use Rattle.cyc_expected.specs.Expected.{Met}
use Rattle.cyc_threads.specs.Calls.{SystemCall, Add, AddOmni, Bind, BeginRemove, PollRemove, AskTotals, Reprogram, ReprogramOn}
use Rattle.cyc_threads.specs.Calls.{Juggle, Offline, Online, FireOne, SoftInterrupt}
use Rattle.cyc_system_rings.specs.Leading.{LeadCall, Make, FireAll, AskAll}
use Rattle.cyc_threads.specs.declared.progress.Progress.{Progress}
use Rattle.cyc_threads.specs.Words.{DoesStep}
use Rattle.cyc_threads.specs.Steps.{TakesSteps, Runs}
use Rattle.cyc_thread_calls.specs.Leading.{call_of}

-- the call was not refused
abbrev pub is_accepted : SystemCall → Bool
is_accepted (Add level when now answer) = is_ok answer
is_accepted (AddOmni level when skew now answer) = is_ok answer
is_accepted (Bind id cpu answer) = is_ok answer
is_accepted (BeginRemove id answer) = is_ok answer
is_accepted (PollRemove id answer) = is_ok answer
is_accepted (AskTotals id answer) = true
is_accepted (Reprogram id moment answer) = is_ok answer
is_accepted (ReprogramOn id n moment answer) = is_ok answer
is_accepted (Juggle n answer) = is_ok answer
is_accepted (Offline n answer) = is_ok answer
is_accepted (Online n now answer) = is_ok answer
is_accepted (Suspend answer) = is_ok answer
is_accepted (Resume answer) = is_ok answer
is_accepted (FireOne n now answer) = is_ok answer
is_accepted (SoftInterrupt n level budget answer) = is_ok answer

-- an advance or a question never is, where no fire was
abbrev pub is_taken : LeadCall → Bool
is_taken (Make call) = is_accepted call
is_taken (FireAll now) = true
is_taken AskAll = true

module _ {C R : Type 0} (handler : Calls C) (firing : Raise R) where
  -- A step was accepted where its call was not refused; one that made no call was not, as an `advance` while the system is
  -- suspended. A `softint` makes no call, and is never refused.
  abbrev pub was_accepted : (x : Step) (s t : Progress R C) → DoesStep handler firing x s t → Bool
  was_accepted (Softint i) s t does = true
  was_accepted x s t does = option_map_or is_taken (call_of handler firing x s t does) false

  -- the steps, and which of them were accepted
  abbrev pub steps_met : (s : Progress R C) (xs : List Step) (t : Progress R C)
      → TakesSteps handler firing s xs t → List Met
  steps_met s [] t takes = []
  steps_met s (x ∷ xs) t ((u, (v, begins, does), rest)) =
      record { step = x; accepted = was_accepted x v u does } ∷ steps_met u xs t rest

  -- those of a run
  abbrev pub way_of_run : (s : Progress R C) (xs : List Step) (t : Progress R C) → Runs handler firing s xs t → List Met
  way_of_run s xs t (u, takes, waits) = steps_met s xs u takes
