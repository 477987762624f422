-- A soft interrupt of the machine, and the polls of the open removals that follow it.
use Rattle.std.specs.Prelude.{◌≡◌, ℕ, None, List}
use Rattle.cyc_types.specs.Tally.{tally_count}
use Rattle.cyc_soft.specs.declared.Ran.{Ran}
use Rattle.cyc_script.specs.declared.step.Softint.{Softint as SoftintStep}
use Rattle.cyc_system.specs.System.{running_system}
use Rattle.cyc_model.specs.Questions.{plain}
use Rattle.cyc_model.specs.State.{State, each}
use Rattle.cyc_model.specs.Softint.{interrupt, softint_refusal, poll_id}
use Rattle.cyc_system_model.specs.Running.{IsServed}
use Rattle.cyc_system_model.specs.Removal.{HavePolled}
use Rattle.cyc_replay.specs.declared.machine.Machine.{Machine}
use Rattle.cyc_replay.specs.Machine.{ShowsMachine, IsReached}

-- The soft interrupt of this step was made on the machine first, which s shows: so many calls, and what they left is the machine
-- now, before any removal is polled.
pub record HasInterrupted (step : ℕ) (i : SoftintStep) (made : Ran) (s : State) (first m : Machine) : Type 0 where
  pub reached : IsReached step s
  pub served : IsServed tally_count i made s (running_system first.tally first.system) (running_system m.tally m.system)
  pub holds : ShowsMachine (interrupt step i s).state m

-- the ids of open removals that were polled, in order, and the lines that were written of them
pub record PollsMade : Type 0 where
  pub ids : List ℕ
  pub lines : List ℕ

abbrev pub polls_of : List ℕ → List ℕ → PollsMade
polls_of ids lines = record { ids = ids; lines = lines }

-- After the soft interrupt of this step, which s is before, these polls were made: the machine is now as the definition's.
pub record IsPolling (texts : List (List ℕ)) (step : ℕ) (p : PollsMade) (i : SoftintStep) (s : State) (m : Machine) : Type 0 where
  pub reached : IsReached step s
  pub accepted : softint_refusal i s ≡ None
  pub polled : HavePolled texts step p.ids p.lines (interrupt step i s).state m.system
  pub holds : ShowsMachine (each (poll_id plain texts step) p.ids (interrupt step i s).state).state m
