-- The numbers that a script prints.
use Rattle.std.specs.Prelude.{◌≡◌, ℕ, ◌+◌, ◌<◌, ◌≤◌, true, List, [], ◌∷◌, ◌++◌, None, if◌then◌else◌}
use Rattle.cyc_script.specs.declared.step.Step.TheVariants.{Remove, Softint}
use Rattle.cyc_script.specs.declared.step.Step.{Step}
use Rattle.cyc_script.specs.declared.step.Softint.{Softint as SoftintStep}
use Rattle.cyc_script.specs.declared.script.Script.{Script}
use Rattle.cyc_text.specs.Lines.{removed}
use Rattle.cyc_model.specs.Acts.{calls_of}
use Rattle.cyc_model.specs.Questions.{plain}
use Rattle.cyc_model.specs.State.{State}
use Rattle.cyc_model.specs.Places.{id_of, is_no_cyclic}
use Rattle.cyc_model.specs.Remove.{remove}
use Rattle.cyc_model.specs.Softint.{interrupt, text_of_id, poll_id, leaving_ids, softint}
use Rattle.cyc_model.specs.Report.{counts_of}
use Rattle.cyc_model.specs.Script.{refusal_of, steps_from, run_on, run_of}

-- ---- the report

-- what is printed of an id adds up, and the calls are those of its handler: each expiration was called, lost, or is pending
pub record ReportAddsUp (id : ℕ) (indexes : ℕ → ℕ) (script : Script) : Type 0 where
  pub balance : (counts_of id (run_of indexes script).state).expired
      ≡ (counts_of id (run_of indexes script).state).called + (counts_of id (run_of indexes script).state).lost
      + (counts_of id (run_of indexes script).state).pending
  pub called : (counts_of id (run_of indexes script).state).called ≡ calls_of id (run_of indexes script).acts

-- for each name of each script, whatever indexes its cyclics get
abbrev pub ReportsAddUp : Type 0
ReportsAddUp = (indexes : ℕ → ℕ) (script : Script) (name : ℕ)
    → ReportAddsUp (id_of name (run_of indexes script).state) indexes script

-- ---- the lines of removals

-- the line of a removal that has answered, with all calls that were ever made of the id
abbrev pub answer : ℕ → List ℕ → ℕ → State → List ℕ
answer step text id s = removed step text (s.called id)

-- the line of a poll that left this machine: none, where the removal has not answered
abbrev pub answer_if_gone : ℕ → List ℕ → ℕ → State → List ℕ
answer_if_gone step text id s = if is_no_cyclic id s then answer step text id s else []

-- the lines of the polls of these removals, one after the other
abbrev pub poll_lines : List (List ℕ) → ℕ → List ℕ → State → List ℕ
poll_lines texts step [] s = []
poll_lines texts step (id ∷ ids) s =
    answer_if_gone step (text_of_id id texts s.names) id (poll_id plain texts step id s).state
    ++ poll_lines texts step ids (poll_id plain texts step id s).state

-- a remove that forgets its id prints all calls of it
abbrev pub RemovesTellCalls : Type 0
RemovesTellCalls = (indexes : ℕ → ℕ) (cpus ceiling : ℕ) (texts : List (List ℕ)) (steps : List Step) (step name : ℕ)
    (text : List ℕ) (s : State)
    → 0 < cpus → s ≡ (run_on indexes cpus ceiling texts steps).state → refusal_of plain (Remove name) s ≡ None
    → is_no_cyclic (id_of name s) (remove plain step text name s).state ≡ true
    → (remove plain step text name s).line ≡ answer step text (id_of name s) (remove plain step text name s).state

-- and so does each poll of a soft interrupt
abbrev pub PollsTellCalls : Type 0
PollsTellCalls = (indexes : ℕ → ℕ) (cpus ceiling : ℕ) (texts : List (List ℕ)) (steps : List Step) (step : ℕ) (i : SoftintStep)
    (s : State)
    → 0 < cpus → s ≡ (run_on indexes cpus ceiling texts steps).state → refusal_of plain (Softint i) s ≡ None
    → (softint plain texts step i s).line
    ≡ (interrupt step i s).line ++ poll_lines texts step (leaving_ids (interrupt step i s).state) (interrupt step i s).state

-- ---- what follows a removal

-- once the removal of an id has answered, no act of the run calls it
abbrev pub NothingFollowsRemoval : Type 0
NothingFollowsRemoval = (indexes : ℕ → ℕ) (cpus ceiling : ℕ) (texts : List (List ℕ)) (before after : List Step) (step id : ℕ)
    (s : State)
    → 0 < cpus → s ≡ (run_on indexes cpus ceiling texts before).state → id ≤ s.last_id → is_no_cyclic id s ≡ true
    → (calls_of id (steps_from plain texts indexes step after s).acts ≡ 0)
    × (is_no_cyclic id (steps_from plain texts indexes step after s).state ≡ true)

-- and what is told of it stays what it was: what its removal left. No cyclic has the id 0, of which nothing is ever told
abbrev pub RemovedCountsStay : Type 0
RemovedCountsStay = (indexes further : ℕ → ℕ) (cpus ceiling : ℕ) (texts others : List (List ℕ)) (before after : List Step)
    (step id : ℕ) (s : State)
    → 0 < cpus → s ≡ (run_on indexes cpus ceiling texts before).state → id ≤ s.last_id → is_no_cyclic id s ≡ true
    → counts_of id (steps_from plain others further step after s).state ≡ counts_of id s
