-- What a removal of a cyclic over plain levels is as words of a script, and what the report tells of a cyclic.
use Rattle.std.specs.Prelude.{◌≡◌, ℕ, ◌+◌, ◌-◌, ◌++◌, List, [], filter, map, Option, Some, None}
use Rattle.cyc_types.specs.declared.receipt.Receipt.{Receipt}
use Rattle.cyc_core.specs.Tables.{Tables}
use Rattle.cyc_soft.specs.declared.Ran.{Ran}
use Rattle.cyc_script.specs.declared.step.Softint.{Softint as SoftintStep}
use Rattle.cyc_script.specs.declared.step.Step.TheVariants as steps
use Rattle.cyc_text.specs.declared.lines.Counts.{Counts}
use Rattle.cyc_text.specs.Lines.{kept, removed, ran}
use Rattle.cyc_system.specs.System.{SystemView, RunningSystem, is_leaving}
use Rattle.cyc_system.specs.SystemTotals.{SystemTotals}
use Rattle.cyc_model.specs.Acts.{calls_of}
use Rattle.cyc_model.specs.Questions.{plain}
use Rattle.cyc_model.specs.State.{State, Outcome, each}
use Rattle.cyc_model.specs.Places.{id_of}
use Rattle.cyc_model.specs.Softint.{poll_id, softint}
use Rattle.cyc_model.specs.Report.{counts_of}
use Rattle.cyc_model.specs.Script.{text_in, does}
use Rattle.cyc_system_model.specs.SystemWords.{ComesTo, IsDone}

-- what a receipt leaves to be told of an id, whose handler was called so often
abbrev pub told_by_receipt : Receipt → ℕ → Counts
told_by_receipt receipt called = record { expired = receipt.sent; called = called; lost = receipt.lost; pending = 0 }

-- what totals tell of it
abbrev pub told_in : SystemTotals → ℕ → Counts
told_in totals called = record { expired = totals.expired; called = called; lost = totals.lost; pending = totals.pending }

-- the removal of the name's cyclic answered at once, with this receipt
pub record IsRemovedAtOnce (name : ℕ) (receipt : Receipt) (s : State) (w : SystemView Tables) : Type 0 where
  pub done : IsDone (steps.Remove name) s w
  pub line : (texts : List (List ℕ)) (indexes : ℕ → ℕ) (step : ℕ) → (does plain texts indexes step (steps.Remove name) s).line
      ≡ removed step (text_in texts name) (receipt.sent - receipt.lost)
  -- what is left to be told of it
  pub counts : (texts : List (List ℕ)) (indexes : ℕ → ℕ) (step : ℕ)
      → counts_of (id_of name s) (does plain texts indexes step (steps.Remove name) s).state
      ≡ told_by_receipt receipt (s.called (id_of name s))

-- it waits for so many calls
pub record IsKept (name waits : ℕ) (s : State) (w : SystemView Tables) : Type 0 where
  pub done : IsDone (steps.Remove name) s w
  pub line : (texts : List (List ℕ)) (indexes : ℕ → ℕ) (step : ℕ) → (does plain texts indexes step (steps.Remove name) s).line
      ≡ kept step waits

-- ---- polls

-- the line of a poll with this answer
abbrev pub polled_line : ℕ → List ℕ → Option Receipt → List ℕ
polled_line step text (Some receipt) = removed step text (receipt.sent - receipt.lost)
polled_line step text None = []

-- From m, which a soft interrupt left, the open removals of these ids were polled, in order, and these lines were written.
pub record HavePolled (texts : List (List ℕ)) (step : ℕ) (ids lines : List ℕ) (m : State) (w : SystemView Tables) : Type 0 where
  pub comes : ComesTo [] m (each (poll_id plain texts step) ids m) w
  pub said : (each (poll_id plain texts step) ids m).line ≡ lines
  pub names : (each (poll_id plain texts step) ids m).state.names ≡ m.names
  -- no handler was called
  pub quiet : (id : ℕ) → calls_of id (each (poll_id plain texts step) ids m).acts ≡ 0
  pub called : (id : ℕ) → (each (poll_id plain texts step) ids m).state.called id ≡ m.called id

-- the ids whose removals are open, rising
abbrev pub leaving_in : SystemView Tables → List ℕ
leaving_in v = filter (λ id. is_leaving id v) (map (λ r. r.id) v.records)

-- a word softint that was done: the texts of the names, its number, what it asks, what its soft interrupt answered, and the lines
-- of the polls after it
pub record SoftintWord : Type 0 where
  pub texts : List (List ℕ)
  pub step : ℕ
  pub asks : SoftintStep
  pub made : Ran
  pub lines : List ℕ

-- what the definition makes of it
abbrev pub outcome_of : SoftintWord → State → Outcome
outcome_of word m = softint plain word.texts word.step word.asks m

-- the system did what the word does: the soft interrupt, and then the polls, which wrote these lines
pub record IsInterrupted {C : Type 0} (count : C → ℕ → ℕ) (word : SoftintWord) (m : State) (s t : RunningSystem C Tables)
    (w : SystemView Tables) : Type 0 where
  pub comes : ComesTo [] m (outcome_of word m) w
  pub line : (outcome_of word m).line ≡ ran word.step word.made.calls word.made.idle ++ word.lines
  pub called : (id : ℕ) → count t.calls id ≡ count s.calls id + calls_of id (outcome_of word m).acts
