-- What a word of a script does to the machine, and the line that it puts.
use Rattle.std.specs.Prelude.{◌≡◌, ℕ, ◌+◌, ◌<◌, ⊤, List, length, Result, Ok, Err}
use Rattle.cyc_types.specs.declared.level.Soft.{Soft}
use Rattle.cyc_types.specs.declared.refusal.Refusal.{Refusal}
use Rattle.cyc_types.specs.Refusals.{number_of}
use Rattle.cyc_types.specs.Series.{never}
use Rattle.cyc_text.specs.Lines.{accepted, refused}
use Rattle.cyc_script.specs.declared.step.Step.{Step}
use Rattle.cyc_script.specs.declared.step.Step.TheVariants.{Advance}
use Rattle.cyc_model.specs.Acts.{events_at}
use Rattle.cyc_model.specs.Serving.{level_at}
use Rattle.cyc_model.specs.Questions.{plain}
use Rattle.cyc_model.specs.State.{State, Outcome, cpu_of}
use Rattle.cyc_model.specs.Free.{AllCanBeAdmitted}
use Rattle.cyc_model.specs.Script.{word}
use Rattle.cyc_system_model.specs.SystemWords.{GivesIndexes}
use Rattle.cyc_replay.specs.declared.machine.Machine.{Machine}
use Rattle.cyc_replay.specs.Machine.{ShowsMachine}

-- the step sets the clock to no moment from never on: so it is in every script
abbrev pub SetsBelowNever : Step → Type 0
SetsBelowNever (Advance moment) = moment < never
SetsBelowNever x = ⊤

-- What the definition comes to is what the machine did: the definition's machine shows the one after it, so many cyclics were
-- put on a CPU, and the index of each was free.
pub record Comes (given : List ℕ) (s : State) (o : Outcome) (m : Machine) : Type 0 where
  pub holds : ShowsMachine o.state m
  pub admissions : o.state.admissions ≡ s.admissions + length given
  pub free : (n : ℕ) (soft : Soft) → AllCanBeAdmitted (events_at n soft o.acts) (level_at soft (cpu_of n s))

-- the line of a step that says no more than whether it was done
abbrev pub answer_line : {A : Type 0} → ℕ → Result A Refusal → List ℕ
answer_line step (Ok done) = accepted step
answer_line step (Err e) = refused step (number_of e)

-- The word was taken, and this is its line: the definition's word has the same line and comes to what the machine did.
pub record TakesWord (texts : List (List ℕ)) (step : ℕ) (x : Step) (line : List ℕ) (s : State) (m : Machine) : Type 0 where
  pub given : List ℕ
  pub line_is : (indexes : ℕ → ℕ) → GivesIndexes indexes s.admissions given → line ≡ (word plain texts indexes step x s).line
  pub comes : (indexes : ℕ → ℕ) → GivesIndexes indexes s.admissions given → Comes given s (word plain texts indexes step x s) m
