-- Which steps were accepted is what the lines of a run tell.
use Rattle.std.specs.Prelude.{◌≡◌, ◌⊎◌, ℕ, ◌<◌, Bool, true, false, List}
use Rattle.cyc_types.specs.declared.refusal.JuggleReport.{JuggleReport}
use Rattle.cyc_text.specs.Lines.{accepted, refused, cyclics_left}
use Rattle.cyc_script.specs.declared.step.Step.{Step}
use Rattle.cyc_script.specs.declared.step.Step.TheVariants.{Offline}
use Rattle.cyc_model.specs.Questions.{plain}
use Rattle.cyc_model.specs.State.{State}
use Rattle.cyc_model.specs.Script.{word, run_on}
use Rattle.cyc_expected.specs.Way.{met}

-- the line has the number of a refusal, or says that cyclics were left on a CPU that was to go offline
abbrev pub TellsRefusal : ℕ → List ℕ → Type 0
TellsRefusal step line = ((number : ℕ) × (line ≡ refused step number)) ⊎ ((r : JuggleReport) × (line ≡ cyclics_left step r))

-- the step is met so, in this machine
abbrev pub IsMet : (ℕ → ℕ) → List (List ℕ) → ℕ → State → Step → Bool → Type 0
IsMet indexes texts step s x how = (met x s (word plain texts indexes step x s).state).accepted ≡ how

-- after any steps: the line of a step that was not accepted says so, and an `offline` that was has the line of an accepted step
abbrev pub MetAsTold : Type 0
MetAsTold = (indexes : ℕ → ℕ) (cpus ceiling : ℕ) (texts : List (List ℕ)) (steps : List Step) (step : ℕ) (s : State)
    → 0 < cpus → s ≡ (run_on indexes cpus ceiling texts steps).state
    → ((x : Step) → IsMet indexes texts step s x false → TellsRefusal step (word plain texts indexes step x s).line)
    × ((n : ℕ) → IsMet indexes texts step s (Offline n) true → (word plain texts indexes step (Offline n) s).line ≡ accepted step)
