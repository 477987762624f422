-- What a calm script is: one whose counts don't depend on how its threads run (our own rule).
use Rattle.std.specs.Prelude.{◌≡◌, ℕ, ◌<◌, ◌≤◌, ⊤, List, length, Some}
use Rattle.std.specs.List.{slice_get}
use Rattle.cyc_types.specs.Limits.{cyclics as most_cyclics}
use Rattle.cyc_script.specs.declared.script.Script.{Script}
use Rattle.cyc_script.specs.declared.step.Step.{Step}
use Rattle.cyc_script.specs.declared.step.Step.TheVariants.{Remove, Advance, Offline}

-- this step has this position among the steps
abbrev pub IsStep : List Step → ℕ → Step → Type 0
IsStep steps position step = slice_get steps position ≡ Some step

-- a step of another word than `advance` and `remove`: a run waits before it until no removal is open and each CPU has settled
abbrev pub Parts : Step → Type 0
Parts (Remove name) = ⊥
Parts (Advance now) = ⊥
Parts step = ⊤

-- such a step stands between these two positions
pub record AreParted (steps : List Step) (from to : ℕ) : Type 0 where
  pub position : ℕ
  pub step : Step
  pub after : from < position
  pub before : position < to
  pub here : IsStep steps position step
  pub parts : Parts step

-- These steps, which introduce so many names, are calm: between any two `remove` steps stands a step of another word than
-- `advance` and `remove`; there is no `offline`; and there are at most as many names as a CPU can have cyclics.
pub record AreCalm (steps : List Step) (names : ℕ) : Type 0 where
  pub apart : (i j first second : ℕ) → i < j → IsStep steps i (Remove first) → IsStep steps j (Remove second)
      → AreParted steps i j
  pub online : (i cpu : ℕ) → IsStep steps i (Offline cpu) → ⊥
  pub few : names ≤ most_cyclics

abbrev pub IsCalm : Script → Type 0
IsCalm script = AreCalm script.steps.items (length script.names.items)
