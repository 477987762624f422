-- How great the numbers of a run can get.
use Rattle.std.specs.Prelude.{◌≡◌, ℕ, ◌+◌, ◌*◌, ◌^◌, ◌<◌, ◌≤◌, List, length, Some}
use Rattle.cyc_types.specs.Series.{late}
use Rattle.cyc_types.specs.Limits.{most_cpus}
use Rattle.cyc_script.specs.Limits.{most_steps}
use Rattle.cyc_script.specs.declared.step.Step.{Step}
use Rattle.cyc_model.specs.Cpu.{CyclicState, cyclic_with_id}
use Rattle.cyc_model.specs.State.{State, cpu_of}
use Rattle.cyc_model.specs.Report.{counts_of}
use Rattle.cyc_model.specs.Script.{run_on}

-- one that is more than a second late skips what it missed, so in one step a cyclic expires at most this often, on all CPUs
abbrev pub most_in_a_step : ℕ
most_in_a_step = most_cpus * (late + 2)

-- what so many steps can bring
pub record AreFew (steps : ℕ) (s : State) : Type 0 where
  -- each gives an id at most
  pub ids : s.last_id ≤ steps
  -- over all CPUs and all stays
  pub expired : (id : ℕ) → (counts_of id s).expired ≤ steps * most_in_a_step
  pub called : (id : ℕ) → (counts_of id s).called ≤ steps * most_in_a_step
  -- in a stay, with what it carried from earlier ones
  pub stays : (id n : ℕ) (x : CyclicState) → cyclic_with_id id (cpu_of n s) ≡ Some x → x.timer.expired ≤ steps * most_in_a_step

-- after any steps over 1 to 16 CPUs
abbrev pub CountsStaySmall : Type 0
CountsStaySmall = (indexes : ℕ → ℕ) (cpus ceiling : ℕ) (texts : List (List ℕ)) (steps : List Step) → 0 < cpus → cpus ≤ most_cpus
    → AreFew (length steps) (run_on indexes cpus ceiling texts steps).state

-- and those of a whole script are far from what 64 bits can count
abbrev pub ScriptsStayBelow : Type 0
ScriptsStayBelow = (steps : ℕ) → steps ≤ most_steps → steps * most_in_a_step < 2 ^ 50
