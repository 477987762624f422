-- What the steps of a script did to the machine: they are a run of the definition, with the indexes that the machine's cyclics
-- got.
use Rattle.std.specs.Prelude.{◌≡◌, ℕ, ◌<◌, ◌≤◌, List, length, slice_index_or}
use Rattle.cyc_types.specs.declared.level.Soft.{Soft}
use Rattle.cyc_script.specs.declared.step.Step.{Step}
use Rattle.cyc_script.specs.WellFormed.{names_after_all}
use Rattle.cyc_model.specs.Acts.{events_at}
use Rattle.cyc_model.specs.Laws.{level_on}
use Rattle.cyc_model.specs.Free.{AllCanBeAdmitted}
use Rattle.cyc_model.specs.Script.{start, run_on}
use Rattle.cyc_replay.specs.declared.machine.Machine.{Machine}
use Rattle.cyc_replay.specs.Machine.{ShowsMachine}

-- the k-th cyclic that is put on a CPU gets the k-th of these indexes
abbrev pub listed : List ℕ → ℕ → ℕ
listed given k = slice_index_or given k 0

-- these steps introduce no more names than there are
abbrev pub HaveNames : List (List ℕ) → List Step → Type 0
HaveNames texts steps = names_after_all 0 steps ≤ length texts

-- a run of these steps, over so many CPUs and these names, led to the machine: its cyclics got free indexes
pub record RunsTo (cpus ceiling : ℕ) (texts : List (List ℕ)) (steps : List Step) (m : Machine) : Type 0 where
  pub given : List ℕ
  pub holds : ShowsMachine (run_on (listed given) cpus ceiling texts steps).state m
  pub admissions : (run_on (listed given) cpus ceiling texts steps).state.admissions ≡ length given
  pub free : (n : ℕ) → n < cpus → (soft : Soft) → AllCanBeAdmitted
      (events_at n soft (run_on (listed given) cpus ceiling texts steps).acts)
      (level_on n soft (start cpus ceiling (length texts)))
