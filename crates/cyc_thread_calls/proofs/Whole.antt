-- A run of a calm script, from its beginning.
use Rattle.std.proofs.Common.{◌≡◌, ℕ, List, length}
use Rattle.cyc_types.specs.declared.Calls.{Ghosts as Calls}
use Rattle.cyc_ring.specs.declared.ends.RaiseEnd.{RaiseEnd}
use Rattle.cyc_ring.specs.Ends.{raise_end}
use Rattle.cyc_script.specs.declared.script.Script.{Script}
use Rattle.cyc_expected.specs.Expected.{expected}
use Rattle.cyc_expected.specs.Calm.{AgreeButMoves}
use Rattle.cyc_expected.proofs.Moves.{same_told}
use Rattle.cyc_expected.specs.Course.{untold}
use Rattle.cyc_threads.specs.Seated.{Seated}
use Rattle.cyc_threads.specs.declared.progress.Progress.{Progress}
use Rattle.cyc_threads.specs.Steps.{Runs}
use Rattle.cyc_threads.specs.Running.{IsAtFirst}
use Rattle.cyc_thread_calls.specs.Leading.{run_calls}
use Rattle.cyc_thread_calls.specs.Meeting.{way_of_run}
use Rattle.cyc_thread_calls.specs.Calm.{IsCalm}
use Rattle.cyc_thread_calls.specs.Way.{calm_way}
use Rattle.cyc_thread_calls.specs.Memory.{NoMemoryRefused}
use Rattle.cyc_thread_calls.proofs.Walking.{run_agrees}
use Rattle.cyc_thread_calls.proofs.Beginning.{first_fits, first_calm, first_awake}
use Rattle.cyc_thread_calls.proofs.Spacing.{calm_spaced}

module _ {C : Type 0} (handler : Calls C) (script : Script) (all : List (Seated C)) (first last : Progress RaiseEnd C)
    (runs : Runs handler raise_end first script.steps.items last)
    (calm : IsCalm script) (many : length all ≡ script.cpus)
    (begins : IsAtFirst (length script.names.items) all first)
    (memory : NoMemoryRefused (run_calls handler raise_end first script.steps.items last runs)) where
  both : AgreeButMoves (way_of_run handler raise_end first script.steps.items last runs)
      (calm_way script.cpus script.steps.items) × (length last.names ≡ length script.names.items)
  both = run_agrees handler raise_end script.cpus (length script.names.items) calm.few
      script.steps.items first last runs (first_fits (length script.names.items) script.cpus all first begins many)
      (first_calm (length script.names.items) script.cpus all first begins many)
      (first_awake (length script.names.items) script.cpus all first begins many) (calm_spaced script calm)
      script.well_formed.names_in_order script.well_formed.names_introduced script.well_formed.moments_in_order memory

  pub agrees : AgreeButMoves (way_of_run handler raise_end first script.steps.items last runs)
      (calm_way script.cpus script.steps.items)
  agrees = both.0

  pub names_stay : length last.names ≡ length script.names.items
  names_stay = both.1

  pub expects : (name : ℕ) → expected script.cpus
      (way_of_run handler raise_end first script.steps.items last runs) name
      ≡ expected script.cpus (calm_way script.cpus script.steps.items) name
  expects name = (λ i. (same_told name (way_of_run handler raise_end first script.steps.items last runs)
      (calm_way script.cpus script.steps.items) agrees 0 (untold script.cpus) i).expired)
