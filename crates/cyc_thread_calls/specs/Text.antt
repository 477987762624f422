-- The report of a calm script, told from the script alone.
use Rattle.std.specs.Prelude.{ℕ, ◌+◌, ◌<◌, ◌≤◌, List, [], ◌∷◌, ◌++◌, length, map, string_bytes}
use Rattle.cyc_text.specs.declared.lines.Counts.{Counts}
use Rattle.cyc_text.specs.Lines.{reported}
use Rattle.cyc_script.specs.declared.script.Script.{Script}
use Rattle.cyc_script.specs.declared.step.Step.{Step}
use Rattle.cyc_expected.specs.Expected.{expected}
use Rattle.cyc_thread_calls.specs.Way.{calm_way}

-- how often the name of this number expires
abbrev pub calm_expected : ℕ → List Step → ℕ → ℕ
calm_expected cpus steps name = expected cpus (calm_way cpus steps) name

-- each of its expirations was called: nothing is lost, and nothing is pending
abbrev pub calm_counts : ℕ → List Step → ℕ → Counts
calm_counts cpus steps name =
    record { expired = calm_expected cpus steps name; called = calm_expected cpus steps name; lost = 0; pending = 0 }

-- a line for each name, in order, numbered from this number on
abbrev pub report_from : (ℕ → Counts) → ℕ → List (List ℕ) → List ℕ
report_from counts number [] = []
report_from counts number (name ∷ names) = reported name (counts number) ++ report_from counts (number + 1) names

-- the bytes of the report
abbrev pub calm_text : Script → List ℕ
calm_text script = report_from (calm_counts script.cpus script.steps.items) 0 (map string_bytes script.names.items)

-- no name expires more often than the ceiling
abbrev pub IsBelowCeiling : Script → Type 0
IsBelowCeiling script = (name : ℕ) → name < length script.names.items
    → calm_expected script.cpus script.steps.items name ≤ script.ceiling
