-- The report of a script tells of each name what is expected of it.
use Rattle.std.specs.Prelude.{◌≡◌, ℕ}
use Rattle.cyc_script.specs.declared.script.Script.{Script}
use Rattle.cyc_model.specs.Places.{id_of}
use Rattle.cyc_model.specs.Report.{counts_of}
use Rattle.cyc_model.specs.Script.{run_of}
use Rattle.cyc_expected.specs.Expected.{expected}
use Rattle.cyc_expected.specs.Way.{way_of_script}

-- the expirations that the report tells of the name
abbrev pub told_of : ℕ → (ℕ → ℕ) → Script → ℕ
told_of name indexes script = (counts_of (id_of name (run_of indexes script).state) (run_of indexes script).state).expired

-- whatever indexes its cyclics get, and which of its steps were accepted is read off the same run
abbrev pub ExpiredAsExpected : Type 0
ExpiredAsExpected = (indexes : ℕ → ℕ) (script : Script) (name : ℕ)
    → told_of name indexes script ≡ expected script.cpus (way_of_script indexes script) name
