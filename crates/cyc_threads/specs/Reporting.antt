-- The text of a run in threads: the report alone (our own rule).
use Rattle.std.specs.Prelude.{ℕ, ◌-◌, List, [], ◌∷◌, ◌++◌}
use Rattle.cyc_text.specs.declared.lines.Counts.{Counts}
use Rattle.cyc_text.specs.Lines.{reported}
use Rattle.cyc_threads.specs.declared.counting.Line.{Line}

-- the calls of a cyclic are its expirations that were not lost
abbrev pub counts_told : Line → Counts
counts_told l = record { expired = l.expired; called = l.expired - l.lost; lost = l.lost; pending = l.pending }

-- a line for each name, in order
abbrev pub report_text : List (List ℕ) → List Line → List ℕ
report_text [] lines = []
report_text (name ∷ names) [] = []
report_text (name ∷ names) (l ∷ lines) = reported name (counts_told l) ++ report_text names lines
