-- The report of a script: what became of each name.
use Rattle.std.specs.Prelude.{ℕ, ◌+◌, if◌then◌else◌, List, [], ◌∷◌, ◌++◌, sum_by}
use Rattle.cyc_text.specs.declared.lines.Counts.{Counts}
use Rattle.cyc_text.specs.Lines.{reported}
use Rattle.cyc_model.specs.Cpu.{Cpu, is_of}
use Rattle.cyc_model.specs.Questions.{outstanding_here}
use Rattle.cyc_model.specs.State.{State}
use Rattle.cyc_model.specs.Places.{id_of}
use Rattle.cyc_model.specs.Remove.{ended_expired, ended_lost}

-- the expirations of an id on one CPU, and those of them that were lost
abbrev pub expired_here : ℕ → Cpu → ℕ
expired_here id c = sum_by (λ x. if is_of id x then x.timer.expired else 0) c.cyclics

abbrev pub lost_here : ℕ → Cpu → ℕ
lost_here id c = sum_by (λ x. if is_of id x then x.lost else 0) c.cyclics

-- over all CPUs and all stays: its expirations, and of them the calls made, those lost and those outstanding
abbrev pub counts_of : ℕ → State → Counts
counts_of id s = record {
  expired = ended_expired id s + sum_by (expired_here id) s.cpus;
  called = s.called id;
  lost = ended_lost id s + sum_by (lost_here id) s.cpus;
  pending = sum_by (outstanding_here id) s.cpus;
}

-- one line for each name, from this number on
abbrev pub reports : ℕ → List (List ℕ) → State → List ℕ
reports name [] s = []
reports name (text ∷ texts) s = reported text (counts_of (id_of name s) s) ++ reports (name + 1) texts s
