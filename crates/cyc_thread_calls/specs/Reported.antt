-- What the report of a run in threads says of a name.
use Rattle.std.specs.Prelude.{◌≡◌, ℕ, ◌+◌, ◌≤◌, List}
use Rattle.cyc_text.specs.declared.lines.Counts.{Counts}
use Rattle.cyc_expected.specs.Expected.{Met, expected}

-- The counts of the name of this number, in a run over so many CPUs with this ceiling whose steps were met so: it has expired as
-- often as the closed form says, each expiration was called or lost, no call is outstanding, and up to the ceiling none was lost.
pub record IsReported (cpus ceiling : ℕ) (way : List Met) (name : ℕ) (counts : Counts) : Type 0 where
  pub expired : counts.expired ≡ expected cpus way name
  pub either : counts.called + counts.lost ≡ counts.expired
  pub pending : counts.pending ≡ 0
  pub spared : expected cpus way name ≤ ceiling → counts.lost ≡ 0
