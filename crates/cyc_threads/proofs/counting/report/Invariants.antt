use Rattle.std.proofs.Common.{◌≡◌, ◌≤◌, length}
use Rattle.std.specs.Prelude.{vec_len, vec_capacity}
use Rattle.cyc_threads.proofs.Telling.{Begun}
use Rattle.cyc_threads.proofs.counting.report.Given as goal

abbrev pub invariant-loop-name : goal.invariant-loop-name
invariant-loop-name g l = record {
  told : Begun g.R.Raise l.name l.lines.items l.fn.progress l.progress;
  long : vec_len l.lines ≡ l.name;
  room : length l.fn.progress.names ≤ vec_capacity l.lines;
}
