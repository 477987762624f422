use Rattle.std.proofs.Common.{◌≡◌, ◌≤◌, length}
use Rattle.std.specs.Prelude.{vec_capacity}
use Rattle.cyc_system_model.specs.Kept.{LevelsAreNew}
use Rattle.cyc_replay.proofs.beginning.new_levels.Given as goal

abbrev pub invariant-loop : goal.invariant-loop
invariant-loop l = record {
  long : length l.ends.items ≡ l.counter;
  room : l.cpus ≤ vec_capacity l.ends;
  new : LevelsAreNew l.ceiling l.ends.items;
}
