use Rattle.std.proofs.Common.{◌≡◌, ◌+◌, ◌≤◌, ◌++◌, length}
use Rattle.std.specs.Prelude.{vec_len, vec_capacity}
use Rattle.std.specs.Vec.Iter.{into_iter_items, into_iter_len}
use Rattle.cyc_system_workers.specs.Starting.{Beside, Keeps}
use Rattle.cyc_system_workers.proofs.firing.join_all.Given as goal

abbrev pub invariant-loop-one : goal.invariant-loop-one
invariant-loop-one g l = record {
  all : l.yielded ++ into_iter_items l.one-iterator ≡ l.fn.started.items;
  many : into_iter_len l.one-iterator ≡ length (into_iter_items l.one-iterator);
  room : vec_len l.after + into_iter_len l.one-iterator ≤ vec_capacity l.after;
  kept : Beside (Keeps g.C.Calls g.R.Raise)
      l.yielded l.after.items;
}
