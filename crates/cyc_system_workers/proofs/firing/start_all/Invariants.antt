use Rattle.std.proofs.Common.{◌≡◌, ◌+◌, ◌≤◌, ◌++◌, length}
use Rattle.std.specs.Prelude.{vec_len, vec_capacity}
use Rattle.std.specs.Vec.Iter.{into_iter_items, into_iter_len}
use Rattle.cyc_system_workers.specs.Starting.{Beside, Owes}
use Rattle.cyc_system_workers.proofs.firing.start_all.Given as goal

abbrev pub invariant-loop-lane : goal.invariant-loop-lane
invariant-loop-lane g l = record {
  all : l.yielded ++ into_iter_items l.lane-iterator ≡ l.fn.lanes.items;
  many : into_iter_len l.lane-iterator ≡ length (into_iter_items l.lane-iterator);
  room : vec_len l.started + into_iter_len l.lane-iterator ≤ vec_capacity l.started;
  begun : Beside (Owes g.C.Calls g.R.Raise l.fn.now)
      l.yielded l.started.items;
}
