use Rattle.std.proofs.Common.{◌≡◌, ◌+◌, ◌≤◌, ◌++◌, map, length}
use Rattle.std.specs.Prelude.{vec_len, vec_capacity}
use Rattle.std.specs.Vec.Iter.{into_iter_items, into_iter_len}
use Rattle.cyc_thread_rings.specs.Working.{both_sides}
use Rattle.cyc_thread_rings.proofs.working.soft_sides.Given as goal

abbrev pub invariant-loop-of_cpu : goal.invariant-loop-of_cpu
invariant-loop-of_cpu g l = record {
  all : l.yielded ++ into_iter_items l.of_cpu-iterator ≡ l.fn.drained.items;
  many : into_iter_len l.of_cpu-iterator ≡ length (into_iter_items l.of_cpu-iterator);
  room : vec_len l.soft + into_iter_len l.of_cpu-iterator ≤ vec_capacity l.soft;
  soft : l.soft.items ≡ map both_sides l.yielded;
}
