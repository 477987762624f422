use Rattle.std.proofs.Common.{◌≡◌, ◌+◌, ◌≤◌, ◌++◌, map, length}
use Rattle.std.specs.Prelude.{vec_len, vec_capacity}
use Rattle.std.specs.Vec.Iter.{into_iter_items, into_iter_len}
use Rattle.cyc_types.specs.Pairs.{EachTwo}
use Rattle.cyc_thread_rings.specs.Working.{HasPromised, sides_of}
use Rattle.cyc_thread_rings.proofs.working.start_each.Given as goal

abbrev pub invariant-loop-of_cpu : goal.invariant-loop-of_cpu
invariant-loop-of_cpu g l = record {
  all : l.yielded ++ into_iter_items l.of_cpu-iterator ≡ l.fn.drainers.items;
  many : into_iter_len l.of_cpu-iterator ≡ length (into_iter_items l.of_cpu-iterator);
  room : vec_len l.workers + into_iter_len l.of_cpu-iterator ≤ vec_capacity l.workers;
  started : EachTwo HasPromised (map sides_of l.yielded) l.workers.items;
}
