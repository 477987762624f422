use Rattle.std.proofs.Common.{◌≡◌, ◌++◌, flat_map, length}
use Rattle.std.specs.Vec.Iter.{into_iter_items, into_iter_len}
use Rattle.cyc_thread_rings.specs.Laid.{three}
use Rattle.cyc_thread_rings.proofs.handlers.in_one.Given as goal

abbrev pub invariant-loop-of_cpu : goal.invariant-loop-of_cpu
invariant-loop-of_cpu g l = record {
  all : l.yielded ++ into_iter_items l.of_cpu-iterator ≡ l.fn.handlers.items;
  many : into_iter_len l.of_cpu-iterator ≡ length (into_iter_items l.of_cpu-iterator);
  laid : l.all.items ≡ flat_map three l.yielded;
}
