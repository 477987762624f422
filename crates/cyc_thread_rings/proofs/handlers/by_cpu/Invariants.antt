use Rattle.std.proofs.Common.{◌≡◌, ◌+◌, ◌*◌, ◌≤◌, ◌++◌, flat_map, length}
use Rattle.std.specs.Prelude.{vec_capacity}
use Rattle.std.specs.Vec.Iter.{into_iter_items, into_iter_len}
use Rattle.cyc_thread_rings.specs.Laid.{three}
use Rattle.cyc_thread_rings.proofs.handlers.by_cpu.Given as goal

abbrev pub invariant-loop : goal.invariant-loop
invariant-loop g l = record {
  laid : flat_map three l.all.items ++ into_iter_items l.rest ≡ l.fn.calls.items;
  many : into_iter_len l.rest ≡ length (into_iter_items l.rest);
  len : length (into_iter_items l.rest) + 3 * length l.all.items ≡ 3 * l.fn.cpus;
  all : length l.all.items ≡ l.counter;
  room : l.fn.cpus ≤ vec_capacity l.all;
}
