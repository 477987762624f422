use Rattle.std.proofs.Common.{◌≡◌, ◌+◌, ◌≤◌, ◌++◌, length}
use Rattle.std.specs.Prelude.{vec_len, vec_capacity}
use Rattle.std.specs.Vec.Iter.{into_iter_items, into_iter_len}
use Rattle.cyc_types.specs.Pairs.{EachTwo}
use Rattle.cyc_thread_rings.specs.Working.{HaveKept}
use Rattle.cyc_thread_rings.proofs.working.join_all.Given as goal

abbrev pub invariant-loop-of_cpu : goal.invariant-loop-of_cpu
invariant-loop-of_cpu g l = record {
  all : l.yielded ++ into_iter_items l.of_cpu-iterator ≡ l.fn.workers.items;
  many : into_iter_len l.of_cpu-iterator ≡ length (into_iter_items l.of_cpu-iterator);
  room : vec_len l.drained + into_iter_len l.of_cpu-iterator ≤ vec_capacity l.drained;
  kept : EachTwo (HaveKept g.D.Drain g.C.Calls) l.yielded l.drained.items;
}
