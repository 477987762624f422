use Rattle.std.proofs.Common.{◌≡◌, ◌+◌, ◌≤◌, ◌++◌, length}
use Rattle.std.specs.Prelude.{vec_len, vec_capacity}
use Rattle.std.specs.Vec.Iter.{into_iter_items, into_iter_len}
use Rattle.cyc_types.specs.Pairs.{EachTwo}
use Rattle.cyc_thread_rings.specs.Rings.{AreSeated, AreClosed}
use Rattle.cyc_thread_rings.proofs.closing.close_rings.Given as goal

abbrev pub invariant-loop-own : goal.invariant-loop-own
invariant-loop-own l = record {
  all : l.yielded ++ into_iter_items l.own-iterator ≡ l.fn.seats.items;
  many : into_iter_len l.own-iterator ≡ length (into_iter_items l.own-iterator);
  room : vec_len l.closed + into_iter_len l.own-iterator ≤ vec_capacity l.closed;
  many_rings : into_iter_len l.rest ≡ length (into_iter_items l.rest);
  seated : EachTwo AreSeated (into_iter_items l.rest) (into_iter_items l.own-iterator);
  closed : EachTwo AreClosed l.yielded l.closed.items;
}
