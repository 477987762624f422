use Rattle.std.proofs.Common.{◌≡◌, ◌+◌, ◌≤◌, ◌++◌, map, length}
use Rattle.std.specs.Prelude.{vec_len, vec_capacity}
use Rattle.std.specs.Vec.Iter.{into_iter_items, into_iter_len}
use Rattle.cyc_thread_rings.specs.declared.levels.Seated.{Seated}
use Rattle.cyc_thread_rings.proofs.seating.seat_all.Given as goal

abbrev pub invariant-loop-own : goal.invariant-loop-own
invariant-loop-own g l = record {
  all : l.yielded ++ into_iter_items l.own-iterator ≡ l.fn.seats.items;
  many : into_iter_len l.own-iterator ≡ length (into_iter_items l.own-iterator);
  many_calls : into_iter_len l.rest ≡ length (into_iter_items l.rest);
  room : vec_len l.all + into_iter_len l.own-iterator ≤ vec_capacity l.all;
  seats : map (λ (x : Seated _). x.seats) l.all.items ≡ l.yielded;
  calls : map (λ (x : Seated _). x.calls) l.all.items ++ into_iter_items l.rest ≡ l.fn.calls.items;
}
