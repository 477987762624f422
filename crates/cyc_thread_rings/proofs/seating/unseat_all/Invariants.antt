use Rattle.std.proofs.Common.{◌≡◌, ◌+◌, ◌≤◌, ◌++◌, map, length}
use Rattle.std.specs.Prelude.{vec_len, vec_capacity}
use Rattle.std.specs.Vec.Iter.{into_iter_items, into_iter_len}
use Rattle.cyc_thread_rings.specs.declared.levels.Seated.{Seated}
use Rattle.cyc_thread_rings.proofs.seating.unseat_all.Given as goal

abbrev pub invariant-loop-seated : goal.invariant-loop-seated
invariant-loop-seated g l = record {
  all : l.yielded ++ into_iter_items l.seated-iterator ≡ l.fn.all.items;
  many : into_iter_len l.seated-iterator ≡ length (into_iter_items l.seated-iterator);
  room : vec_len l.all_seats + into_iter_len l.seated-iterator ≤ vec_capacity l.all_seats;
  room_calls : vec_len l.all_calls + into_iter_len l.seated-iterator ≤ vec_capacity l.all_calls;
  seats : l.all_seats.items ≡ map (λ (x : Seated _). x.seats) l.yielded;
  calls : l.all_calls.items ≡ map (λ (x : Seated _). x.calls) l.yielded;
}
