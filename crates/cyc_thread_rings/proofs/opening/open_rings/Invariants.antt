use Rattle.std.proofs.Common.{◌≡◌, ◌≤◌, length}
use Rattle.std.specs.Prelude.{All, vec_capacity}
use Rattle.cyc_types.specs.Pairs.{EachTwo}
use Rattle.cyc_thread_rings.specs.Rings.{AreSeated, AreNew, BeginAt}
use Rattle.cyc_thread_rings.proofs.opening.open_rings.Given as goal

abbrev pub invariant-loop : goal.invariant-loop
invariant-loop l = record {
  len : length l.seats.items ≡ l.counter;
  len_rings : length l.rings.items ≡ l.counter;
  room : l.fn.cpus ≤ vec_capacity l.seats;
  room_rings : l.fn.cpus ≤ vec_capacity l.rings;
  seated : EachTwo AreSeated l.rings.items l.seats.items;
  new : All (AreNew l.fn.ceiling) l.seats.items;
  start : All (BeginAt l.fn.start) l.seats.items;
}
