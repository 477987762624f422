use Rattle.std.proofs.Common.{◌≡◌, ℕ, ◌+◌}
use Rattle.cyc_types.specs.Tally.{tally_count}
use Rattle.cyc_ring.specs.Ends.{IsDrainSeatOf, seat_made}
use Rattle.uses.proofs.ring.make_calls.Given as goal

abbrev pub invariant-loop-look : goal.invariant-loop-look
invariant-loop-look l = record {
  own : IsDrainSeatOf l.ring l.end.seat;
  made : (id : ℕ) → tally_count l.calls id + seat_made l.fn.seat id ≡ tally_count l.fn.calls id + seat_made l.end.seat id;
}
