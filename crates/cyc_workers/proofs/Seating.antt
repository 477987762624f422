-- What the workers over a ring left, at the seats that they used.
use Rattle.std.proofs.Common.{◌≡◌, ℕ, [], ap, ◌∙◌, arith}
use Rattle.cyc_types.specs.Levels.{Handler}
use Rattle.cyc_types.specs.Runs.{finishes_of}
use Rattle.ring_rule.specs.Trail.{made_calls}
use Rattle.cyc_ring.specs.declared.ends.DrainEnd.{DrainEnd}
use Rattle.cyc_ring.specs.declared.ring.Ring.{Ring}
use Rattle.cyc_ring.specs.declared.seats.RaiseSeat.{RaiseSeat}
use Rattle.cyc_ring.specs.declared.seats.DrainSeat.{DrainSeat}
use Rattle.cyc_ring.specs.Ends.{drain_trail, drain_end, seat_made}
use Rattle.cyc_ring.specs.Ends.{IsSameRaiseSeat, IsSameDrainSeat, IsRaiseSeatOf, IsDrainSeatOf}
use Rattle.cyc_ring.proofs.Ways.{drain_ways}
use Rattle.cyc_soft.specs.declared.SoftSide.{SoftSide}
use Rattle.cyc_workers.specs.Draining.{MakesCalls}
use Rattle.cyc_workers.specs.Serving.{HasServed}

-- the calls of a draining worker are those that its ring's soft side finished
pub serves_seat : {C : Type 0} (handler : Handler C) (a b : SoftSide DrainEnd C) (seat : DrainSeat) →
    MakesCalls drain_end handler a b → drain_trail a.drain.seat ≡ [] → seat ≡ b.drain.seat
    → HasServed handler.called handler.count (seat_made seat) a.calls b.calls
serves_seat handler a b seat m empty same =
    let none = λ (id : ℕ). ap (made_calls id) empty in
    let now = λ (id : ℕ). ap (λ (x : DrainSeat). seat_made x id) same in
    record {
      ids = finishes_of m.way;
      called_all = m.called_all;
      listed = λ id. (let x = m.finished id in let y = none id in let z = now id in omega (arith, x, y, z));
      counted = λ id. (let w = m.counted id in let x = m.finished id in let y = none id in let z = now id in
          omega (arith, w, x, y, z));
    }

pub drains_same : {C : Type 0} (handler : Handler C) (a b : SoftSide DrainEnd C) → MakesCalls drain_end handler a b
    → IsSameDrainSeat a.drain.seat b.drain.seat
drains_same handler a b m = (drain_ways a.drain b.drain m.way m.goes).0

-- the seats at last are their rings'
pub raise_seat_of : (ring : Ring) (r0 r1 r2 r3 : RaiseSeat) → IsRaiseSeatOf ring r0 → r1 ≡ r0 → IsSameRaiseSeat r1 r2 → r3 ≡ r2
    → IsRaiseSeatOf ring r3
raise_seat_of ring r0 r1 r2 r3 own from same to = (
  ap (λ (r : RaiseSeat). r.side.seat.table_id) to ∙ (same.0 ∙ (ap (λ (r : RaiseSeat). r.side.seat.table_id) from ∙ own.0)),
  ap (λ (r : RaiseSeat). r.setting) to ∙ (same.1 ∙ (ap (λ (r : RaiseSeat). r.setting) from ∙ own.1)),
)

pub drain_seat_of : (ring : Ring) (d0 d1 d2 d3 : DrainSeat) → IsDrainSeatOf ring d0 → d1 ≡ d0 → IsSameDrainSeat d1 d2 → d3 ≡ d2
    → IsDrainSeatOf ring d3
drain_seat_of ring d0 d1 d2 d3 own from same to = (
  ap (λ (d : DrainSeat). d.side.seat.table_id) to ∙ (same.0 ∙ (ap (λ (d : DrainSeat). d.side.seat.table_id) from ∙ own.0)),
  ap (λ (d : DrainSeat). d.setting) to ∙ (same.1 ∙ (ap (λ (d : DrainSeat). d.setting) from ∙ own.1)),
)
