-- What a contract says of the seats and ends of a ring.
use Rattle.std.specs.Prelude.{◌≡◌, ℕ, Option, List, ◌++◌}
use Rattle.cyc_types.specs.declared.Drain.{Ghosts as Drain}
use Rattle.cyc_types.specs.declared.Raise.{Ghosts as Raise}
use Rattle.cyc_types.specs.Firing.{FiringView, FiringCall}
use Rattle.cyc_types.specs.Draining.{DrainCall}
use Rattle.ring_rule.specs.declared.RaiseStep.{RaiseStep}
use Rattle.ring_rule.specs.declared.DrainStep.{DrainStep}
use Rattle.ring_rule.specs.declared.SeatView.{SeatView}
use Rattle.ring_rule.specs.Trail.{drainer_hand_of, made_calls}
use Rattle.ring_rule.specs.Log.{RingStep}
use Rattle.ring_rule.specs.Rule.{HasRaises, HasDrains}
use Rattle.cyc_ring.specs.Views.{trail_view}
use Rattle.cyc_ring.specs.Steps.{MakesRaiseCall, MakesDrainCall, FoundNone}
use Rattle.cyc_ring.specs.declared.ring.Ring.{Ring}
use Rattle.cyc_ring.specs.declared.seats.RaiseSeat.{RaiseSeat}
use Rattle.cyc_ring.specs.declared.seats.DrainSeat.{DrainSeat}
use Rattle.cyc_ring.specs.declared.ends.RaiseEnd.{RaiseEnd}
use Rattle.cyc_ring.specs.declared.ends.DrainEnd.{DrainEnd}

-- the steps of a seat, the newest first
abbrev pub raise_trail : RaiseSeat → List RaiseStep
raise_trail r = r.side.seat.me.0.raise_trail

abbrev pub drain_trail : DrainSeat → List DrainStep
drain_trail d = d.side.seat.me.0.drain_trail

-- what a seat knows
abbrev pub raise_seat_view : RaiseSeat → SeatView
raise_seat_view r = r.side.seat.me.0

abbrev pub drain_seat_view : DrainSeat → SeatView
drain_seat_view d = d.side.seat.me.0

-- the one order of all steps that the two seats made: its sides are their trails, with the positions
abbrev pub IsOrderOf : List RingStep → RaiseSeat → DrainSeat → Type 0
IsOrderOf log r d = HasRaises log (raise_seat_view r) × HasDrains log (drain_seat_view d)

-- the seat is one of this ring's
abbrev pub IsRaiseSeatOf : Ring → RaiseSeat → Type 0
IsRaiseSeatOf ring r = (r.side.seat.table_id ≡ ring.words.table.shared.table_id) × (r.setting ≡ ring.setting)

abbrev pub IsDrainSeatOf : Ring → DrainSeat → Type 0
IsDrainSeatOf ring d = (d.side.seat.table_id ≡ ring.words.table.shared.table_id) × (d.setting ≡ ring.setting)

-- two seats of the same ring
abbrev pub IsSameRaiseSeat : RaiseSeat → RaiseSeat → Type 0
IsSameRaiseSeat r r' = (r'.side.seat.table_id ≡ r.side.seat.table_id) × (r'.setting ≡ r.setting)

abbrev pub IsSameDrainSeat : DrainSeat → DrainSeat → Type 0
IsSameDrainSeat d d' = (d'.side.seat.table_id ≡ d.side.seat.table_id) × (d'.setting ≡ d.setting)

-- what the holder of a raise seat or of a raise end knows
abbrev pub seat_view : RaiseSeat → FiringView
seat_view r = trail_view r.setting.ceiling (raise_trail r)

abbrev pub end_view : RaiseEnd → FiringView
end_view e = seat_view e.seat

-- a call at a raise end, with its answer
abbrev pub RaiseEndCall : RaiseEnd → FiringCall → RaiseEnd → Type 0
RaiseEndCall e call f = IsSameRaiseSeat e.seat f.seat
    × MakesRaiseCall e.seat.setting (raise_seat_view e.seat) call (raise_seat_view f.seat)

-- both at once
abbrev pub raise_end : Raise RaiseEnd
raise_end = record { view = end_view; step = RaiseEndCall }

-- the cyclic in the hand of a drain seat, and its finishes of each id
abbrev pub seat_hand : DrainSeat → Option ℕ
seat_hand d = drainer_hand_of (drain_trail d)

abbrev pub seat_made : DrainSeat → ℕ → ℕ
seat_made d id = made_calls id (drain_trail d)

-- the same of a drain end
abbrev pub end_hand : DrainEnd → Option ℕ
end_hand e = seat_hand e.seat

abbrev pub end_made : DrainEnd → ℕ → ℕ
end_made e id = seat_made e.seat id

-- a call at a drain end, with its answer
abbrev pub DrainEndCall : DrainEnd → DrainCall → DrainEnd → Type 0
DrainEndCall e call f = IsSameDrainSeat e.seat f.seat
    × MakesDrainCall e.seat.setting (drain_seat_view e.seat) call (drain_seat_view f.seat)

-- the soft side of a ring: the cyclic in its hand, its finishes, and its calls
abbrev pub drain_end : Drain DrainEnd
drain_end = record { held = end_hand; made = end_made; step = DrainEndCall }

-- the trail gained, last, a load of the hard bank that found the soft side's bank, then a load of its producer word that found
-- the consumer index
abbrev pub FoundIdle : DrainEnd → DrainEnd → Type 0
FoundIdle e f = (before steps : List DrainStep) × FoundNone e.seat.setting.start (drain_trail e.seat) before steps
    × (drain_trail f.seat ≡ steps ++ drain_trail e.seat)
