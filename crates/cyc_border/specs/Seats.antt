-- The soft side of a ring that it shares with the firing side: its seat is there between any two calls.
use Rattle.std.specs.Prelude.{◌≡◌, ◌≢◌, ℕ, ◌⊎◌, Option, Some, None}
use Rattle.cyc_types.specs.Draining.{DrainCall, Takes, Finishes}
use Rattle.cyc_types.specs.declared.draining.Finished.{Finished}
use Rattle.cyc_ring.specs.Ends.{seat_hand, drain_seat_view, IsSameDrainSeat}
use Rattle.cyc_ring.specs.Steps.{MakesDrainCall}
use Rattle.cyc_ring.specs.declared.seats.DrainSeat.{DrainSeat}

-- the cyclic in the seat's hand
abbrev pub hand_in : Option DrainSeat → Option ℕ
hand_in (Some d) = seat_hand d
hand_in None = None

-- a call at the end of the seat, with its answer
abbrev pub drain_step_in : Option DrainSeat → DrainCall → Option DrainSeat → Type 0
drain_step_in (Some a) call (Some b) = IsSameDrainSeat a b × MakesDrainCall a.setting (drain_seat_view a) call (drain_seat_view b)
drain_step_in (Some a) call None = ⊥
drain_step_in None call b = ⊥

-- a take: the cyclic in hand again, or what one look of an empty hand found
abbrev pub TakesSeat : Option ℕ → Option DrainSeat → Option DrainSeat → Type 0
TakesSeat found a b = ((found ≢ None) × (hand_in a ≡ found) × (b ≡ a))
    ⊎ ((hand_in a ≡ None) × drain_step_in a (Takes found) b)

-- a finish: nothing without a cyclic in hand, else one call of it
abbrev pub FinishesSeat : Option Finished → Option DrainSeat → Option DrainSeat → Type 0
FinishesSeat None a b = (hand_in a ≡ None) × (b ≡ a)
FinishesSeat (Some answer) a b = (id : ℕ) × (hand_in a ≡ Some id) × drain_step_in a (Finishes id answer) b
