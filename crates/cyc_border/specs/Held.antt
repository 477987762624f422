-- The firing end of a ring that it shares with the soft side: its seat is there between any two calls.
use Rattle.std.specs.Prelude.{Option, Some, None, true}
use Rattle.cyc_types.specs.Firing.{FiringView, FiringCall}
use Rattle.cyc_ring.specs.Ends.{seat_view, raise_seat_view, IsSameRaiseSeat}
use Rattle.cyc_ring.specs.Steps.{MakesRaiseCall}
use Rattle.cyc_ring.specs.declared.seats.RaiseSeat.{RaiseSeat}

-- what is known where there is no seat, which no one sees
abbrev pub no_view : FiringView
no_view = record { stays = λ id. None; marked = None; bank = 0; ceiling = 0; followed = true; hand_free = true }

abbrev pub view_in : Option RaiseSeat → FiringView
view_in (Some s) = seat_view s
view_in None = no_view

-- a call at the end of the seat, with its answer
abbrev pub step_in : Option RaiseSeat → FiringCall → Option RaiseSeat → Type 0
step_in (Some a) call (Some b) = IsSameRaiseSeat a b × MakesRaiseCall a.setting (raise_seat_view a) call (raise_seat_view b)
step_in (Some a) call None = ⊥
step_in None call b = ⊥
