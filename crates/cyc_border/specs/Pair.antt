-- A CPU whose firing side and two soft sides are used by three threads.
use Rattle.std.specs.Prelude.{◌≡◌, ℕ, [], Option, Some, Result}
use Rattle.cyc_ring.specs.Ends.{IsRaiseSeatOf, IsDrainSeatOf, raise_trail, drain_trail}
use Rattle.cyc_ring.specs.declared.closed.Closed.{Closed}
use Rattle.cyc_ring.specs.declared.seats.RaiseSeat.{RaiseSeat}
use Rattle.cyc_ring.specs.declared.seats.DrainSeat.{DrainSeat}
use Rattle.cyc_types.specs.declared.Raise.{Ghosts as Raise}
use Rattle.cyc_types.specs.Firing.{FiringView, FiringCall}
use Rattle.cyc_cpu.specs.Cpu.{CpuView}
use Rattle.cyc_timers.specs.declared.fire.Fired.{Fired}
use Rattle.cyc_timers.specs.declared.fire.FireRefused.{FireRefused}
use Rattle.cyc_border.specs.Held.{view_in, step_in}
use Rattle.cyc_border.specs.Border.{FiresPart}
use Rattle.cyc_border.specs.declared.held.HeldEnd.{HeldEnd}
use Rattle.cyc_border.specs.declared.pair.Firing.{Firing}
use Rattle.cyc_border.specs.declared.soft_side.SoftSide.{SoftSide}

-- the two sides of a new ring of this ceiling, on which no step was made
abbrev pub IsNewPair : ℕ → HeldEnd → SoftSide → Type 0
IsNewPair ceiling e s = (e.ring.value ≡ s.ring.value) × (e.ring.value.setting.ceiling ≡ ceiling)
    × (r : RaiseSeat) × (d : DrainSeat) × (e.seat ≡ Some r) × (s.seat ≡ Some d)
    × IsRaiseSeatOf e.ring.value r × IsDrainSeatOf s.ring.value d × (raise_trail r ≡ []) × (drain_trail d ≡ [])

-- what was closed is the ring of these two seats
abbrev pub IsClosedOf : Option RaiseSeat → Option DrainSeat → Closed → Type 0
IsClosedOf r d c = (r ≡ Some c.raise_seat.value) × (d ≡ Some c.drain_seat.value)

-- the three handles are of one open
abbrev pub SameRings : Firing → SoftSide → SoftSide → Type 0
SameRings f lock low = (f.hard.lock.ring.value ≡ lock.ring.value) × (f.hard.low.ring.value ≡ low.ring.value)

-- what the holder of the firing side knows of a level, and a call at its end
abbrev pub held_view : HeldEnd → FiringView
held_view e = view_in e.seat

abbrev pub held_step : HeldEnd → FiringCall → HeldEnd → Type 0
held_step e call f = step_in e.seat call f.seat

-- both at once
abbrev pub raise_held : Raise HeldEnd
raise_held = record { view = held_view; step = held_step }

-- the CPU's own part of a call, which changes nothing else
abbrev pub OnSide : (CpuView HeldEnd → CpuView HeldEnd → Type 0) → Firing → Firing → Type 0
OnSide made v w = made v.hard w.hard × (w ≡ record v { hard = w.hard })

-- a part of a fire at the firing side
abbrev pub FiresSide : ℕ → Result Fired FireRefused → Firing → Firing → Type 0
FiresSide now answer v w = FiresPart raise_held now answer v.high v.hard w.high w.hard
    × (w ≡ record v { hard = w.hard; high = w.high })
