-- The rings of a CPU: their seats, their ends, and what is left of them.
use Rattle.std.specs.Prelude.{◌≡◌, ℕ, List, []}
use Rattle.ring_rule.specs.Log.{RingStep}
use Rattle.ring_rule.specs.Conservation.{AllStood, IsAccounted}
use Rattle.cyc_ring.specs.declared.ring.Ring.{Ring}
use Rattle.cyc_ring.specs.declared.closed.Closed.{Closed}
use Rattle.cyc_ring.specs.Ends.{IsRaiseSeatOf, IsDrainSeatOf, IsOrderOf, raise_trail, drain_trail}
use Rattle.cyc_ring.specs.declared.ends.RaiseEnd.{RaiseEnd}
use Rattle.cyc_ring.specs.declared.ends.DrainEnd.{DrainEnd}
use Rattle.cyc_ring.specs.declared.seats.RaiseSeat.{RaiseSeat}
use Rattle.cyc_ring.specs.declared.seats.DrainSeat.{DrainSeat}
use Rattle.cyc_cpu.specs.Cpu.{CpuView}
use Rattle.cyc_workers.specs.declared.cpu.Seats.{Seats}
use Rattle.cyc_soft.specs.declared.SoftSide.{SoftSide}
use Rattle.cyc_thread_rings.specs.declared.levels.Levels.{Levels}
use Rattle.cyc_thread_rings.specs.declared.levels.Seated.{Seated}
use Rattle.cyc_thread_rings.specs.declared.attaching.Attached.{Attached}

-- the seats are this ring's
abbrev pub IsSeated : Ring → Seats → Type 0
IsSeated ring s = IsRaiseSeatOf ring s.raise × IsDrainSeatOf ring s.drain

abbrev pub AreSeated : Levels Ring → Levels Seats → Type 0
AreSeated rings s = IsSeated rings.lock s.lock × IsSeated rings.low s.low

-- nothing was done on the seats' ring, whose greatest pend is this
abbrev pub IsNew : ℕ → Seats → Type 0
IsNew ceiling s = (raise_trail s.raise ≡ []) × (drain_trail s.drain ≡ []) × (s.raise.setting.ceiling ≡ ceiling)

abbrev pub AreNew : ℕ → Levels Seats → Type 0
AreNew ceiling s = IsNew ceiling s.lock × IsNew ceiling s.low

-- the buffer indexes of the seats' ring begin at this number
abbrev pub BeginsAt : ℕ → Seats → Type 0
BeginsAt start s = s.raise.setting.start ≡ start

abbrev pub BeginAt : ℕ → Levels Seats → Type 0
BeginAt start s = BeginsAt start s.lock × BeginsAt start s.low

-- the ends of a CPU have its seats, and its handlers are beside them: each soft level's beside the drain end of its own ring
pub record IsAttached {C : Type 0} (s : Seated C) (a : Attached C) : Type 0 where
  pub lock_raise : a.ends.0.seat ≡ s.seats.lock.raise
  pub low_raise : a.ends.1.seat ≡ s.seats.low.raise
  pub lock_drain : a.soft.lock.drain.seat ≡ s.seats.lock.drain
  pub low_drain : a.soft.low.drain.seat ≡ s.seats.low.drain
  pub high : a.high ≡ s.calls.high
  pub lock : a.soft.lock.calls ≡ s.calls.lock
  pub low : a.soft.low.calls ≡ s.calls.low

-- the firing seats of a CPU, that of its lock level first: as its two ends have them, and as it has them without ends
abbrev pub seats_of_ends : RaiseEnd × RaiseEnd → RaiseSeat × RaiseSeat
seats_of_ends e = (e.0.seat, e.1.seat)

abbrev pub seats_on : CpuView RaiseEnd → RaiseSeat × RaiseSeat
seats_on v = (v.lock.seat, v.low.seat)

abbrev pub firing_seats : {C : Type 0} → Seated C → RaiseSeat × RaiseSeat
firing_seats s = (s.seats.lock.raise, s.seats.low.raise)

-- the same of a CPU's soft sides, each with its handlers
abbrev pub soft_seats_on : {C : Type 0} → Levels (SoftSide DrainEnd C) → (DrainSeat × C) × (DrainSeat × C)
soft_seats_on x = ((x.lock.drain.seat, x.lock.calls), (x.low.drain.seat, x.low.calls))

abbrev pub soft_seats : {C : Type 0} → Seated C → (DrainSeat × C) × (DrainSeat × C)
soft_seats s = ((s.seats.lock.drain, s.calls.lock), (s.seats.low.drain, s.calls.low))

-- the ring was closed with these seats
pub record IsClosed (s : Seats) (c : Closed) : Type 0 where
  pub raise_seat : c.raise_seat.value ≡ s.raise
  pub drain_seat : c.drain_seat.value ≡ s.drain
  -- there is one order of all atomic steps of its two sides, and a lawful level stood before and after each of them
  pub stood : (log : List RingStep) × IsOrderOf log s.raise s.drain × AllStood s.raise.setting log
  -- the two sides' trails agree: of each id what was raised is made, lost or left
  pub accounted : IsAccounted (raise_trail s.raise) (drain_trail s.drain)

abbrev pub AreClosed : Levels Seats → Levels Closed → Type 0
AreClosed s c = IsClosed s.lock c.lock × IsClosed s.low c.low
