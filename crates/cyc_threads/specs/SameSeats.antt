-- The seats of a system's rings.
use Rattle.std.specs.Prelude.{List}
use Rattle.cyc_types.specs.Pairs.{EachTwo}
use Rattle.cyc_ring.specs.declared.ends.RaiseEnd.{RaiseEnd}
use Rattle.cyc_ring.specs.Ends.{IsSameRaiseSeat}
use Rattle.cyc_system_laws.specs.Cpu.{CpuView}

-- the CPU has the seats of the same two rings
abbrev pub HasSameSeats : CpuView RaiseEnd → CpuView RaiseEnd → Type 0
HasSameSeats x y = IsSameRaiseSeat x.lock.seat y.lock.seat × IsSameRaiseSeat x.low.seat y.low.seat

-- so has each CPU
abbrev pub HaveSameSeats : List (CpuView RaiseEnd) → List (CpuView RaiseEnd) → Type 0
HaveSameSeats xs ys = EachTwo HasSameSeats xs ys
