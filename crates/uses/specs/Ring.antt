-- What stood while two threads used a ring.
use Rattle.std.specs.Prelude.{ℕ, List}
use Rattle.ring_rule.specs.Conservation.{AllStood}
use Rattle.ring_rule.specs.Log.{RingStep}
use Rattle.cyc_ring.specs.Ends.{IsOrderOf}
use Rattle.cyc_ring.specs.declared.closed.Closed.{Closed}

-- there is one order of all steps of the two sides, and a lawful level stood before and after each of them
abbrev pub StoodThroughout : ℕ → Closed → Type 0
StoodThroughout ceiling closed = (log : List RingStep) × IsOrderOf log closed.raise_seat.value closed.drain_seat.value
    × AllStood (record { ceiling = ceiling; start = 0 }) log
