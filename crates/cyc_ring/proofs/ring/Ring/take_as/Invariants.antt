use Rattle.std.proofs.Common.{◌≡◌, ◌-◌, ◌*◌, ◌≤◌, List, length}
use Rattle.std.specs.Prelude.{None}
use Rattle.cyc_types.specs.Limits.{greatest_bank}
use Rattle.ring_rule.specs.declared.DrainStep.{DrainStep}
use Rattle.ring_rule.specs.Trail.{held_entry}
use Rattle.cyc_ring.specs.Steps.{AreFollows}
use Rattle.cyc_ring.specs.Ends.{IsDrainSeatOf, drain_trail, drain_seat_view}
use Rattle.cyc_ring.proofs.Calls.{DrainRun}
use Rattle.cyc_ring.proofs.ring.Ring.take_as.Given as goal

abbrev pub invariant-loop-drain_seat : goal.invariant-loop-drain_seat
invariant-loop-drain_seat g l = IsDrainSeatOf l.self l.drain_seat × (held_entry (drain_trail l.drain_seat) ≡ None)
    × ((before : List DrainStep) × AreFollows l.self.setting.start (drain_trail l.initial.drain_seat) before
    × DrainRun l.self.setting (drain_seat_view l.initial.drain_seat) before l.drain_seat.side.seat
    × (length before ≤ 3 * l.drain_seat.bank))

abbrev pub decreases-loop-drain_seat : goal.decreases-loop-drain_seat
decreases-loop-drain_seat g l = greatest_bank - l.drain_seat.bank
