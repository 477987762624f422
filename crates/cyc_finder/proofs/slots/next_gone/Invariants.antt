use Rattle.std.proofs.Common.{◌≢◌, ◌-◌, ◌≤◌, length, None}
use Rattle.std.specs.List.{AllWithin}
use Rattle.cyc_finder.specs.Slots.{SlotView}
use Rattle.cyc_finder.proofs.slots.next_gone.Given as goal

abbrev pub invariant-loop-position : goal.invariant-loop-position
invariant-loop-position l = (l.from ≤ l.position) × (l.position ≤ length l.slots)
    × AllWithin (λ (slot : SlotView). slot.index ≢ None) l.slots l.from l.position

abbrev pub decreases-loop-position : goal.decreases-loop-position
decreases-loop-position l = length l.slots - l.position
