-- Which seat belongs to which words, and what an atomic step does to a seat.
use Rattle.std.specs.Prelude.{◌≡◌}
use Rattle.atomic_table.specs.declared.shared.Seat.{Seat}
use Rattle.ring_rule.specs.declared.RaiseStep.{RaiseStep}
use Rattle.ring_rule.specs.declared.DrainStep.{DrainStep}
use Rattle.ring_rule.specs.declared.SeatView.{SeatView}
use Rattle.ring_rule.specs.declared.Setting.{Setting}
use Rattle.ring_rule.specs.Steps.{GainsRaiseStep, GainsDrainStep}
use Rattle.ring_rule.specs.Conservation.{StandsFor}
use Rattle.ring_steps.specs.declared.words.Words.{Words}

-- a seat of a ring's table, which has no slots
abbrev pub TableSeat : Type 0
TableSeat = Seat (Unit {0}) SeatView

-- the seat is one of these words', and this is their setting
abbrev pub IsSeatOf : Setting → Words → TableSeat → Type 0
IsSeatOf k words seat = (seat.table_id ≡ words.table.shared.table_id) × (k ≡ words.setting)

-- the seat's trail gains this step of the firing side, and a lawful level stands at its position
abbrev pub MakesRaiseStep : Setting → RaiseStep → TableSeat → TableSeat → Type 0
MakesRaiseStep k x s s' = (s'.table_id ≡ s.table_id) × GainsRaiseStep x s.me s'.me × StandsFor k s'.me.0

-- the same of the soft side
abbrev pub MakesDrainStep : Setting → DrainStep → TableSeat → TableSeat → Type 0
MakesDrainStep k x s s' = (s'.table_id ≡ s.table_id) × GainsDrainStep x s.me s'.me × StandsFor k s'.me.0
