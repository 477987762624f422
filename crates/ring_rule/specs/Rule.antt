-- The ring's rule, which holds between any two atomic steps.
use Rattle.std.specs.Prelude.{◌≡◌, ℕ, ◌<◌, List, [], ◌∷◌, ⊤}
use mathlib.Core.Option.{some}
use lib.ListN.{get_elem?}
use Rattle.atomic_table.specs.Table.{State}
use Rattle.cyc_level.specs.Events.{AllEnabled}
use Rattle.ring_rule.specs.declared.Role.{Role}
use Rattle.ring_rule.specs.declared.Role.TheVariants.{Joint, Raise, Drain, Spent}
use Rattle.ring_rule.specs.declared.SeatView.{SeatView}
use Rattle.ring_rule.specs.declared.Setting.{Setting}
use Rattle.ring_rule.specs.Words.{mark_bit, index_range}
use Rattle.ring_rule.specs.Log.{RingStep, raise_side, raise_positions, drain_side, drain_positions, events_of, level_after_steps}
use Rattle.ring_rule.specs.Log.{replay}
use Rattle.ring_rule.specs.Log.{AllTrue}
use Rattle.ring_rule.specs.Shown.{TrailsShow, StillHolds}

-- the words and the views of a ring's table; it has no slots
abbrev pub RingState : Type 0
RingState = State (Unit {0}) SeatView

-- the view of the one seat of a ring that is opened
abbrev pub opening_view : SeatView
opening_view = record { role = Joint; raise_trail = []; raise_positions = []; drain_trail = []; drain_positions = [] }

-- a split gives each side its seat
abbrev pub raise_view : SeatView → SeatView
raise_view v = record v { role = Raise }

abbrev pub drain_view : SeatView → SeatView
drain_view v = record v { role = Drain }

-- a join puts both sides into one seat, and the other is spent
abbrev pub joint_view : SeatView → SeatView → SeatView
joint_view v w = record {
  role = Joint;
  raise_trail = v.raise_trail;
  raise_positions = v.raise_positions;
  drain_trail = w.drain_trail;
  drain_positions = w.drain_positions;
}

abbrev pub spent_view : SeatView
spent_view = record { role = Spent; raise_trail = []; raise_positions = []; drain_trail = []; drain_positions = [] }

module _ (log : List RingStep) where
  -- the view has the log's steps of a side, each with its position
  abbrev pub HasRaises : SeatView → Type 0
  HasRaises v = (v.raise_trail ≡ raise_side log) × (v.raise_positions ≡ raise_positions log)

  abbrev pub HasDrains : SeatView → Type 0
  HasDrains v = (v.drain_trail ≡ drain_side log) × (v.drain_positions ≡ drain_positions log)

  -- a seat's view has the trail of its side
  abbrev pub HasItsTrail : SeatView → Role → Type 0
  HasItsTrail v Joint = HasRaises v × HasDrains v
  HasItsTrail v Raise = HasRaises v
  HasItsTrail v Drain = HasDrains v
  HasItsTrail v Spent = ⊤

  -- the one raise seat and the one drain seat, by their numbers in the table, and each one's trail
  abbrev pub IsSeat : ℕ → ℕ → ℕ → SeatView → Role → Type 0
  IsSeat raise_seat drain_seat seat v Joint = (seat ≡ raise_seat) × (seat ≡ drain_seat) × HasRaises v × HasDrains v
  IsSeat raise_seat drain_seat seat v Raise = (seat ≡ raise_seat) × HasRaises v
  IsSeat raise_seat drain_seat seat v Drain = (seat ≡ drain_seat) × HasDrains v
  IsSeat raise_seat drain_seat seat v Spent = ⊤

-- a seat of this role makes the steps of the firing side, or those of the soft side; the seat of both sides may make either
abbrev pub IsFiring : Role → Type 0
IsFiring Joint = ⊤
IsFiring Raise = ⊤
IsFiring Drain = ⊥
IsFiring Spent = ⊥

abbrev pub IsSoft : Role → Type 0
IsSoft Joint = ⊤
IsSoft Raise = ⊥
IsSoft Drain = ⊤
IsSoft Spent = ⊥

-- the table has a seat of such a role at this number
abbrev pub HasSeat : (Role → Type 0) → List SeatView → ℕ → Type 0
HasSeat Is views seat = (v : SeatView) × (get_elem? views seat ≡ some v) × Is v.role

-- the words after the log and its two sides show the level after it
abbrev pub IsShown : Setting → List RingStep → Type 0
IsShown k log = TrailsShow k.start (replay k.start log) (raise_side log) (drain_side log) (level_after_steps k.ceiling log)
    × StillHolds k.start (replay k.start log) (raise_side log) (drain_side log) (level_after_steps k.ceiling log)

-- and so it was before each of its steps
abbrev pub AllShown : Setting → List RingStep → Type 0
AllShown k [] = IsShown k []
AllShown k (x ∷ log) = IsShown k (x ∷ log) × AllShown k log

-- there is one order of all steps that were made. The words are what it leaves, each record of it is true at its position, each
-- side has a seat, and each seat has the records of its side. Its events are an enabled run, and after each step the words and
-- both trails show the level that the run has reached
pub record MeetsRule (k : Setting) (s : RingState) : Type 0 where
  pub log : List RingStep
  pub raise_seat : ℕ
  pub drain_seat : ℕ
  pub fits : (k.ceiling < mark_bit) × (k.start < index_range)
  pub words : s.words ≡ replay k.start log
  pub all_true : AllTrue k.start log
  pub firing_side : HasSeat IsFiring s.views raise_seat
  pub soft_side : HasSeat IsSoft s.views drain_seat
  pub seats : (j : ℕ) (v : SeatView) → get_elem? s.views j ≡ some v → IsSeat log raise_seat drain_seat j v v.role
  pub enabled : AllEnabled k.ceiling (events_of log)
  pub shown : AllShown k log
