-- What stands on the rings of a run in threads, between any two of their atomic steps.
use Rattle.std.specs.Prelude.{◌≡◌, ℕ, ◌+◌, ◌%◌, List, Option, Some, None, slice_index}
use Rattle.std.specs.List.{slice_get}
use Rattle.cyc_types.specs.declared.level.Soft.{Soft}
use Rattle.cyc_types.specs.declared.level.Soft.TheVariants.{Low, Lock}
use Rattle.cyc_level.specs.Runs.{StayCounts}
use Rattle.ring_rule.specs.declared.Setting.{Setting}
use Rattle.ring_rule.specs.Words.{pend_word, mark_bit}
use Rattle.ring_rule.specs.Trail.{open_stay, raises_of, losses_on_trail, made_calls}
use Rattle.ring_rule.specs.Log.{RingStep, raise_side, drain_side, replay}
use Rattle.cyc_ring.specs.declared.closed.Closed.{Closed}
use Rattle.cyc_ring.specs.Ends.{IsOrderOf}
use Rattle.cyc_system_rings.specs.ByLevel.{rings_of}
use Rattle.cyc_threads.specs.Seats.{Seats}
use Rattle.cyc_threads.specs.Seated.{Seated}

-- the seats that a CPU has on its ring of a soft level
abbrev pub seats_of : {C : Type 0} → Soft → Seated C → Seats
seats_of Lock s = s.seats.lock
seats_of Low s = s.seats.low

-- of the rings that a run gives back: the one of this CPU and level
abbrev pub IsRingOf : ℕ → Soft → List Closed → Closed → Type 0
IsRingOf cpu soft rings ring = slice_get (rings_of soft rings) cpu ≡ Some ring

-- what was fixed when the ring was opened
abbrev pub setting_of : Closed → Setting
setting_of ring = ring.raise_seat.value.setting

-- all atomic steps of the ring's two sides, in their one order
abbrev pub IsLogOf : Closed → List RingStep → Type 0
IsLogOf ring log = IsOrderOf log ring.raise_seat.value ring.drain_seat.value

-- the calls that the pend word of an open stay counts, be they pending, in hand or kept for its removal
abbrev pub still_counted : List ℕ → Option StayCounts → ℕ
still_counted words None = 0
still_counted words (Some s) = slice_index words (pend_word s.index) % mark_bit

-- the conservation theorem after these steps: of each id, over all its stays, the raises are the calls that are finished, those
-- that the ring still counts, and those lost
abbrev pub IsConservedAfter : Setting → List RingStep → Type 0
IsConservedAfter k log = (id : ℕ) → raises_of id (raise_side log) ≡ made_calls id (drain_side log)
    + still_counted (replay k.start log) (open_stay id (raise_side log)) + losses_on_trail id (raise_side log)
