-- The conservation theorem between any two atomic steps of a ring.
use Rattle.std.specs.Prelude.{◌≡◌, ℕ, ◌+◌, ◌%◌, ◌≤◌, Option, Some, None, List, [], ◌∷◌, length, slice_index, ⊤}
use mathlib.Core.Option.{some}
use lib.ListN.{get_elem?}
use Rattle.cyc_level.specs.Lawful.{Lawful}
use Rattle.cyc_level.specs.Events.{AllEnabled}
use Rattle.cyc_level.specs.Runs.{StayCounts, past_finishes, AreFinished}
use Rattle.cyc_level.specs.Conservation.{IsConserved}
use Rattle.ring_rule.specs.declared.RaiseStep.{RaiseStep}
use Rattle.ring_rule.specs.declared.DrainStep.{DrainStep}
use Rattle.ring_rule.specs.declared.Role.{Role}
use Rattle.ring_rule.specs.declared.Role.TheVariants.{Joint, Raise, Drain, Spent}
use Rattle.ring_rule.specs.declared.SeatView.{SeatView}
use Rattle.ring_rule.specs.declared.Setting.{Setting}
use Rattle.ring_rule.specs.Words.{pend_word, mark_bit}
use Rattle.ring_rule.specs.Trail.{open_stay, ended_stays, ended_calls, raises_of, losses_on_trail, seen_pend, made_calls}
use Rattle.ring_rule.specs.Log.{RingStep, raise_side, drain_side, events_of, level_after_steps, replay, AllTrue, newest}
use Rattle.ring_rule.specs.Shown.{TrailsShow, StillHolds}
use Rattle.ring_rule.specs.Rule.{RingState, HasItsTrail}

-- the book of each index in use: its expirations are the calls done, those that its pend word still counts and those
-- lost; and the finishes of the id are these and the calls of its ended stays
abbrev pub IsBooked : List ℕ → List RaiseStep → List DrainStep → Type 0
IsBooked words raise_trail drain_trail = (id : ℕ) (s : StayCounts) → open_stay id raise_trail ≡ Some s
    → (done : ℕ) × (s.sent ≡ done + slice_index words (pend_word s.index) % mark_bit + s.lost)
    × (made_calls id drain_trail ≡ done + ended_calls id raise_trail)

-- with no open stay nothing is pending, and otherwise no more than was seen
abbrev pub IsPending : ℕ → ℕ → Option StayCounts → Type 0
IsPending pend seen None = pend ≡ 0
IsPending pend seen (Some s) = pend ≤ seen

-- for each id, admitted or not: the finishes made and the calls pending are the raises less the losses of all its stays
abbrev pub IsAccounted : List RaiseStep → List DrainStep → Type 0
IsAccounted raise_trail drain_trail = (id : ℕ) → (pend : ℕ)
    × IsPending pend (seen_pend id raise_trail) (open_stay id raise_trail)
    × (made_calls id drain_trail + pend + losses_on_trail id raise_trail ≡ raises_of id raise_trail)

-- after the log: each record of it is true at its position, its events are an enabled run, and the level that the run has reached
-- is what words and trails show; it is lawful, and no call of it is forgotten
pub record LevelStands (k : Setting) (log : List RingStep) : Type 0 where
  pub all_true : AllTrue k.start log
  pub enabled : AllEnabled k.ceiling (events_of log)
  pub shows : TrailsShow k.start (replay k.start log) (raise_side log) (drain_side log) (level_after_steps k.ceiling log)
  pub still : StillHolds k.start (replay k.start log) (raise_side log) (drain_side log) (level_after_steps k.ceiling log)
  pub lawful : Lawful (level_after_steps k.ceiling log)
  pub conserved : IsConserved (level_after_steps k.ceiling log)
  pub booked : IsBooked (replay k.start log) (raise_side log) (drain_side log)
  pub accounted : IsAccounted (raise_side log) (drain_side log)
  pub finished : (id : ℕ) → AreFinished (ended_stays id (raise_side log)) (past_finishes k.ceiling id (events_of log))

-- and such a level stood before each step of the log
abbrev pub AllStood : Setting → List RingStep → Type 0
AllStood k [] = LevelStands k []
AllStood k (x ∷ log) = LevelStands k (x ∷ log) × AllStood k log

-- the log ends with the newest step of the view's side
abbrev pub EndsWithIts : List RingStep → SeatView → Role → Type 0
EndsWithIts log v Joint = ⊤
EndsWithIts log v Raise = length log ≡ newest v.raise_positions + 1
EndsWithIts log v Drain = length log ≡ newest v.drain_positions + 1
EndsWithIts log v Spent = ⊤

-- such a level stands at the position of this seat's newest step: the log ends there, and the seat has the trail of its side
abbrev pub StandsFor : Setting → SeatView → Type 0
StandsFor k v = (log : List RingStep) × HasItsTrail log v v.role × EndsWithIts log v v.role × AllStood k log

-- such a level stands in the state: the words are what the log leaves, and each seat has the trail of its side
pub record Conserves (k : Setting) (s : RingState) : Type 0 where
  pub log : List RingStep
  pub words : s.words ≡ replay k.start log
  pub trails : (j : ℕ) (v : SeatView) → get_elem? s.views j ≡ some v → HasItsTrail log v v.role
  pub stood : AllStood k log
