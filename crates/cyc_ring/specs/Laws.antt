-- Laws of runs of calls, and of what stands at a moment.
use Rattle.std.specs.Prelude.{◌≡◌, ℕ, ◌+◌, None, List, [], ◌∷◌, ⊤}
use Rattle.cyc_types.specs.Firing.{FiringCall, Raises}
use Rattle.cyc_types.specs.Draining.{DrainCall, Takes}
use Rattle.cyc_types.specs.Runs.{Goes, DrainGoes, raised_by, lost_by, finished_by}
use Rattle.ring_rule.specs.declared.Setting.{Setting}
use Rattle.ring_rule.specs.Trail.{open_stay, raises_of, losses_on_trail, ended_calls, made_calls}
use Rattle.ring_rule.specs.Log.{RingStep, raise_side, drain_side}
use Rattle.ring_rule.specs.Conservation.{LevelStands}
use Rattle.cyc_ring.specs.Ends.{raise_trail, raise_end, end_view, end_made, drain_end, DrainEndCall}
use Rattle.cyc_ring.specs.Ends.{IsSameRaiseSeat, IsSameDrainSeat}
use Rattle.cyc_ring.specs.Ends.{FoundIdle}
use Rattle.cyc_ring.specs.declared.ends.RaiseEnd.{RaiseEnd}
use Rattle.cyc_ring.specs.declared.ends.DrainEnd.{DrainEnd}

-- the raises and the losses in the trail grow by those of the run
abbrev pub RaiseWaysAddUp : Type 0
RaiseWaysAddUp = (e f : RaiseEnd) (way : List FiringCall) → Goes raise_end e way f
    → IsSameRaiseSeat e.seat f.seat
    × ((id : ℕ) → raises_of id (raise_trail f.seat) ≡ raises_of id (raise_trail e.seat) + raised_by id way)
    × ((id : ℕ) → losses_on_trail id (raise_trail f.seat) ≡ losses_on_trail id (raise_trail e.seat) + lost_by id way)

-- the finishes grow by those of the run
abbrev pub DrainWaysAddUp : Type 0
DrainWaysAddUp = (e f : DrainEnd) (way : List DrainCall) → DrainGoes drain_end e way f
    → IsSameDrainSeat e.seat f.seat × ((id : ℕ) → end_made f id ≡ end_made e id + finished_by id way)

-- the last take of a run answered None because it looked
abbrev pub IdleIsFound : Type 0
IdleIsFound = (e before f : DrainEnd) (way : List DrainCall) → DrainGoes drain_end e way before
    → DrainEndCall before (Takes None) f
    → FoundIdle e f

-- while no stay of the id is open, its finishes stay what they were when the last one ended
abbrev pub NoFinishFollowsRemoval : Type 0
NoFinishFollowsRemoval = (k : Setting) (log : List RingStep) (id : ℕ) → LevelStands k log → open_stay id (raise_side log) ≡ None
    → made_calls id (drain_side log) ≡ ended_calls id (raise_side log)

-- a call of the firing side that is no raise
abbrev pub IsQuiet : FiringCall → Type 0
IsQuiet (Raises id answer) = ⊥
IsQuiet (_) = ⊤

abbrev pub AreQuiet : List FiringCall → Type 0
AreQuiet [] = ⊤
AreQuiet (call ∷ way) = IsQuiet call × AreQuiet way

-- calls that are no raises raise nothing and lose nothing, at any end
abbrev pub QuietCallsRaiseNothing : Type 0
QuietCallsRaiseNothing = (id : ℕ) (way : List FiringCall) → AreQuiet way → (raised_by id way ≡ 0) × (lost_by id way ≡ 0)

-- no run of calls changes the ceiling
abbrev pub EndsKeepTheirCeiling : Type 0
EndsKeepTheirCeiling = (e f : RaiseEnd) (way : List FiringCall) → Goes raise_end e way f
    → (end_view f).ceiling ≡ (end_view e).ceiling
