-- What the calls that lead a system are to the cyclic of one id.
use Rattle.std.specs.Prelude.{◌≡◌, ◌≢◌, ℕ, ◌==◌, ◌<◌, ⊤, if◌then◌else◌, List, map, Some, Ok, Err}
use Rattle.std.specs.List.{slice_get}
use Rattle.cyc_types.specs.declared.Calls.{Ghosts as Calls}
use Rattle.cyc_types.specs.declared.Raise.{Ghosts as Raise}
use Rattle.cyc_types.specs.Series.{never}
use Rattle.cyc_types.specs.declared.level.Level.{Level}
use Rattle.cyc_types.specs.declared.moment.When.{When}
use Rattle.cyc_timers.specs.declared.fire.FireRefused.{FireRefused}
use Rattle.cyc_model.specs.State.{Everywhere}
use Rattle.cyc_expected.specs.Course.{Event, Begins, BeginsOnAll, IsSet, IsSetOn, Ends, Fires, Leaves, Returns, Passes}
use Rattle.cyc_system_laws.specs.SystemCalls.{Add, AddOmni, BeginRemove, PollRemove, Reprogram, ReprogramOn, Offline, Online}
use Rattle.cyc_system_workers.specs.declared.side.SystemSide.{SystemSide}
use Rattle.cyc_system_workers.specs.declared.advancing.Advanced.{Advanced}
use Rattle.cyc_system_workers.specs.Advancing.{AllFire}
use Rattle.cyc_system_laws.specs.Sound.{IsSound}
use Rattle.cyc_system_rings.specs.Leading.{LeadCall, Make, FireAll, LeadSteps}

abbrev pub if_own : ℕ → ℕ → Event → Event
if_own own id event = if own == id then event else Passes

-- the omnipresent cyclic that a call gives
abbrev pub given_everywhere : Level → When → ℕ → Everywhere
given_everywhere level when skew = record { level = level; start = when.start; interval = when.interval; skew = skew }

-- what an accepted call is to the cyclic of this id; a call that was refused is nothing, and so are moves, polls and questions
abbrev pub event_in : ℕ → LeadCall → Event
event_in id (FireAll now) = Fires now
event_in id (Make (Add level when now (Ok own))) = if_own own id (Begins when.start when.interval now)
event_in id (Make (AddOmni level when skew now (Ok own))) = if_own own id (BeginsOnAll (given_everywhere level when skew) now)
event_in id (Make (BeginRemove own (Ok removal))) = if_own own id Ends
event_in id (Make (Reprogram own moment (Ok done))) = if_own own id (IsSet moment)
event_in id (Make (ReprogramOn own n moment (Ok done))) = if_own own id (IsSetOn n moment)
event_in id (Make (Offline n (Ok done))) = Leaves n
event_in id (Make (Online n now (Ok done))) = Returns n now
event_in id call = Passes

-- what the calls of a run are to it, in order
abbrev pub events_in : ℕ → List LeadCall → List Event
events_in id way = map (event_in id) way

-- no CPU's fire was refused
abbrev pub AllAccepted : {C R : Type 0} → Advanced R C → Type 0
AllAccepted b = (n : ℕ) (e : FireRefused) → slice_get b.answers.items n ≡ Some (Some (Err e)) → ⊥

-- one of a run in which no fire is refused
abbrev pub AcceptedSteps : {C R : Type 0} → Calls C
    → Raise R → SystemSide R C → LeadCall → SystemSide R C → Type 0
AcceptedSteps {C} {R} handler firing s (FireAll now) t = (after : Advanced R C)
    × AllFire handler firing now s after × AllAccepted after × (t ≡ after.side) × IsSound firing.view t.system
AcceptedSteps handler firing s call t = LeadSteps handler firing s call t

-- an advance stays below never, at which every fire is refused
abbrev pub IsBeforeNever : LeadCall → Type 0
IsBeforeNever (FireAll now) = now < never
IsBeforeNever call = ⊤

-- the call doesn't begin the removal of this id, nor ask whether it is over
abbrev pub KeepsIt : ℕ → LeadCall → Type 0
KeepsIt id (Make (BeginRemove own (Ok removal))) = own ≢ id
KeepsIt id (Make (PollRemove own (Ok answer))) = own ≢ id
KeepsIt id call = ⊤

-- nor does it set one component of this id alone, and no CPU goes offline or comes back
abbrev pub KeepsComponents : ℕ → LeadCall → Type 0
KeepsComponents id (Make (BeginRemove own (Ok removal))) = own ≢ id
KeepsComponents id (Make (PollRemove own (Ok answer))) = own ≢ id
KeepsComponents id (Make (ReprogramOn own n moment (Ok done))) = own ≢ id
KeepsComponents id (Make (Offline n answer)) = ⊥
KeepsComponents id (Make (Online n now (Ok done))) = ⊥
KeepsComponents id call = ⊤
