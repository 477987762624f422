-- The cases of what a call does.
use Rattle.std.proofs.Common.{◌≡◌, ◌≢◌, ℕ, ◌++◌, ◌∷◌, List, length, Some, None, true, false, inl, inr, refl, sym, ap, ◌∙◌, subst}
use Rattle.std.proofs.lemmas.Bool.{false≢true}
use Rattle.std.specs.Prelude.{Result, Ok, Err, IfOk, IfErr}
use Rattle.cyc_types.specs.declared.Calls.{Ghosts as Calls}
use Rattle.cyc_types.specs.declared.Raise.{Ghosts as Raise}
use Rattle.cyc_types.specs.Series.{never}
use Rattle.cyc_soft.specs.declared.Ran.{Ran}
use Rattle.cyc_soft.specs.declared.SoftRefused.{SoftRefused}
use Rattle.cyc_types.specs.declared.level.Soft.{Soft}
use Rattle.cyc_types.specs.Timers.{earliest}
use Rattle.cyc_types.specs.Expirations.{Expiration, expirations}
use Rattle.cyc_timers.specs.Rows.{timers}
use Rattle.cyc_timers.specs.declared.fire.Fired.{Fired}
use Rattle.cyc_timers.specs.declared.fire.FireRefused.{FireRefused}
use Rattle.cyc_types.specs.Levels.{at_level}
use Rattle.cyc_types.specs.declared.level.Level.{Level}
use Rattle.cyc_types.specs.declared.level.Level.TheVariants.{High}
use Rattle.cyc_types.specs.declared.moment.When.{When}
use Rattle.cyc_types.specs.declared.refusal.Refusal.{Refusal}
use Rattle.cyc_types.specs.declared.refusal.Refusal.TheVariants.{BadNow}
use Rattle.cyc_types.specs.declared.refusal.Refusal.TheVariants as why
use Rattle.cyc_cpu.specs.declared.removing.Removal.TheVariants.{Done, Kept}
use Rattle.cyc_cpu.specs.Moving.{WhyNotTaken}
use Rattle.cyc_cpu.specs.Cpu.{CpuView, Running, SameCpu, Makes, WhyStopped, Looked, WhyNotReserved, sides}
use Rattle.cyc_cpu.specs.Calls.{CpuCall, Fire, SoftInterrupt, Add, Place, Reprogram, AskPending, AskTotals, AskRoom, Reserve}
use Rattle.cyc_cpu.specs.Calls.{
  Widen,
  BeginRemove,
  PollRemove,
  TakeNow,
  AskSettled,
  Suspend,
  Resume,
  CpuChanges,
  CpuDoes,
  Stopped,
}
use Rattle.cyc_cpu.specs.Calls.{MayFire, WhyNoFire}
use Rattle.cyc_timers.specs.Acts.{acting}
use Rattle.cyc_timers.specs.Made.{fire_state}

module _ {C R : Type 0} (handler : Calls C) (firing : Raise R)
    (interrupts : Soft → ℕ → Result Ran SoftRefused → Running C R → Running C R → Type 0) (now : ℕ) (s t : Running C R)
    (may : MayFire now s.cpu) (kept : SameCpu s.cpu t.cpu) where
  -- a fire that is not refused at once
  pub fired : (answer : Result Fired FireRefused) → IfOk answer (λ r. r.expired ≡ length (expirations now (timers s.cpu.cyclics)))
      → IfOk answer (λ r. r.next ≡ earliest (timers t.cpu.cyclics))
      → IfOk answer (λ r. Makes (acting (at_level handler.called High) handler.count firing) now (expirations now (timers
      s.cpu.cyclics)) (fire_state s.cpu.cyclics (sides s.calls s.cpu))
      (fire_state t.cpu.cyclics (sides t.calls t.cpu)) r.lost)
      → IfErr answer (λ e. (made : List Expiration) × (last : Expiration) × (rest : List Expiration)
      × (expirations now (timers s.cpu.cyclics) ≡ made ++ last ∷ rest) × (length made ≡ e.expired) × (at : C)
      × Makes (acting (at_level handler.called High) handler.count firing) now made (fire_state s.cpu.cyclics (sides s.calls
      s.cpu))
      (fire_state t.cpu.cyclics (sides at t.cpu)) e.lost
      × ((id : ℕ) → handler.count t.calls id ≡ handler.count at id)
      × WhyStopped handler.may_refuse s.cpu.most at last (timers t.cpu.cyclics) e.why)
      → CpuDoes handler firing interrupts s (Fire now answer) t
  fired (Ok r) expired next makes stopped = (may, kept, expired, next, makes)
  fired (Err e) expired next makes (made, last, rest, listed, long, at, m, counted, stops) =
      inr (
        may,
        kept,
        record {
          made = made;
          last = last;
          rest = rest;
          listed = listed;
          expired = long;
          at = at;
          makes =
              m;
          counted = counted;
          stops = stops;
        },
      )

-- why an add at a moment that is not never was refused
pub not_added : {R : Type 0} (firing : Raise R) (id now : ℕ) (level : Level)
    (when : When) (v w : CpuView R) (e : Refusal) → now ≢ never
    → CpuChanges firing v (Add id level when now (Err e)) w → Looked firing v w × WhyNotReserved firing.view 1 v w e
not_added firing id now level when v w BadNow early d = absurd (early d.1)
not_added firing id now level when v w e early d = (d.2, d.3)

-- a fire that is taken up is not refused at once
pub refused_not : {R : Type 0} (now : ℕ) (v : CpuView R) (e : Refusal) → MayFire now v → WhyNoFire now v e → ⊥
refused_not now v why.Suspended may is = false≢true (sym may.awake ∙ is)
refused_not now v why.BadNow may is = may.early is.1
refused_not now v e may is = is

-- what a cyclic may expire at most is the same for good
not_taken_most : {R : Type 0} (firing : Raise R) (id : ℕ) (v w : CpuView R)
    (e : Refusal) → WhyNotTaken firing id v e w → w.most ≡ v.most
not_taken_most {R} firing id v w why.NoCyclic d = ap (λ (x : CpuView R). x.most) d.1
not_taken_most {R} firing id v w (why.Busy removed) d = ap (λ (x : CpuView R). x.most) d.2
not_taken_most firing id v w why.Pending (still, some, n, more, a) = a.kept.most
not_taken_most firing id v w e d = absurd d

not_added_most : {R : Type 0} (firing : Raise R) (id now : ℕ) (level : Level)
    (when : When) (v w : CpuView R) (e : Refusal)
    → CpuChanges firing v (Add id level when now (Err e)) w → w.most ≡ v.most
not_added_most {R} firing id now level when v w BadNow d = ap (λ (x : CpuView R). x.most) d.2
not_added_most firing id now level when v w e d = d.2.kept.most

pub changes_most : {R : Type 0} (firing : Raise R) (v w : CpuView R) (call : CpuCall)
    → CpuChanges firing v call w → w.most ≡ v.most
changes_most firing v w (Add id level when now (Ok done)) (absent, early, a) = a.enters.kept.most ∙ a.widens.most
    ∙ a.reserves.most
changes_most firing v w (Add id level when now (Err e)) d = not_added_most firing id now level when v w e d
changes_most firing v w (Place id level interval moment carried) d = d.1.kept.most
changes_most {R} firing v w (Reprogram id moment (Ok done)) (k, c, here, named, still, is) = ap (λ (x : CpuView R). x.most) is
changes_most {R} firing v w (Reprogram id moment (Err e)) d = ap (λ (x : CpuView R). x.most) d.2
changes_most firing v w (AskPending id (Some n)) d = d.0.kept.most
changes_most {R} firing v w (AskPending id None) d = ap (λ (x : CpuView R). x.most) d.1
changes_most firing v w (AskTotals id (Some t)) d = d.0.kept.most
changes_most {R} firing v w (AskTotals id None) d = ap (λ (x : CpuView R). x.most) d.1
changes_most firing v w (AskRoom more (Ok done)) d = d.0.kept.most
changes_most firing v w (AskRoom more (Err e)) d = d.0.kept.most
changes_most firing v w (Reserve more (Ok done)) d = d.0.most
changes_most firing v w (Reserve more (Err e)) d = d.0.kept.most
changes_most firing v w (Widen more) d = d.1.most
changes_most firing v w (BeginRemove id (Ok (Done receipt))) (still, (c, counts, is, polled, l)) = l.most
changes_most firing v w (BeginRemove id (Ok (Kept kept))) d = d.1.most
changes_most {R} firing v w (BeginRemove id (Err e)) d = ap (λ (x : CpuView R). x.most) d.1
changes_most firing v w (PollRemove (Some receipt)) d = d.leaves.most
changes_most {R} firing v w (PollRemove None) (inl d) = ap (λ (x : CpuView R). x.most) d.1
changes_most firing v w (PollRemove None) (inr (id, is_open, d)) = d.kept.most
changes_most firing v w (TakeNow id (Ok taken)) (still, (c, counts, is, polled, l)) = l.most
changes_most firing v w (TakeNow id (Err e)) d = not_taken_most firing id v w e d
changes_most firing v w (AskSettled true) d = d.0.kept.most
changes_most firing v w (AskSettled false) d = d.0.kept.most
changes_most {R} firing v w Suspend d = ap (λ (x : CpuView R). x.most) d
changes_most {R} firing v w Resume d = ap (λ (x : CpuView R). x.most) d
changes_most firing v w (Fire now answer) d = absurd d
changes_most firing v w (SoftInterrupt level budget answer) d = absurd d

-- the call neither suspends the CPU nor resumes it
abbrev pub LeavesMark : CpuCall → Type 0
LeavesMark Suspend = ⊥
LeavesMark Resume = ⊥
LeavesMark call = Unit {0}

not_taken_suspended : {R : Type 0} (firing : Raise R) (id : ℕ) (v w : CpuView R)
    (e : Refusal) → WhyNotTaken firing id v e w → w.suspended ≡ v.suspended
not_taken_suspended {R} firing id v w why.NoCyclic d = ap (λ (x : CpuView R). x.suspended) d.1
not_taken_suspended {R} firing id v w (why.Busy removed) d = ap (λ (x : CpuView R). x.suspended) d.2
not_taken_suspended firing id v w why.Pending (still, some, n, more, a) = a.kept.suspended
not_taken_suspended firing id v w e d = absurd d

not_added_suspended : {R : Type 0} (firing : Raise R) (id now : ℕ) (level : Level)
    (when : When) (v w : CpuView R) (e : Refusal)
    → CpuChanges firing v (Add id level when now (Err e)) w → w.suspended ≡ v.suspended
not_added_suspended {R} firing id now level when v w BadNow d = ap (λ (x : CpuView R). x.suspended) d.2
not_added_suspended firing id now level when v w e d = d.2.kept.suspended

-- no other call changes whether it is suspended
pub changes_suspended : {R : Type 0} (firing : Raise R) (v w : CpuView R) (call : CpuCall) → LeavesMark call
    → CpuChanges firing v call w → w.suspended ≡ v.suspended
changes_suspended firing v w (Add id level when now (Ok done)) plain (absent, early, a) = a.enters.kept.suspended ∙
    a.widens.suspended
    ∙ a.reserves.suspended
changes_suspended firing v w (Add id level when now (Err e)) plain d = not_added_suspended firing id now level when v w e d
changes_suspended firing v w (Place id level interval moment carried) plain d = d.1.kept.suspended
changes_suspended {R} firing v w (Reprogram id moment (Ok done)) plain (k, c, here, named, still, is) = ap
    (λ (x : CpuView R). x.suspended) is
changes_suspended {R} firing v w (Reprogram id moment (Err e)) plain d = ap (λ (x : CpuView R). x.suspended) d.2
changes_suspended firing v w (AskPending id (Some n)) plain d = d.0.kept.suspended
changes_suspended {R} firing v w (AskPending id None) plain d = ap (λ (x : CpuView R). x.suspended) d.1
changes_suspended firing v w (AskTotals id (Some t)) plain d = d.0.kept.suspended
changes_suspended {R} firing v w (AskTotals id None) plain d = ap (λ (x : CpuView R). x.suspended) d.1
changes_suspended firing v w (AskRoom more (Ok done)) plain d = d.0.kept.suspended
changes_suspended firing v w (AskRoom more (Err e)) plain d = d.0.kept.suspended
changes_suspended firing v w (Reserve more (Ok done)) plain d = d.0.suspended
changes_suspended firing v w (Reserve more (Err e)) plain d = d.0.kept.suspended
changes_suspended firing v w (Widen more) plain d = d.1.suspended
changes_suspended firing v w (BeginRemove id (Ok (Done receipt))) plain (still, (c, counts, is, polled, l)) = l.suspended
changes_suspended firing v w (BeginRemove id (Ok (Kept kept))) plain d = d.1.suspended
changes_suspended {R} firing v w (BeginRemove id (Err e)) plain d = ap (λ (x : CpuView R). x.suspended) d.1
changes_suspended firing v w (PollRemove (Some receipt)) plain d = d.leaves.suspended
changes_suspended {R} firing v w (PollRemove None) plain (inl d) = ap (λ (x : CpuView R). x.suspended) d.1
changes_suspended firing v w (PollRemove None) plain (inr (id, is_open, d)) = d.kept.suspended
changes_suspended firing v w (TakeNow id (Ok taken)) plain (still, (c, counts, is, polled, l)) = l.suspended
changes_suspended firing v w (TakeNow id (Err e)) plain d = not_taken_suspended firing id v w e d
changes_suspended firing v w (AskSettled true) plain d = d.0.kept.suspended
changes_suspended firing v w (AskSettled false) plain d = d.0.kept.suspended
changes_suspended firing v w Suspend plain d = absurd plain
changes_suspended firing v w Resume plain d = absurd plain
changes_suspended firing v w (Fire now answer) plain d = absurd d
changes_suspended firing v w (SoftInterrupt level budget answer) plain d = absurd d

-- a fire leaves all but the cyclics and the ends
pub fire_keeps : {C R : Type 0} (handler : Calls C) (firing : Raise R)
    (interrupts : Soft → ℕ → Result Ran SoftRefused → Running C R → Running C R → Type 0) (now : ℕ) (s t : Running C R)
    (answer : Result Fired FireRefused)
    → CpuDoes handler firing interrupts s (Fire now answer) t → SameCpu s.cpu t.cpu
fire_keeps handler firing interrupts now s t (Ok r) d = d.1
fire_keeps handler firing interrupts now s t (Err e) (inl (late, is, same)) =
    subst (λ x. SameCpu s.cpu x.cpu) (sym same) (record {
      removal = refl;
      size = refl;
      room = refl;
      most = refl;
      suspended = refl;
    })
fire_keeps handler firing interrupts now s t (Err e) (inr d) = d.1
