-- A name that got no id is expected to expire never.
use Rattle.std.proofs.Common.{◌≡◌, ◌==◌, ℕ, inl, inr, Bool, true, false, cond, List, [], ◌∷◌, Option, Some, None, Result}
use Rattle.std.proofs.Common.{Ok, Err, refl, sym, ap, subst, arith}
use Rattle.std.specs.Prelude.{⊤}
use Rattle.std.specs.Result.{is_ok}
use Rattle.cyc_types.specs.declared.Calls.{Ghosts as Calls}
use Rattle.cyc_types.specs.declared.Raise.{Ghosts as Raise}
use Rattle.cyc_types.specs.declared.level.Level.{Level}
use Rattle.cyc_types.specs.declared.moment.When.{When}
use Rattle.cyc_types.specs.declared.refusal.Refusal.{Refusal}
use Rattle.cyc_threads.proofs.Spots.{none_some}
use Rattle.cyc_script.specs.declared.step.Step.{Step}
use Rattle.cyc_script.specs.declared.step.Step.TheVariants as steps
use Rattle.cyc_model.specs.Refusals.{magnitude}
use Rattle.cyc_model.specs.Omni.{everywhere}
use Rattle.cyc_expected.specs.Course.{Event, Begins, BeginsOnAll, IsSet, IsSetOn, Ends, Fires, Leaves, Returns, Passes}
use Rattle.cyc_expected.specs.Course.{Idle, Told, course_after, due_everywhere, course_at, with_component, component_begins_at}
use Rattle.cyc_expected.specs.Course.{told_after, told_by}
use Rattle.cyc_expected.specs.Expected.{course_events, reprogrammed}
use Rattle.cyc_threads.specs.Calls.{Add, AddOmni}
use Rattle.cyc_system_rings.specs.Leading.{Make}
use Rattle.cyc_threads.specs.declared.progress.Progress.{Progress}
use Rattle.cyc_threads.specs.Words.{DoesStep}
use Rattle.cyc_threads.specs.Steps.{TakesSteps}
use Rattle.cyc_thread_calls.specs.Leading.{call_of}
use Rattle.cyc_thread_calls.specs.Meeting.{was_accepted, steps_met}
use Rattle.cyc_thread_calls.specs.Giving.{given_by, later_id, introduces, id_in_steps}
use Rattle.cyc_thread_calls.proofs.Events.{event_met, clock_met, one_met}
use Rattle.cyc_thread_calls.proofs.Meets.{given}

-- it is not there, and has not expired
abbrev pub IsIdle : Told → Type 0
IsIdle t = (t.course ≡ Idle) × (t.expired ≡ 0)

-- the event doesn't add it
abbrev pub AddsNot : Event → Type 0
AddsNot (Begins start interval now) = ⊥
AddsNot (BeginsOnAll e now) = ⊥
AddsNot event = ⊤

stays_idle : (e : Event) (t : Told) → AddsNot e → IsIdle t → IsIdle (told_after e t)
stays_idle (Begins start interval now) t odd idle = absurd odd
stays_idle (BeginsOnAll e now) t odd idle = absurd odd
stays_idle (IsSet moment) t ok (course, none) = (ap (course_at moment) course, none)
stays_idle (IsSetOn n moment) t ok (course, none) = (ap (with_component n (λ e. Some moment)) course, none)
stays_idle Ends t ok (course, none) = (refl, none)
stays_idle (Fires now) t ok (course, none) =
    (ap (course_after now) course, (let d = ap (due_everywhere now) course in omega (arith, none, d)))
stays_idle (Leaves n) t ok (course, none) = (ap (with_component n (λ e. None)) course, none)
stays_idle (Returns n now) t ok (course, none) =
    (ap (with_component n (λ e. Some (component_begins_at n e now))) course, none)
stays_idle Passes t ok idle = idle

-- a step of which it is so in either case
adds_if : (b : Bool) (e : Event) → AddsNot e → AddsNot (cond b e Passes)
adds_if true e ok = ok
adds_if false e ok = tt

sets_only : (cpu : Option ℕ) (moment : ℕ) → AddsNot (reprogrammed cpu moment)
sets_only None moment = tt
sets_only (Some n) moment = tt

module _ {C R : Type 0} (handler : Calls C) (firing : Raise R) (k : ℕ) where
  neither_given : (a b : Option ℕ) → later_id a b ≡ None → (a ≡ None) × (b ≡ None)
  neither_given a None e = (e, refl)
  neither_given a (Some d) e = absurd (none_some (sym e))

  -- the answer of an add that gave the name no id
  not_added : (level : Level) (when : When) (now clock : ℕ) (answer : Result ℕ Refusal) (own : Bool) (e : Event)
      → cond own (given_by (Make (Add level when now answer))) None ≡ None
      → AddsNot (cond (is_ok answer) (cond own e Passes) Passes)
  not_added level when now clock (Ok d) true e is = absurd (none_some (sym is))
  not_added level when now clock (Ok d) false e is = tt
  not_added level when now clock (Err why) own e is = tt

  not_added_on_all : (level : Level) (when : When) (skew now clock : ℕ) (answer : Result ℕ Refusal) (own : Bool) (e : Event)
      → cond own (given_by (Make (AddOmni level when skew now answer))) None ≡ None
      → AddsNot (cond (is_ok answer) (cond own e Passes) Passes)
  not_added_on_all level when skew now clock (Ok d) true e is = absurd (none_some (sym is))
  not_added_on_all level when skew now clock (Ok d) false e is = tt
  not_added_on_all level when skew now clock (Err why) own e is = tt

  does_not_add : (i clock : ℕ) (x : Step) (s t : Progress R C) (d : DoesStep handler firing x s t)
      → cond (introduces k x) (given (call_of handler firing x s t d)) None ≡ None
      → AddsNot (event_met i k clock x (was_accepted handler firing x s t d))
  does_not_add i clock (steps.Add a) s t (inl (when, starts, lasts, long, (answer, did))) is =
      not_added a.level when s.clock clock answer (a.name == k) (Begins (magnitude a.start) (magnitude a.interval) clock) is
  does_not_add i clock (steps.Add a) s t (inr (bad, e)) is = tt
  does_not_add i clock (steps.Omni a) s t (inl (when, starts, lasts, long, (answer, did))) is =
      not_added_on_all a.level when a.skew s.clock clock answer (a.name == k) (BeginsOnAll (everywhere a) clock) is
  does_not_add i clock (steps.Omni a) s t (inr (bad, e)) is = tt
  does_not_add i clock (steps.Reprogram r) s t d is =
      adds_if _ (cond (r.name == k) (reprogrammed r.cpu (magnitude r.moment)) Passes)
      (adds_if (r.name == k) (reprogrammed r.cpu (magnitude r.moment)) (sets_only r.cpu (magnitude r.moment)))
  does_not_add i clock (steps.Remove name) s t d is =
      adds_if _ (cond (name == k) Ends Passes) (adds_if (name == k) Ends tt)
  does_not_add i clock (steps.Advance now) s t (inl d) is = tt
  does_not_add i clock (steps.Advance now) s t (inr d) is = tt
  does_not_add i clock (steps.Softint soft) s t d is = tt
  does_not_add i clock (steps.Offline n) s t d is = adds_if _ (Leaves n) tt
  does_not_add i clock (steps.Online n) s t d is = adds_if _ (Returns n clock) tt
  does_not_add i clock x s t d is = adds_if _ Passes tt

  pub all_idle : (s : Progress R C) (xs : List Step) (t : Progress R C) (takes : TakesSteps handler firing s xs
      t) → id_in_steps handler firing k s xs t takes ≡ None → (clock : ℕ) (told : Told) → IsIdle told
      → IsIdle (told_by (course_events k clock (steps_met handler firing s xs t takes)) told)
  all_idle s [] t takes is clock told idle = idle
  all_idle s (x ∷ xs) t (u, (v, begins, does), rest) is clock told idle =
      let (here, later) = neither_given
      (cond (introduces k x) (given (call_of handler firing x v u does)) None)
      (id_in_steps handler firing k u xs t rest) is in
      let b = was_accepted handler firing x v u does in
      let ms = steps_met handler firing u xs t rest in
      let one = stays_idle (event_met 0 k clock x b) told (does_not_add 0 clock x v u does here) idle in
      subst IsIdle (sym (one_met 0 k x b ms clock told))
      (all_idle u xs t rest later (clock_met 0 k clock x b) (told_after (event_met 0 k clock x b) told) one)
