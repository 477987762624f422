-- A whole run: what is told of an id is so at its end, or its receipt says it.
use Rattle.std.proofs.Common.{◌≡◌, ◌≢◌, ◌∙◌, ◌==◌, ℕ, suc, ◌+◌, ◌<◌, ◌≤◌, inl, inr, All, Bool, true, false, cond, Option, Some}
use Rattle.std.proofs.Common.{None, Ok, Err, List, [], ◌∷◌, length, refl, sym, ap, subst, arith}
use Rattle.std.specs.Prelude.{replicate, sum_by, not, is_some}
use Rattle.std.specs.List.{slice_get, FoldsTo}
use Rattle.std.specs.Option.{option_map_or}
use mathlib.Core.Logic.{dite}
use native.Mathlib.Decide.{ℕ_discrete}
use Rattle.cyc_types.specs.declared.Calls.{Ghosts as Calls}
use Rattle.cyc_types.specs.declared.Raise.{Ghosts as Raise}
use Rattle.cyc_types.specs.Series.{never}
use Rattle.cyc_types.specs.declared.firing.Sent.{Sent}
use Rattle.cyc_types.specs.declared.receipt.Receipt.{Receipt}
use Rattle.cyc_types.specs.declared.refusal.Refusal.{Refusal}
use Rattle.cyc_types.specs.declared.refusal.Refusal.TheVariants.{NoCyclic}
use Rattle.cyc_ring.specs.declared.ends.RaiseEnd.{RaiseEnd}
use Rattle.cyc_ring.specs.Ends.{end_view, raise_end}
use Rattle.cyc_model.specs.State.{Everywhere}
use Rattle.cyc_agreement.specs.Cpus.{new_cpu, new_cpus}
use Rattle.cyc_types.specs.Reasons.{when as if_so}
use Rattle.cyc_places.specs.declared.record.Record.{Record}
use Rattle.cyc_system_laws.proofs.Lists.{eq_true, true_eq}
use Rattle.cyc_system_laws.proofs.Recording.{found}
use Rattle.cyc_system_laws.proofs.Spots.{none_some, same_some}
use Rattle.cyc_system_laws.proofs.Sums.{sum_none, none_found}
use Rattle.cyc_system_laws.proofs.Where.{leaving_somewhere}
use Rattle.cyc_system_laws.specs.System.{SystemView, has, ids_of, removal_on, is_leaving, is_unknown, record_of}
use Rattle.cyc_system_laws.specs.Counts.{all_expired, all_lost}
use Rattle.cyc_system_laws.specs.Laws.{cyclic_in}
use Rattle.cyc_system_laws.specs.Polling.{not_leaving}
use Rattle.cyc_system_laws.specs.Removing.{unknown_cyclic}
use Rattle.cyc_system_laws.specs.SystemRemoval.TheVariants.{Done}
use Rattle.cyc_system_laws.specs.SystemCalls.{SystemCall, Changes, Add, AddOmni, Bind, BeginRemove, PollRemove, AskTotals}
use Rattle.cyc_system_laws.specs.SystemCalls.{Suspend, Resume, Reprogram, ReprogramOn, Juggle, Offline, Online, FireOne}
use Rattle.cyc_system_laws.specs.SystemCalls.{SoftInterrupt}
use Rattle.cyc_system_workers.specs.declared.side.SystemSide.{SystemSide}
use Rattle.cyc_system_workers.specs.declared.advancing.Advanced.{Advanced}
use Rattle.cyc_system_workers.specs.Advancing.{AllFire}
use Rattle.cyc_system_workers.specs.Settling.{OnlyAsked}
use Rattle.cyc_system_laws.proofs.Pieces.{made_of}
use Rattle.cyc_system_laws.proofs.Lists.{among}
use Rattle.cyc_expected.specs.Course.{
  due_everywhere,
  course_after,
  Event,
  Begins,
  BeginsOnAll,
  IsSet,
  IsSetOn,
  Ends,
  Fires,
  Leaves,
  Returns,
}
use Rattle.cyc_expected.specs.Course.{Passes, Course, Idle, Single, OnEach, Told, untold, told_after, told_by}
use Rattle.cyc_system_laws.specs.Sound.{IsSound}
use Rattle.cyc_system_laws.specs.Keeping.{EndsRemoval}
use Rattle.cyc_system_laws.proofs.Counts.{counts_same}
use Rattle.cyc_system_laws.proofs.Given.{no_counts_yet, receipt_all}
use Rattle.cyc_system_rings.specs.Leading.{LeadCall, Make, FireAll, AskAll}
use Rattle.cyc_system_rings.specs.Rings.{receipt_of, first_ring, receipt_in, counts_in}
use Rattle.cyc_system_rings.specs.Empty.{IsEmpty}
use Rattle.cyc_system_rings.specs.Events.{given_everywhere, if_own, event_in, events_in, AllAccepted, AcceptedSteps}
use Rattle.cyc_system_rings.specs.Events.{IsBeforeNever}
use Rattle.cyc_system_rings.proofs.Singles.{ok_err}
use Rattle.cyc_system_rings.proofs.Runs.{neither, not_so, add_next, omni_next, others_pass, its_own, fires_single, asks_single}
use Rattle.cyc_system_rings.proofs.Runs.{sound_after, step_ready}
use Rattle.cyc_system_rings.proofs.Beside.{online_of, online_after, found_at, has_same}
use Rattle.cyc_system_rings.proofs.Firing.{fired_removal, quiet_fired, quiet_counts, asked_cyclic, asked_removals, asked_counts}
use Rattle.cyc_system_rings.proofs.Spreading.{map_long, spread_fired, spread_counts, spread_asked}
use Rattle.cyc_system_rings.proofs.Courses.{IsOn, either, idle_call, single_call}
use Rattle.cyc_system_rings.proofs.Everywhere.{each_call}

-- what an event keeps where it begins no cyclic
abbrev BeginsNone : Event → Type 0
BeginsNone (Begins start interval now) = ⊥
BeginsNone (BeginsOnAll e now) = ⊥
BeginsNone event = Unit {0}

-- no reason, where the test says that it is one
not_if : (b : Bool) (why : Refusal) → if_so b why ≡ None → b ≡ false
not_if true why e = absurd (none_some (sym e))
not_if false why e = refl

module _ {C R : Type 0} (handler : Calls C) (firing : Raise R) (id : ℕ) where
  -- what is told of the id is so
  pub record Fits (told : Told) (s : SystemView R) : Type 0 where
    pub online : told.online ≡ s.cpus.online
    pub all : all_expired id s ≡ told.expired
    pub course : IsOn handler firing id told.course told.expired s

  abbrev On : Course → ℕ → SystemView R → Type 0
  On c expired s = IsOn handler firing id c expired s

  -- ---- a call

  online_made : (call : SystemCall) (told : Told)
      → (told_after (event_in id (Make call)) told).online ≡ online_of call told.online
  online_made (Add level when now (Ok own)) told =
      either (λ u. u.online ≡ told.online) (own == id) (Begins when.start when.interval now) told refl refl
  online_made (Add level when now (Err e)) told = refl
  online_made (AddOmni level when skew now (Ok own)) told = either (λ u. u.online ≡ told.online) (own == id)
      (BeginsOnAll (given_everywhere level when skew) now) told refl refl
  online_made (AddOmni level when skew now (Err e)) told = refl
  online_made (Bind own cpu answer) told = refl
  online_made (BeginRemove own (Ok removal)) told = either (λ u. u.online ≡ told.online) (own == id) Ends told refl refl
  online_made (BeginRemove own (Err e)) told = refl
  online_made (PollRemove own answer) told = refl
  online_made (AskTotals own answer) told = refl
  online_made (Suspend answer) told = refl
  online_made (Resume answer) told = refl
  online_made (Reprogram own moment (Ok done)) told =
      either (λ u. u.online ≡ told.online) (own == id) (IsSet moment) told refl refl
  online_made (Reprogram own moment (Err e)) told = refl
  online_made (ReprogramOn own n moment (Ok done)) told =
      either (λ u. u.online ≡ told.online) (own == id) (IsSetOn n moment) told refl refl
  online_made (ReprogramOn own n moment (Err e)) told = refl
  online_made (Juggle n answer) told = refl
  online_made (Offline n (Ok done)) told = refl
  online_made (Offline n (Err e)) told = refl
  online_made (Online n now (Ok done)) told = refl
  online_made (Online n now (Err e)) told = refl
  online_made (FireOne n now answer) told = refl
  online_made (SoftInterrupt n level budget answer) told = refl

  same_online : (call : SystemCall) (s t : SystemView R) (told : Told) → Changes firing s call t
      → told.online ≡ s.cpus.online → (told_after (event_in id (Make call)) told).online ≡ t.cpus.online
  same_online call s t told d e = online_made call told ∙ (ap (online_of call) e ∙ sym (online_after firing s t call d))

  expired_made : (call : SystemCall) (s t : SystemView R) (told : Told) → IsSound firing.view s → IsSound firing.view t
      → Changes firing s call t
      → all_expired id t ≡ all_expired id s → all_expired id s ≡ told.expired
      → all_expired id t ≡ (told_after (event_in id (Make call)) told).expired
  expired_made (Add level when now (Ok own)) s t told a b d same e = dite (ℕ_discrete own id)
      (λ is. same ∙ (no_counts_yet firing.view id s a
      (let next' = add_next handler firing id level when now own s t d in omega (arith, next', is))
      ∙ ap (λ (u : Told). u.expired)
      (sym (its_own handler firing id own (Begins when.start when.interval now) told is))))
      (λ ne. same ∙ (e ∙ ap (λ (u : Told). u.expired)
      (sym (others_pass handler firing id own (Begins when.start when.interval now) told ne))))
  expired_made (Add level when now (Err why)) s t told a b d same e = same ∙ e
  expired_made (AddOmni level when skew now (Ok own)) s t told a b d same e = dite (ℕ_discrete own id)
      (λ is. same ∙ (no_counts_yet firing.view id s a
      (let next' = omni_next handler firing id level when skew now own s t d in omega (arith, next', is))
      ∙ ap (λ (u : Told). u.expired)
      (sym (its_own handler firing id own (BeginsOnAll (given_everywhere level when skew) now) told is))))
      (λ ne. same ∙ (e ∙ ap (λ (u : Told). u.expired)
      (sym (others_pass handler firing id own (BeginsOnAll (given_everywhere level when skew) now) told ne))))
  expired_made (AddOmni level when skew now (Err why)) s t told a b d same e = same ∙ e
  expired_made (Bind own cpu answer) s t told a b d same e = same ∙ e
  expired_made (BeginRemove own (Ok removal)) s t told a b d same e =
      same ∙ (e ∙ sym (either (λ u. u.expired ≡ told.expired) (own == id) Ends told refl refl))
  expired_made (BeginRemove own (Err why)) s t told a b d same e = same ∙ e
  expired_made (PollRemove own answer) s t told a b d same e = same ∙ e
  expired_made (AskTotals own answer) s t told a b d same e = same ∙ e
  expired_made (Suspend answer) s t told a b d same e = same ∙ e
  expired_made (Resume answer) s t told a b d same e = same ∙ e
  expired_made (Reprogram own moment (Ok done)) s t told a b d same e =
      same ∙ (e ∙ sym (either (λ u. u.expired ≡ told.expired) (own == id) (IsSet moment) told refl refl))
  expired_made (Reprogram own moment (Err why)) s t told a b d same e = same ∙ e
  expired_made (ReprogramOn own n moment (Ok done)) s t told a b d same e =
      same ∙ (e ∙ sym (either (λ u. u.expired ≡ told.expired) (own == id) (IsSetOn n moment) told refl refl))
  expired_made (ReprogramOn own n moment (Err why)) s t told a b d same e = same ∙ e
  expired_made (Juggle n answer) s t told a b d same e = same ∙ e
  expired_made (Offline n (Ok done)) s t told a b d same e = same ∙ e
  expired_made (Offline n (Err why)) s t told a b d same e = same ∙ e
  expired_made (Online n now (Ok done)) s t told a b d same e = same ∙ e
  expired_made (Online n now (Err why)) s t told a b d same e = same ∙ e
  expired_made (FireOne n now answer) s t told a b d same e = absurd d
  expired_made (SoftInterrupt n level budget answer) s t told a b d same e = absurd d

  course_made : (ups : List Bool) (c : Course) (x : ℕ) (call : SystemCall) (s t : SystemView R) → IsSound firing.view s
      → IsSound firing.view t
      → Changes firing s call t → (EndsRemoval id call → ⊥) → ups ≡ s.cpus.online → On c x s
      → (let u = told_after (event_in id (Make call)) (record { online = ups; course = c; expired = x }) in
      On u.course u.expired t)
  course_made ups Idle x call s t a b d ends same quiet =
      idle_call handler firing id ups x s t call a b d ends same quiet
  course_made ups (Single moment interval) x call s t a b d ends same (h, still) =
      single_call handler firing id ups x moment interval s t a b h still call d ends
  course_made ups (OnEach e ms) x call s t a b d ends same (level, when, skew, is, h) =
      subst (λ (o : Everywhere).
      (let u = told_after (event_in id (Make call)) (record { online = ups; course = OnEach o ms; expired = x }) in
      On u.course u.expired t)) (sym is)
      (each_call handler firing id ups x level when skew ms s t a b h call d ends)

  fits_made : (call : SystemCall) (s t : SystemView R) (told : Told) → IsSound firing.view s → IsSound firing.view t
      → Changes firing s call t → (EndsRemoval id call → ⊥) → Fits told s
      → Fits (told_after (event_in id (Make call)) told) t
  fits_made call s t told a b d ends h = record {
    online = same_online call s t told d h.online;
    all = expired_made call s t told a b d
        (counts_same firing (λ (c : Sent). c.sent) refl (λ x y. refl) id s t call a b d ends) h.all;
    course = course_made told.online told.course told.expired call s t a b d ends h.online h.course;
  }

  -- ---- an advance, and a question

  course_fired : (now : ℕ) (c : Course) (x : ℕ) (s : SystemSide R C) (b : Advanced R C) → IsSound firing.view s.system
      → IsSound firing.view b.side.system → length s.leads.items ≡ length s.system.cpus.cpus
      → AllFire handler firing now s b → AllAccepted b → now < never → all_expired id s.system ≡ x
      → On c x s.system
      → (all_expired id b.side.system ≡ x + due_everywhere now c)
      × On (course_after now c) (x + due_everywhere now c) b.side.system
  course_fired now Idle x s b a after ready f accepted early e quiet = (
    (let same = quiet_counts handler firing id now s b a ready f accepted early quiet after in
        omega (arith, same, e)),
    quiet_fired handler firing id now s b a ready f accepted quiet,
  )
  course_fired now (Single moment interval) x s b a after ready f accepted early e (h, still) =
      let fires = fires_single handler firing id now moment interval x s b a after ready f accepted h in (
        fires.all,
        (
          fires,
          λ n open_there. still n
              (sym (fired_removal handler firing id now s b a ready f accepted n) ∙ open_there),
        ),
      )
  course_fired now (OnEach o ms) x s b a after ready f accepted early e (level, when, skew, is, h) =
      subst (λ (o : Everywhere). (all_expired id b.side.system ≡ x + due_everywhere now (OnEach o ms))
      × On (course_after now (OnEach o ms)) (x + due_everywhere now (OnEach o ms)) b.side.system) (sym is) (
        spread_counts handler firing id now s b a after ready f accepted when skew ms h
            ∙ ap (λ (y : ℕ). y + due_everywhere now (OnEach (given_everywhere level when skew) ms)) e,
        (
          level,
          when,
          skew,
          refl,
          spread_fired handler firing id now s b a after ready f accepted when skew ms h,
        ),
      )

  course_asked : (c : Course) (x : ℕ) (s t : SystemSide R C) → IsSound firing.view s.system → IsSound firing.view t.system
      → OnlyAsked firing s t → On c x s.system → On c x t.system
  course_asked Idle x s t a b asked quiet = λ n h. asked_removals handler firing id s t asked n
      ∙ quiet n (sym (has_same n id s.system.cpus t.system.cpus
      (asked_cyclic handler firing id s t asked n)) ∙ h)
  course_asked (Single moment interval) x s t a b asked (h, still) = (
    asks_single handler firing id moment interval x s t a b asked h,
    λ n e. still n (sym (asked_removals handler firing id s t asked n) ∙ e),
  )
  course_asked (OnEach o ms) x s t a b asked (level, when, skew, is, h) =
      (level, when, skew, is, spread_asked handler firing id when skew ms s t asked h)

  abbrev pub D : SystemSide R C → LeadCall → SystemSide R C → Type 0
  D = AcceptedSteps handler firing

  -- the call answers the removal of the id with no receipt
  ends_not : (call : SystemCall) → receipt_of id (Make call) ≡ None → EndsRemoval id call → ⊥
  ends_not (BeginRemove own (Ok (Done receipt))) e is =
      none_some (sym e ∙ ap (λ (b : Bool). cond b (Some receipt) None) (true_eq own id is))
  ends_not (PollRemove own (Ok (Some receipt))) e is =
      none_some (sym e ∙ ap (λ (b : Bool). cond b (Some receipt) None) (true_eq own id is))
  ends_not call e is = absurd is

  fits_step : (call : LeadCall) (s t : SystemSide R C) (told : Told) → IsSound firing.view s.system
      → length s.leads.items ≡ length s.system.cpus.cpus → D s call t → IsBeforeNever call → receipt_of id call ≡ None
      → Fits told s.system → Fits (told_after (event_in id call) told) t.system
  fits_step (Make call) s t told a ready ((d, e), b) early none h =
      fits_made call s.system t.system told a b d (ends_not call none) h
  fits_step (FireAll now) s t told a ready (after, fires, accepted, same, b) early none h =
      subst (λ (u : SystemSide R C). Fits (told_after (Fires now) told) u.system) (sym same)
      (let c = course_fired now told.course told.expired s after a
      (subst (λ (u : SystemSide R C). IsSound firing.view u.system) same b) ready fires accepted early h.all h.course in record {
        online = h.online ∙ sym fires.online;
        all = c.0;
        course = c.1;
      })
  fits_step AskAll s t told a ready (asked, b) early none h = record {
    online = h.online ∙ sym asked.online;
    all = asked_counts handler firing id s t asked a b ∙ h.all;
    course = course_asked told.course told.expired s t a b asked h.course;
  }

  -- ---- after its receipt

  idle_after : (event : Event) (told : Told) → BeginsNone event → told.course ≡ Idle
      → ((told_after event told).course ≡ Idle) × ((told_after event told).expired ≡ told.expired)
  idle_after (Begins start interval now) told none is = absurd none
  idle_after (BeginsOnAll e now) told none is = absurd none
  idle_after (IsSet moment) told none is = (ap (λ c. (told_after (IsSet moment) (record told { course = c })).course) is, refl)
  idle_after (IsSetOn n moment) told none is =
      (ap (λ c. (told_after (IsSetOn n moment) (record told { course = c })).course) is, refl)
  idle_after Ends told none is = (refl, refl)
  idle_after (Fires now) told none is = (
    ap (course_after now) is,
    (let z = ap (due_everywhere now) is in omega (arith, z)),
  )
  idle_after (Leaves n) told none is = (ap (λ c. (told_after (Leaves n) (record told { course = c })).course) is, refl)
  idle_after (Returns n now) told none is = (ap (λ c. (told_after (Returns n now) (record told { course = c })).course) is, refl)
  idle_after Passes told none is = (is, refl)

  none_if : (own : ℕ) (event : Event) → own ≢ id → BeginsNone (if_own own id event)
  none_if own event ne = by (own == id) refl
    where
      by : (b : Bool) → (own == id) ≡ b → BeginsNone (cond b event Passes)
      by true is = absurd (ne (eq_true own id is))
      by false is = tt

  begins_none : (call : LeadCall) (s t : SystemSide R C) → D s call t → id ≤ s.system.last → BeginsNone (event_in id call)
  begins_none (FireAll now) s t d low = tt
  begins_none AskAll s t d low = tt
  begins_none (Make (Add level when now (Ok own))) s t ((d, e), b) low = none_if own (Begins when.start when.interval now)
      (λ is. (let next' = add_next handler firing id level when now own s.system t.system d in
      absurd (omega (arith, next', is, low))))
  begins_none (Make (AddOmni level when skew now (Ok own))) s t ((d, e), b) low =
      none_if own (BeginsOnAll (given_everywhere level when skew) now)
      (λ is. (let next' = omni_next handler firing id level when skew now own s.system t.system d in
      absurd (omega (arith, next', is, low))))
  begins_none (Make (BeginRemove own (Ok removal))) s t d low = by (own == id)
    where
      by : (b : Bool) → BeginsNone (cond b Ends Passes)
      by true = tt
      by false = tt
  begins_none (Make (Reprogram own moment (Ok done))) s t d low = by (own == id)
    where
      by : (b : Bool) → BeginsNone (cond b (IsSet moment) Passes)
      by true = tt
      by false = tt
  begins_none (Make (ReprogramOn own n moment (Ok done))) s t d low = by (own == id)
    where
      by : (b : Bool) → BeginsNone (cond b (IsSetOn n moment) Passes)
      by true = tt
      by false = tt
  begins_none (Make (Offline n (Ok done))) s t d low = tt
  begins_none (Make (Offline n (Err e))) s t d low = tt
  begins_none (Make (Online n now (Ok done))) s t d low = tt
  begins_none (Make (Online n now (Err e))) s t d low = tt
  begins_none (Make (Add level when now (Err e))) s t d low = tt
  begins_none (Make (AddOmni level when skew now (Err e))) s t d low = tt
  begins_none (Make (BeginRemove own (Err e))) s t d low = tt
  begins_none (Make (Reprogram own moment (Err e))) s t d low = tt
  begins_none (Make (ReprogramOn own n moment (Err e))) s t d low = tt
  begins_none (Make call) s t d low = tt

  last_rises : (call : LeadCall) (s t : SystemSide R C) → D s call t → s.system.last ≤ t.system.last
  last_rises (Make call) s t ((d, e), b) = (made_of firing s.system t.system call d).last
  last_rises (FireAll now) s t (after, fires, accepted, same, b) =
      let a = fires.last in let c = ap (λ (u : SystemSide R C). u.system.last) same in omega (arith, a, c)
  last_rises AskAll s t (asked, b) = let a = asked.last in omega (arith, a)

  over_run : (way : List LeadCall) (s t : SystemSide R C) (told : Told) → FoldsTo D s way t → id ≤ s.system.last
      → told.course ≡ Idle → (told_by (events_in id way) told).expired ≡ told.expired
  over_run [] s t told run low is = refl
  over_run (call ∷ way) s t told (u, d, rest) low is =
      let (still, same) = idle_after (event_in id call) told (begins_none call s u d low) is in
      over_run way u t (told_after (event_in id call) told) rest (let l = last_rises call s u d in omega (arith, l, low)) still
      ∙ same

  -- ---- its receipt

  -- what the call that answers with it leaves
  record Receives (call : LeadCall) (r : Receipt) (told : Told) (s u : SystemSide R C) : Type 0 where
    pub sent : r.sent ≡ all_expired id s.system
    pub course : (told_after (event_in id call) told).course ≡ Idle
    pub expired : (told_after (event_in id call) told).expired ≡ told.expired
    pub given : id ≤ u.system.last

  not_idle : (c : Course) (x n : ℕ) (s : SystemView R) → On c x s → removal_on n s.cpus ≡ Some id → c ≡ Idle
  not_idle Idle x n s h e = refl
  not_idle (Single moment interval) x n s (h, still) e = absurd (still n e)
  not_idle (OnEach o ms) x n s (level, when, skew, is, h) e = absurd (h.still n e)

  own_receipt : (own : ℕ) (receipt r : Receipt) → cond (own == id) (Some receipt) None ≡ Some r → (own ≡ id) × (receipt ≡ r)
  own_receipt own receipt r e = by (own == id) refl e
    where
      by : (b : Bool) → (own == id) ≡ b → cond b (Some receipt) None ≡ Some r → (own ≡ id) × (receipt ≡ r)
      by true is e = (eq_true own id is, same_some e)
      by false is e = absurd (none_some e)

  known_low : (s : SystemView R) → IsSound firing.view s → is_unknown id s ≡ false → id ≤ s.last
  known_low s a known = by (record_of id s) refl
    where
      by : (o : Option Record) → record_of id s ≡ o → id ≤ s.last
      by None e = absurd (let odd : true ≡ false = sym (ap (λ o. not (is_some o)) e) ∙ known in cc)
      by (Some r) e = (let (k, is, named) = found_at id s.records r e in let low = a.agrees.given k r is in
          omega (arith, low, named))

  begin_low : (receipt : Receipt) (s t : SystemView R) → IsSound firing.view s
      → Changes firing s (BeginRemove id (Ok (Done receipt))) t → id ≤ s.last
  begin_low receipt s t a (inl (e, why, is, same)) = absurd (ok_err is)
  begin_low receipt s t a (inr (clear, rest)) =
      known_low s a (not_if (is_unknown id s) NoCyclic (neither (unknown_cyclic id s) _ clear).0)

  poll_there : (answer : Option Receipt) (s t : SystemView R) → IsSound firing.view s
      → Changes firing s (PollRemove id (Ok answer)) t → (n : ℕ) × (has n id s.cpus ≡ true) × (removal_on n s.cpus ≡ Some id)
  poll_there answer s t a (inl (e, why, is, same)) = absurd (ok_err is)
  poll_there answer s t a (inr (clear, rest)) = leaving_somewhere id s.cpus firing.view a.lawful
      (not_so (is_leaving id s) NoCyclic (neither (not_leaving id s) None clear).0)

  receives : (call : LeadCall) (r : Receipt) (told : Told) (s u : SystemSide R C) → IsSound firing.view s.system → D s call u
      → Fits told s.system → receipt_of id call ≡ Some r → Receives call r told s u
  receives (Make (BeginRemove own (Ok (Done receipt)))) r told s u a ((d, e), b) h is =
      let (named, same) = own_receipt own receipt r is in
      let d' = subst (λ (j : ℕ). Changes firing s.system (BeginRemove j (Ok (Done receipt))) u.system) named d in
      let ends = its_own handler firing id own Ends told named in record {
        sent = sym (ap (λ (x : Receipt). x.sent) same) ∙ (receipt_all firing id receipt s.system u.system a (inl d')).0;
        course = ap (λ (x : Told). x.course) ends;
        expired = ap (λ (x : Told). x.expired) ends;
        given = (let low = begin_low receipt s.system u.system a d' in
            let l = (made_of firing s.system u.system (BeginRemove id (Ok (Done receipt))) d').last in omega (arith, low, l));
      }
  receives (Make (PollRemove own (Ok (Some receipt)))) r told s u a ((d, e), b) h is =
      let (named, same) = own_receipt own receipt r is in
      let d' = subst (λ (j : ℕ). Changes firing s.system (PollRemove j (Ok (Some receipt))) u.system) named d in
      let (n, there, open_there) = poll_there (Some receipt) s.system u.system a d' in record {
        sent = sym (ap (λ (x : Receipt). x.sent) same) ∙ (receipt_all firing id receipt s.system u.system a (inr d')).0;
        course = not_idle told.course told.expired n s.system h.course open_there;
        expired = refl;
        given =
            let (k, q, at, own_id, stands, up) = a.agrees.known n id there in let low = a.agrees.given k q at in
            let l = (made_of firing s.system u.system (PollRemove id (Ok (Some receipt))) d').last in
            omega (arith, low, l, own_id);
      }
  receives call r told s u a d h is = absurd (none_some is)

  -- ---- all of it

  pub run_sent : (way : List LeadCall) (s t : SystemSide R C) (told : Told) → IsSound firing.view s.system
      → length s.leads.items ≡ length s.system.cpus.cpus → FoldsTo D s way t → All IsBeforeNever way → Fits told s.system
      → option_map_or (λ (r : Receipt). r.sent) (receipt_in id way) (all_expired id t.system)
      ≡ (told_by (events_in id way) told).expired
  run_sent [] s t told a ready run early h = ap (λ (u : SystemSide R C). all_expired id u.system) (sym run) ∙ h.all
  run_sent (call ∷ way) s t told a ready (u, d, rest) early h = by (receipt_of id call) refl
      (λ none. run_sent way u t (told_after (event_in id call) told)
      (sound_after handler firing id s u call d)
      (step_ready handler firing id s u call d ready) rest (λ k e low. early (suc k) e (omega (arith, low)))
      (fits_step call s u told a ready d (early 0 call (omega arith)) none h))
    where
      by : (o : Option Receipt) → receipt_of id call ≡ o
          → (receipt_of id call ≡ None
          → option_map_or (λ (r : Receipt). r.sent) (receipt_in id way) (all_expired id t.system)
          ≡ (told_by (events_in id way) (told_after (event_in id call) told)).expired)
          → option_map_or (λ (r : Receipt). r.sent) (first_ring (receipt_of id call) (receipt_in id way)) (all_expired id
          t.system)
          ≡ (told_by (events_in id way) (told_after (event_in id call) told)).expired
      by None is more =
          ap (λ o. option_map_or (λ (r : Receipt). r.sent) (first_ring o (receipt_in id way)) (all_expired id t.system)) is
          ∙ more is
      by (Some r) is more = (let x = receives call r told s u a d h is in
          ap (λ o. option_map_or (λ (r : Receipt). r.sent) (first_ring o (receipt_in id way)) (all_expired id t.system)) is
          ∙ (x.sent ∙ (h.all ∙ sym (over_run way u t (told_after (event_in id call) told) rest x.given x.course ∙ x.expired))))

  -- ---- from nothing

  not_had : (s : SystemView R) → IsSound firing.view s → s.records ≡ [] → (n : ℕ) (b : Bool) → has n id s.cpus ≡ b → b ≡ false
  not_had s a empty n false e = refl
  not_had s a empty n true e = (let (k, r, is, named, stands, up) = a.agrees.known n id e in
      absurd (none_some (sym (ap (λ rs. slice_get rs k) empty) ∙ is)))

  pub fits_first : (s : SystemView R) → IsSound firing.view s → IsEmpty s → Fits (untold (length s.cpus.cpus)) s
  fits_first s a empty = record {
    online = sym empty.online;
    all =
        let x = sum_none (λ cpu. option_map_or (λ c. c.timer.expired) (cyclic_in id cpu) 0) s.cpus.cpus
        (λ n cpu at. ap (λ o. option_map_or (λ c. c.timer.expired) o 0) (none_found cpu.cyclics id
        (sym (ap (λ o. among id (option_map_or ids_of o [])) at) ∙ not_had s a empty.records n (has n id s.cpus) refl))) in
        let y = ap (λ rs. option_map_or (λ r. sum_by (λ e. e.sent) r.ended) (found id rs) 0) empty.records in
        omega (arith, x, y);
    course = λ n h. absurd (let odd : true ≡ false = not_had s a empty.records n true h in cc);
  }

-- the counts of a run, by its receipt
sent_of : (o : Option Receipt) (sent lost : ℕ)
    → (option_map_or (λ (r : Receipt). let c : Sent = record { sent = r.sent; lost = r.lost } in c) o
    (record { sent = sent; lost = lost })).sent
    ≡ option_map_or (λ (r : Receipt). r.sent) o sent
sent_of None sent lost = refl
sent_of (Some r) sent lost = refl

pub whole_run : {C : Type 0} (handler : Calls C) (id : ℕ) (s t : SystemSide RaiseEnd C) (way : List LeadCall)
    → FoldsTo (AcceptedSteps handler raise_end) s way t → IsSound end_view s.system
    → length s.leads.items ≡ length s.system.cpus.cpus → All IsBeforeNever way → IsEmpty s.system
    → (counts_in id way t.system).sent ≡ (told_by (events_in id way) (untold (length s.system.cpus.cpus))).expired
whole_run handler id s t way run a ready early empty =
    sent_of (receipt_in id way) (all_expired id t.system) (all_lost id t.system)
    ∙ run_sent handler raise_end id way s t (untold (length s.system.cpus.cpus)) a ready run early
    (fits_first handler raise_end id s.system a empty)

pub empty_new : {R : Type 0} (most : ℕ) (ends : List (R × R)) (s : SystemView R) → s.cpus ≡ new_cpus most ends → s.records ≡ []
    → IsEmpty s
empty_new most ends s cpus records = record {
  records = records;
  online = ap (λ v. v.online) cpus ∙ sym (ap (λ v. replicate (length v.cpus) true) cpus
      ∙ ap (λ (n : ℕ). replicate n true) (map_long (λ e. new_cpu most e.0 e.1) ends));
}
