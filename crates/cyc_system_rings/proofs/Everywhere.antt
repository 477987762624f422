-- What is told of an omnipresent cyclic is so after each call.
use Rattle.std.proofs.Common.{◌≡◌, ◌≢◌, ◌∙◌, ℕ, ◌+◌, Bool, true, Option, Some, None, Ok, Err}
use Rattle.std.proofs.Common.{List, refl, sym, ap, subst, arith}
use mathlib.Core.Logic.{dite}
use native.Mathlib.Decide.{ℕ_discrete}
use Rattle.cyc_types.specs.declared.Calls.{Ghosts as Calls}
use Rattle.cyc_types.specs.declared.Raise.{Ghosts as Raise}
use Rattle.cyc_types.specs.declared.level.Level.{Level}
use Rattle.cyc_types.specs.declared.moment.When.{When}
use Rattle.cyc_system_laws.proofs.Others.{begins_others, polls_others}
use Rattle.cyc_system_laws.specs.System.{SystemView, is_omnipresent}
use Rattle.cyc_system_laws.specs.Laws.{IsUntouched}
use Rattle.std.specs.Option.{option_map_or, option_map}
use Rattle.cyc_system_laws.specs.SystemRemoval.TheVariants.{Done, Kept}
use Rattle.cyc_system_laws.specs.SystemCalls.{SystemCall, Changes, Add, AddOmni, Bind, BeginRemove, PollRemove, AskTotals}
use Rattle.cyc_system_laws.specs.SystemCalls.{Suspend, Resume, Reprogram, ReprogramOn, Juggle, Offline, Online, FireOne}
use Rattle.cyc_system_laws.specs.SystemCalls.{SoftInterrupt}
use Rattle.cyc_expected.specs.Course.{Event, Begins, BeginsOnAll, IsSet, IsSetOn, Ends, OnEach, Told, told_after}
use Rattle.cyc_system_laws.proofs.Pieces.{made_of}
use Rattle.cyc_system_laws.specs.Sound.{IsSound}
use Rattle.cyc_system_laws.specs.Keeping.{EndsRemoval, TouchesRecord}
use Rattle.cyc_system_rings.specs.Leading.{Make}
use Rattle.cyc_system_laws.proofs.Lengths.{changes_long}
use Rattle.cyc_system_rings.specs.Events.{given_everywhere, if_own, event_in}
use Rattle.cyc_system_rings.proofs.Runs.{add_next, omni_next, refused_begin, refused_poll, others_pass, its_own}
use Rattle.cyc_system_rings.proofs.Components.{set_single}
use Rattle.cyc_system_rings.proofs.Beside.{IsPlain}
use Rattle.cyc_system_rings.proofs.Quiet.{quiet_begun}
use Rattle.cyc_system_rings.proofs.Spread.{IsSpread, Elsewhere, spread_omni, spread_kept, spread_set, spread_off, spread_on}
use Rattle.cyc_system_rings.proofs.Spread.{seen, series_of}
use Rattle.cyc_system_rings.proofs.Courses.{IsAt, poll_open}

module _ {C R : Type 0} (handler : Calls C)
    (firing : Raise R) (id : ℕ) (ups : List Bool) (x : ℕ) (level : Level)
    (when : When) (skew : ℕ) (ms : List (Option ℕ)) (s t : SystemView R) (a : IsSound firing.view s) (b : IsSound firing.view t)
    (h : IsSpread firing id when skew ms s) where
  abbrev each : Told
  each = record { online = ups; course = OnEach (given_everywhere level when skew) ms; expired = x }

  abbrev At : Told → Type 0
  At told = IsAt handler firing id t told

  spread_untouched : IsUntouched id s t → (call : SystemCall) → Changes firing s call t → IsSpread firing id when skew ms t
  spread_untouched u call d = record {
    here = λ n. ap (option_map seen) (u.cyclics n) ∙ h.here n;
    long = h.long ∙ sym (changes_long firing s t call d);
    series = ap (λ o. option_map_or series_of o None) u.own ∙ h.series;
    still = λ n e. h.still n (u.was_open n e);
    given = (let l = (made_of firing s t call d).last in let g = h.given in omega (arith, l, g));
  }

  as_it : IsSpread firing id when skew ms t → At each
  as_it k = (level, when, skew, refl, k)

  as_before : t ≡ s → At each
  as_before e = as_it (subst (λ (u : SystemView R). IsSpread firing id when skew ms u) (sym e) h)

  keeps : (call : SystemCall) → IsPlain call → Changes firing s call t → (TouchesRecord id call → ⊥)
      → ((m : ℕ) → Elsewhere firing id when skew ms s h m call) → At each
  keeps call plain d other away = as_it (spread_kept firing id when skew ms s h t call a plain d other away)

  of_other : (own : ℕ) (event : Event) → own ≢ id → At each → At (told_after (if_own own id event) each)
  of_other own event ne k = subst At (sym (others_pass handler firing id own event each ne)) k

  new_one : (own : ℕ) → own ≡ s.last + 1 → own ≢ id
  new_one own next same = (let g = h.given in absurd (omega (arith, g, next, same)))

  pub each_call : (call : SystemCall) → Changes firing s call t → (EndsRemoval id call → ⊥)
      → At (told_after (event_in id (Make call)) each)
  each_call (Add level' when' now (Ok own)) d ends =
      let ne = new_one own (add_next handler firing id level' when' now own s t d) in
      of_other own (Begins when'.start when'.interval now) ne (keeps (Add level' when' now (Ok own)) tt d ne (λ m. tt))
  each_call (Add level' when' now (Err why)) d ends = keeps (Add level' when' now (Err why)) tt d (λ x. x) (λ m. tt)
  each_call (AddOmni level' when' skew' now (Ok own)) d ends =
      let ne = new_one own (omni_next handler firing id level' when' skew' now own s t d) in
      of_other own (BeginsOnAll (given_everywhere level' when' skew') now) ne
      (keeps (AddOmni level' when' skew' now (Ok own)) tt d ne (λ m. tt))
  each_call (AddOmni level' when' skew' now (Err why)) d ends =
      keeps (AddOmni level' when' skew' now (Err why)) tt d (λ x. x) (λ m. tt)
  each_call (Bind own cpu answer) d ends = keeps (Bind own cpu answer) tt d (λ x. x) (λ m. tt)
  each_call (BeginRemove own (Ok (Done r))) d ends = of_other own Ends ends
      (as_it (spread_untouched (begins_others firing own id (Ok (Done r)) s t (λ e. ends (sym e)) d)
      (BeginRemove own (Ok (Done r))) d))
  each_call (BeginRemove own (Ok (Kept kept))) d ends = dite (ℕ_discrete own id)
      (λ e. subst At (sym (its_own handler firing id own Ends each e))
      (quiet_begun firing id kept s t a (subst (λ (j : ℕ). Changes firing s (BeginRemove j (Ok (Kept kept))) t) e d)))
      (λ ne. of_other own Ends ne
      (as_it (spread_untouched (begins_others firing own id (Ok (Kept kept)) s t (λ e. ne (sym e)) d)
      (BeginRemove own (Ok (Kept kept))) d)))
  each_call (BeginRemove own (Err why)) d ends =
      as_before (refused_begin handler firing id own why s t d)
  each_call (PollRemove own (Ok (Some r))) d ends =
      as_it (spread_untouched (polls_others firing own id (Ok (Some r)) s t (λ e. ends (sym e)) d)
      (PollRemove own (Ok (Some r))) d)
  each_call (PollRemove own (Ok None)) d ends = dite (ℕ_discrete own id)
      (λ e. absurd (poll_open handler firing id None s t
      (subst (λ (j : ℕ). Changes firing s (PollRemove j (Ok None)) t) e d) h.still))
      (λ ne. as_it (spread_untouched (polls_others firing own id (Ok None) s t (λ e. ne (sym e)) d)
      (PollRemove own (Ok None)) d))
  each_call (PollRemove own (Err why)) d ends = as_before (refused_poll handler firing id own why s t d)
  each_call (AskTotals own answer) d ends = keeps (AskTotals own answer) tt d (λ x. x) (λ m. tt)
  each_call (Suspend answer) d ends = keeps (Suspend answer) tt d (λ x. x) (λ m. tt)
  each_call (Resume answer) d ends = keeps (Resume answer) tt d (λ x. x) (λ m. tt)
  each_call (Reprogram own moment (Ok done)) d ends =
      let ne : own ≢ id = λ e. set_single handler firing id own moment s t d
      (subst (λ (j : ℕ). is_omnipresent j s ≡ true) (sym e) (spread_omni firing id when skew ms s h)) in
      of_other own (IsSet moment) ne (keeps (Reprogram own moment (Ok done)) tt d (λ x. x) (λ m. tt))
  each_call (Reprogram own moment (Err why)) d ends = keeps (Reprogram own moment (Err why)) tt d (λ x. x) (λ m. tt)
  each_call (ReprogramOn own n moment (Ok done)) d ends = dite (ℕ_discrete own id)
      (λ e. subst At (sym (its_own handler firing id own (IsSetOn n moment) each e)) (
        level,
        when,
        skew,
        refl,
        spread_set firing id n moment when skew ms s t a b
            (subst (λ (j : ℕ). Changes firing s (ReprogramOn j n moment (Ok tt)) t) e d) h,
      ))
      (λ ne. of_other own (IsSetOn n moment) ne
      (keeps (ReprogramOn own n moment (Ok done)) tt d (λ x. x) (λ m e. absurd (ne e))))
  each_call (ReprogramOn own n moment (Err why)) d ends =
      keeps (ReprogramOn own n moment (Err why)) tt d (λ x. x) (λ m. tt)
  each_call (Juggle n answer) d ends = keeps (Juggle n answer) tt d (λ x. x) (λ m. tt)
  each_call (Offline n (Ok done)) d ends = (level, when, skew, refl, spread_off firing id n when skew ms s t a b d h)
  each_call (Offline n (Err why)) d ends = keeps (Offline n (Err why)) tt d (λ x. x) (λ m. tt)
  each_call (Online n now (Ok done)) d ends = (level, when, skew, refl, spread_on firing id n now when skew ms s t a b d h)
  each_call (Online n now (Err why)) d ends = keeps (Online n now (Err why)) tt d (λ x. x) (λ m. tt)
  each_call (FireOne n now answer) d ends = absurd d
  each_call (SoftInterrupt n level' budget answer) d ends = absurd d
