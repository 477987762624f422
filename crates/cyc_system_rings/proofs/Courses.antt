-- What is told of an id is so of a system, after each call as before it.
use Rattle.std.proofs.Common.{◌≡◌, ◌≢◌, ◌∙◌, ◌==◌, ℕ, inl, inr, Bool, true, false, cond, Option, Some, None}
use Rattle.std.proofs.Common.{Ok, Err, List, refl, sym, subst, arith}
use mathlib.Core.Logic.{dite}
use native.Mathlib.Decide.{ℕ_discrete}
use Rattle.cyc_types.specs.declared.Calls.{Ghosts as Calls}
use Rattle.cyc_types.specs.declared.Raise.{Ghosts as Raise}
use Rattle.cyc_types.specs.Series.{first}
use Rattle.cyc_types.specs.declared.level.Level.{Level}
use Rattle.cyc_types.specs.declared.moment.When.{When}
use Rattle.cyc_types.specs.declared.receipt.Receipt.{Receipt}
use Rattle.cyc_types.specs.declared.refusal.Refusal.TheVariants.{NoCyclic}
use Rattle.cyc_system_laws.proofs.Others.{begins_others, polls_others}
use Rattle.cyc_system_laws.proofs.Where.{open_somewhere}
use Rattle.cyc_system_laws.specs.System.{SystemView, removal_on, is_leaving}
use Rattle.cyc_system_laws.specs.Laws.{IsUntouched}
use Rattle.cyc_system_laws.specs.Polling.{PollsRemoval, not_leaving}
use Rattle.cyc_system_laws.specs.SystemRemoval.TheVariants.{Done, Kept}
use Rattle.cyc_system_laws.specs.SystemCalls.{SystemCall, Changes, Add, AddOmni, Bind, BeginRemove, PollRemove, AskTotals}
use Rattle.cyc_system_laws.specs.SystemCalls.{Suspend, Resume, Reprogram, ReprogramOn, Juggle, Offline, Online, FireOne}
use Rattle.cyc_system_laws.specs.SystemCalls.{SoftInterrupt}
use Rattle.cyc_expected.specs.Course.{components_from, Event, Begins, BeginsOnAll, IsSet, IsSetOn, Ends, Passes}
use Rattle.cyc_expected.specs.Course.{Course, Idle, Single, OnEach, Told, told_after}
use Rattle.cyc_system_laws.specs.Sound.{IsSound}
use Rattle.cyc_system_laws.specs.Keeping.{EndsRemoval}
use Rattle.cyc_system_rings.specs.Leading.{Make}
use Rattle.cyc_system_rings.specs.Events.{given_everywhere, event_in, KeepsIt}
use Rattle.cyc_system_rings.proofs.Singles.{ok_err, IsSingle, single_added}
use Rattle.cyc_system_rings.proofs.Runs.{IsTold, make_told, neither, not_so, add_next, refused_begin, refused_poll}
use Rattle.cyc_system_rings.proofs.Runs.{others_pass, its_own}
use Rattle.cyc_system_rings.proofs.Beside.{IsPlain, removals_same}
use Rattle.cyc_system_rings.proofs.Quiet.{IsQuiet, quiet_plain, quiet_untouched, quiet_begun, quiet_polled}
use Rattle.cyc_system_rings.proofs.Spread.{IsSpread, spread_added, new_still}

-- what is so after an event of the id or of another
pub either : (P : Told → Type 0) (b : Bool) (event : Event) (told : Told) → P (told_after event told) → P told
    → P (told_after (cond b event Passes) told)
either P true event told own other = own
either P false event told own other = other

module _ {C R : Type 0} (handler : Calls C) (firing : Raise R) (id : ℕ) where
  -- no removal of it is open
  abbrev pub IsStill : SystemView R → Type 0
  IsStill s = (n : ℕ) → removal_on n s.cpus ≢ Some id

  -- what is so of the id on this course, which has expired so often
  abbrev pub IsOn : Course → ℕ → SystemView R → Type 0
  IsOn Idle expired s = IsQuiet firing id s
  IsOn (Single moment interval) expired s = IsSingle firing id moment interval expired s × IsStill s
  IsOn (OnEach e ms) expired s = (level : Level) × (when : When) × (skew : ℕ) × (e ≡ given_everywhere level when skew)
      × IsSpread firing id when skew ms s

  abbrev pub IsAt : SystemView R → Told → Type 0
  IsAt s told = IsOn told.course told.expired s

  -- ---- it is idle

  abbrev idle : List Bool → ℕ → Told
  idle ups expired = record { online = ups; course = Idle; expired = expired }

  begins_single : (level : Level) (when : When) (now : ℕ) (s t : SystemView R) (ups : List Bool) → IsSound firing.view s
      → IsSound firing.view t → Changes firing s (Add level when now (Ok id)) t
      → IsAt t (record { online = ups; course = Single (first when.start when.interval now) when.interval; expired = 0 })
  begins_single level when now s t ups a b d = (
    single_added firing id level when now s t a b d,
    new_still firing id s t (Add level when now (Ok id)) a tt d
        (let next = add_next handler firing id level when now id s t d in omega (arith, next)),
  )

  begins_on_each : (level : Level) (when : When) (skew now : ℕ) (s t : SystemView R) (ups : List Bool) → IsSound firing.view s
      → IsSound firing.view t → ups ≡ s.cpus.online → Changes firing s (AddOmni level when skew now (Ok id)) t
      → IsOn (OnEach (given_everywhere level when skew) (components_from 0 (given_everywhere level when skew) now ups)) 0 t
  begins_on_each level when skew now s t ups a b same d = (
    level,
    when,
    skew,
    refl,
    subst (λ (o : List Bool). IsSpread firing id when skew (components_from 0 (given_everywhere level when skew) now o) t)
        (sym same) (spread_added firing id level when skew now s t a b d),
  )

  -- the removal of an id is asked for where one is open
  pub poll_open : (answer : Option Receipt) (s t : SystemView R) → PollsRemoval firing id (Ok answer) s t → IsStill s → ⊥
  poll_open answer s t (inl (e, why, is, same)) still = ok_err is
  poll_open answer s t (inr (clear, rest)) still =
      let leaving = not_so (is_leaving id s) NoCyclic (neither (not_leaving id s) None clear).0 in
      let (n, x, at, there, own) = open_somewhere id s.cpus leaving in still n there

  idle_same : (s t : SystemView R) → t ≡ s → IsQuiet firing id s → IsQuiet firing id t
  idle_same s t e quiet = subst (λ (u : SystemView R). IsQuiet firing id u) (sym e) quiet

  pub idle_call : (ups : List Bool) (x : ℕ) (s t : SystemView R) (call : SystemCall) → IsSound firing.view s
      → IsSound firing.view t
      → Changes firing s call t → (EndsRemoval id call → ⊥) → ups ≡ s.cpus.online → IsQuiet firing id s
      → IsAt t (told_after (event_in id (Make call)) (idle ups x))
  idle_call ups x s t (Add level when now (Ok own)) a b d ends same quiet = dite (ℕ_discrete own id)
      (λ e. subst (IsAt t) (sym (its_own handler firing id own (Begins when.start when.interval now)
      (idle ups x) e))
      (begins_single level when now s t ups a b (subst (λ (j : ℕ). Changes firing s (Add level when now (Ok j)) t) e d)))
      (λ ne. subst (IsAt t) (sym (others_pass handler firing id own (Begins when.start when.interval now)
      (idle ups x) ne)) (quiet_plain firing id s t (Add level when now (Ok own)) a tt d ne quiet))
  idle_call ups x s t (Add level when now (Err why)) a b d ends same quiet =
      quiet_plain firing id s t (Add level when now (Err why)) a tt d (λ x. x) quiet
  idle_call ups x s t (AddOmni level when skew now (Ok own)) a b d ends same quiet = dite (ℕ_discrete own id)
      (λ e. subst (IsAt t) (sym (its_own handler firing id own
      (BeginsOnAll (given_everywhere level when skew) now) (idle ups x) e))
      (begins_on_each level when skew now s t ups a b same
      (subst (λ (j : ℕ). Changes firing s (AddOmni level when skew now (Ok j)) t) e d)))
      (λ ne. subst (IsAt t) (sym (others_pass handler firing id own
      (BeginsOnAll (given_everywhere level when skew) now) (idle ups x) ne))
      (quiet_plain firing id s t (AddOmni level when skew now (Ok own)) a tt d ne quiet))
  idle_call ups x s t (AddOmni level when skew now (Err why)) a b d ends same quiet =
      quiet_plain firing id s t (AddOmni level when skew now (Err why)) a tt d (λ x. x) quiet
  idle_call ups x s t (Bind own cpu answer) a b d ends same quiet =
      quiet_plain firing id s t (Bind own cpu answer) a tt d (λ x. x) quiet
  idle_call ups x s t (BeginRemove own (Ok (Done r))) a b d ends same quiet =
      let q = quiet_untouched firing id s t (begins_others firing own id (Ok (Done r)) s t (λ e. ends (sym e)) d) quiet in
      either (IsAt t) (own == id) Ends (idle ups x) q q
  idle_call ups x s t (BeginRemove own (Ok (Kept kept))) a b d ends same quiet =
      let q = dite (ℕ_discrete own id)
      (λ e. quiet_begun firing id kept s t a (subst (λ (j : ℕ). Changes firing s (BeginRemove j (Ok (Kept kept))) t) e d))
      (λ ne. quiet_untouched firing id s t
      (begins_others firing own id (Ok (Kept kept)) s t (λ e. ne (sym e)) d) quiet) in
      either (IsAt t) (own == id) Ends (idle ups x) q q
  idle_call ups x s t (BeginRemove own (Err why)) a b d ends same quiet =
      idle_same s t (refused_begin handler firing id own why s t d) quiet
  idle_call ups x s t (PollRemove own (Ok (Some r))) a b d ends same quiet =
      quiet_untouched firing id s t (polls_others firing own id (Ok (Some r)) s t (λ e. ends (sym e)) d) quiet
  idle_call ups x s t (PollRemove own (Ok None)) a b d ends same quiet = dite (ℕ_discrete own id)
      (λ e. quiet_polled firing id s t a (subst (λ (j : ℕ). Changes firing s (PollRemove j (Ok None)) t) e d) quiet)
      (λ ne. quiet_untouched firing id s t (polls_others firing own id (Ok None) s t (λ e. ne (sym e)) d) quiet)
  idle_call ups x s t (PollRemove own (Err why)) a b d ends same quiet =
      idle_same s t (refused_poll handler firing id own why s t d) quiet
  idle_call ups x s t (AskTotals own answer) a b d ends same quiet =
      quiet_plain firing id s t (AskTotals own answer) a tt d (λ x. x) quiet
  idle_call ups x s t (Suspend answer) a b d ends same quiet =
      quiet_plain firing id s t (Suspend answer) a tt d (λ x. x) quiet
  idle_call ups x s t (Resume answer) a b d ends same quiet =
      quiet_plain firing id s t (Resume answer) a tt d (λ x. x) quiet
  idle_call ups x s t (Reprogram own moment (Ok done)) a b d ends same quiet =
      let q = quiet_plain firing id s t (Reprogram own moment (Ok done)) a tt d (λ x. x) quiet in
      either (IsAt t) (own == id) (IsSet moment) (idle ups x) q q
  idle_call ups x s t (Reprogram own moment (Err why)) a b d ends same quiet =
      quiet_plain firing id s t (Reprogram own moment (Err why)) a tt d (λ x. x) quiet
  idle_call ups x s t (ReprogramOn own n moment (Ok done)) a b d ends same quiet =
      let q = quiet_plain firing id s t (ReprogramOn own n moment (Ok done)) a tt d (λ x. x) quiet in
      either (IsAt t) (own == id) (IsSetOn n moment) (idle ups x) q q
  idle_call ups x s t (ReprogramOn own n moment (Err why)) a b d ends same quiet =
      quiet_plain firing id s t (ReprogramOn own n moment (Err why)) a tt d (λ x. x) quiet
  idle_call ups x s t (Juggle n answer) a b d ends same quiet =
      quiet_plain firing id s t (Juggle n answer) a tt d (λ x. x) quiet
  idle_call ups x s t (Offline n (Ok done)) a b d ends same quiet =
      quiet_plain firing id s t (Offline n (Ok done)) a tt d (λ x. x) quiet
  idle_call ups x s t (Offline n (Err why)) a b d ends same quiet =
      quiet_plain firing id s t (Offline n (Err why)) a tt d (λ x. x) quiet
  idle_call ups x s t (Online n now (Ok done)) a b d ends same quiet =
      quiet_plain firing id s t (Online n now (Ok done)) a tt d (λ x. x) quiet
  idle_call ups x s t (Online n now (Err why)) a b d ends same quiet =
      quiet_plain firing id s t (Online n now (Err why)) a tt d (λ x. x) quiet
  idle_call ups x s t (FireOne n now answer) a b d ends same quiet = absurd d
  idle_call ups x s t (SoftInterrupt n level budget answer) a b d ends same quiet = absurd d

  -- ---- it is on one CPU

  still_plain : (s t : SystemView R) (call : SystemCall) → IsPlain call → Changes firing s call t → IsStill s → IsStill t
  still_plain s t call plain d still n e = still n (sym (removals_same firing s t call plain d n) ∙ e)

  still_untouched : (s t : SystemView R) → IsUntouched id s t → IsStill s → IsStill t
  still_untouched s t u still n e = still n (u.was_open n e)

  still_same : (s t : SystemView R) → t ≡ s → IsStill s → IsStill t
  still_same s t e still = subst (λ (u : SystemView R). IsStill u) (sym e) still

  told_single : (u : Told) (t : SystemView R) → IsTold handler firing id u t → IsStill t → IsAt t u
  told_single u t h still = subst (λ (c : Course). IsOn c u.expired t) (sym h.course) (h.so, still)

  module _ (ups : List Bool) (x moment interval : ℕ) (s t : SystemView R) (a : IsSound firing.view s) (b : IsSound firing.view t)
      (h : IsSingle firing id moment interval x s) (still : IsStill s) where
    abbrev single : Told
    single = record { online = ups; course = Single moment interval; expired = x }

    goes_on : (call : SystemCall) → Changes firing s call t → KeepsIt id (Make call) → IsStill t
        → IsAt t (told_after (event_in id (Make call)) single)
    goes_on call d keeps after = told_single (told_after (event_in id (Make call)) single) t
        (make_told handler firing id s t call single a b d keeps
        (record { moment = moment; interval = interval; course = refl; so = h })) after

    pub single_call : (call : SystemCall) → Changes firing s call t → (EndsRemoval id call → ⊥)
        → IsAt t (told_after (event_in id (Make call)) single)
    single_call (Add level when now (Ok own)) d ends = goes_on (Add level when now (Ok own)) d tt
        (still_plain s t (Add level when now (Ok own)) tt d still)
    single_call (Add level when now (Err why)) d ends = goes_on (Add level when now (Err why)) d tt
        (still_plain s t (Add level when now (Err why)) tt d still)
    single_call (AddOmni level when skew now (Ok own)) d ends = goes_on (AddOmni level when skew now (Ok own)) d tt
        (still_plain s t (AddOmni level when skew now (Ok own)) tt d still)
    single_call (AddOmni level when skew now (Err why)) d ends = goes_on (AddOmni level when skew now (Err why)) d tt
        (still_plain s t (AddOmni level when skew now (Err why)) tt d still)
    single_call (Bind own cpu answer) d ends = goes_on (Bind own cpu answer) d tt
        (still_plain s t (Bind own cpu answer) tt d still)
    single_call (BeginRemove own (Ok (Done r))) d ends = goes_on (BeginRemove own (Ok (Done r))) d ends
        (still_untouched s t (begins_others firing own id (Ok (Done r)) s t (λ e. ends (sym e)) d) still)
    single_call (BeginRemove own (Ok (Kept kept))) d ends = dite (ℕ_discrete own id)
        (λ e. subst (IsAt t) (sym (its_own handler firing id own Ends single e))
        (quiet_begun firing id kept s t a (subst (λ (j : ℕ). Changes firing s (BeginRemove j (Ok (Kept kept))) t) e d)))
        (λ ne. goes_on (BeginRemove own (Ok (Kept kept))) d ne
        (still_untouched s t (begins_others firing own id (Ok (Kept kept)) s t (λ e. ne (sym e)) d) still))
    single_call (BeginRemove own (Err why)) d ends = goes_on (BeginRemove own (Err why)) d tt
        (still_same s t (refused_begin handler firing id own why s t d) still)
    single_call (PollRemove own (Ok (Some r))) d ends = goes_on (PollRemove own (Ok (Some r))) d ends
        (still_untouched s t (polls_others firing own id (Ok (Some r)) s t (λ e. ends (sym e)) d) still)
    single_call (PollRemove own (Ok None)) d ends = dite (ℕ_discrete own id)
        (λ e. absurd (poll_open None s t (subst (λ (j : ℕ). Changes firing s (PollRemove j (Ok None)) t) e d) still))
        (λ ne. goes_on (PollRemove own (Ok None)) d ne
        (still_untouched s t (polls_others firing own id (Ok None) s t (λ e. ne (sym e)) d) still))
    single_call (PollRemove own (Err why)) d ends = goes_on (PollRemove own (Err why)) d tt
        (still_same s t (refused_poll handler firing id own why s t d) still)
    single_call (AskTotals own answer) d ends = goes_on (AskTotals own answer) d tt
        (still_plain s t (AskTotals own answer) tt d still)
    single_call (Suspend answer) d ends = goes_on (Suspend answer) d tt
        (still_plain s t (Suspend answer) tt d still)
    single_call (Resume answer) d ends = goes_on (Resume answer) d tt
        (still_plain s t (Resume answer) tt d still)
    single_call (Reprogram own m answer) d ends = goes_on (Reprogram own m answer) d tt
        (still_plain s t (Reprogram own m answer) tt d still)
    single_call (ReprogramOn own n m answer) d ends = goes_on (ReprogramOn own n m answer) d tt
        (still_plain s t (ReprogramOn own n m answer) tt d still)
    single_call (Juggle n answer) d ends = goes_on (Juggle n answer) d tt (still_plain s t (Juggle n answer) tt d still)
    single_call (Offline n answer) d ends = goes_on (Offline n answer) d tt (still_plain s t (Offline n answer) tt d still)
    single_call (Online n now answer) d ends = goes_on (Online n now answer) d tt
        (still_plain s t (Online n now answer) tt d still)
    single_call (FireOne n now answer) d ends = absurd d
    single_call (SoftInterrupt n level budget answer) d ends = absurd d
