-- Each step of a run is to a name what its call is to the id of the name.
use Rattle.std.proofs.Common.{◌≡◌, ◌==◌, ◌∙◌, ℕ, inl, inr, Bool, true, false, List, [], ◌∷◌, ◌++◌, Option, Some, None}
use Rattle.std.proofs.Common.{Result, Ok, Err, refl, sym, ap, subst}
use Rattle.std.specs.Prelude.{⊤}
use Rattle.std.specs.List.{FoldsTo}
use Rattle.std.specs.Option.{option_map_or}
use Rattle.cyc_types.specs.declared.Calls.{Ghosts as Calls}
use Rattle.cyc_types.specs.declared.Raise.{Ghosts as Raise}
use Rattle.cyc_types.specs.declared.level.Level.{Level}
use Rattle.cyc_types.specs.declared.moment.When.{When}
use Rattle.cyc_types.specs.declared.refusal.Refusal.{Refusal}
use Rattle.cyc_script.specs.declared.step.Step.{Step}
use Rattle.cyc_script.specs.declared.step.Step.TheVariants as steps
use Rattle.cyc_expected.specs.Course.{Event, Passes, Told, told_after, told_by}
use Rattle.cyc_expected.specs.Expected.{clock_after, course_events}
use Rattle.cyc_threads.specs.SystemRemoval.{SystemRemoval}
use Rattle.cyc_threads.specs.Calls.{SystemCall, Add, AddOmni, BeginRemove, PollRemove, Offline, Online}
use Rattle.cyc_threads.specs.Calls.{reprograms}
use Rattle.cyc_system_rings.specs.Leading.{LeadCall, Make, AskAll}
use Rattle.cyc_system_rings.specs.Events.{event_in, events_in}
use Rattle.cyc_threads.specs.declared.progress.Progress.{Progress}
use Rattle.cyc_words.specs.Names.{named_at, cyclic_id}
use Rattle.cyc_threads.specs.StepCalls.{CallsFor, Poll, Polls, Waits}
use Rattle.cyc_words.specs.Words.{WithId}
use Rattle.cyc_threads.specs.Words.{DoesStep, Begins, waits_first}
use Rattle.cyc_threads.specs.Steps.{TakesSteps}
use Rattle.cyc_thread_calls.specs.Leading.{calls_in, poll_calls, wait_calls, begin_calls, call_of, steps_calls}
use Rattle.cyc_thread_calls.specs.Meeting.{is_accepted, is_taken, was_accepted, steps_met}
use Rattle.cyc_thread_calls.specs.Giving.{given_by}
use Rattle.cyc_thread_calls.proofs.Called.{call_with, by_word, no_event}
use Rattle.cyc_thread_calls.proofs.Owners.{IsFor, Owns, owns_noted, for_none}
use Rattle.cyc_thread_calls.proofs.Events.{cond_same, events_more, event_here, one_call, event_met, clock_met, one_met, taken}
use Rattle.cyc_thread_calls.proofs.Events.{add_event, omni_event, set_event, remove_event, offline_event, online_event}

-- the id that the call of a step gave
abbrev pub given : Option LeadCall → Option ℕ
given o = option_map_or given_by o None

-- where the step gives its name an id, this holds of the two
abbrev pub Gives : (ℕ → ℕ → Type 0) → Step → Option LeadCall → Type 0
Gives P (steps.Add a) o = (d : ℕ) → given o ≡ Some d → P a.name d
Gives P (steps.Omni a) o = (d : ℕ) → given o ≡ Some d → P a.name d
Gives P x o = ⊤

for_added : (d : ℕ) (level : Level) (when : When) (now : ℕ) (answer : Result ℕ Refusal) → IsFor d (Add level when now answer)
    → given_by (Make (Add level when now answer)) ≡ Some d
for_added d level when now (Ok id) e = ap Some e
for_added d level when now (Err e) f = absurd f

for_omni : (d : ℕ) (level : Level) (when : When) (skew now : ℕ) (answer : Result ℕ Refusal)
    → IsFor d (AddOmni level when skew now answer) → given_by (Make (AddOmni level when skew now answer)) ≡ Some d
for_omni d level when skew now (Ok id) e = ap Some e
for_omni d level when skew now (Err e) f = absurd f

for_set : (cpu : Option ℕ) (d id moment : ℕ) (answer : Result (Unit {0}) Refusal) → IsFor d (reprograms cpu id moment answer)
    → id ≡ d
for_set None d id moment answer f = absurd f
for_set (Some n) d id moment answer f = absurd f

module _ {C R : Type 0} (handler : Calls C) (firing : Raise R) where
  -- of each step of a run
  abbrev pub AllGive : (ℕ → ℕ → Type 0) → (s : Progress R C) (xs : List Step) (t : Progress R C)
      → TakesSteps handler firing s xs t → Type 0
  AllGive P s [] t takes = ⊤
  AllGive P s (x ∷ xs) t (u, (v, begins, does), rest) =
      Gives P x (call_of handler firing x v u does) × AllGive P u xs t rest

  module _ (i k : ℕ) where
    -- what a step leaves, with its call, and accepted or not
    record Meets (s t : Progress R C) (x : Step) (o : Option LeadCall) (b : Bool) : Type 0 where
      pub same : event_here i k o ≡ event_met i k s.clock x b
      pub owns : Owns i k t.names
      pub clock : t.clock ≡ clock_met i k s.clock x b

    idle : (s t : Progress R C) (x : Step) → t ≡ s → clock_after x s.clock ≡ s.clock → Owns i k s.names → Meets s t x None false
    idle s t x e still owns = record {
      same = refl;
      owns = subst (λ (p : Progress R C). Owns i k p.names) (sym e) owns;
      clock = ap (λ (p : Progress R C). p.clock) e ∙ sym still;
    }

    called_one : (name : ℕ) (call : SystemCall) (s t : Progress R C) (x : Step) → CallsFor firing name call s t
        → Owns i k s.names → ((d : ℕ) → IsFor d call → (d == i) ≡ (name == k)) → clock_after x s.clock ≡ s.clock
        → event_in i (Make call) ≡ event_met i k s.clock x (is_taken (Make call)) → Meets s t x (Some (Make call))
        (is_taken (Make call))
    called_one name call s t x did owns fits still same = record {
      same = same;
      owns = subst (Owns i k) (sym did.told) (owns_noted i k name call s.names owns fits);
      clock = did.clock ∙ sym still;
    }

    with_one : (Answer : Type 0) (call : ℕ → Result Answer Refusal → SystemCall) (name : ℕ) (s t : Progress R C) (x : Step)
        (id : Option ℕ) → cyclic_id (named_at s.names name) ≡ id
        → (w : WithId id (λ own. (answer : Result Answer Refusal) × CallsFor firing name (call own answer) s t) (t ≡ s))
        → Owns i k s.names → ((own d : ℕ) (answer : Result Answer Refusal) → IsFor d (call own answer) → own ≡ d)
        → clock_after x s.clock ≡ s.clock
        → ((own : ℕ) (answer : Result Answer Refusal) → (own == i) ≡ (name == k)
        → event_in i (Make (call own answer)) ≡ event_met i k s.clock x (is_taken (Make (call own answer))))
        → Meets s t x (call_with firing Answer call name s t id w) (taken i k (call_with firing Answer call name s t id w))
    with_one Answer call name s t x (Some own) is (answer, did) owns fits still same =
        let mine = owns name own is in
        called_one name (call own answer) s t x did owns
        (λ d f. subst (λ (q : ℕ). (q == i) ≡ (name == k)) (fits own d answer f) mine) still (same own answer mine)
    with_one Answer call name s t x None is e owns fits still same = idle s t x e still owns

    abbrev Fit : ℕ → ℕ → Type 0
    Fit j d = (d == i) ≡ (j == k)

    does_meets : (x : Step) (s t : Progress R C) (d : DoesStep handler firing x s t) → Owns i k s.names
        → Gives Fit x (call_of handler firing x s t d)
        → Meets s t x (call_of handler firing x s t d) (was_accepted handler firing x s t d)
    does_meets (steps.Add a) s t (inl (when, starts, lasts, long, (answer, did))) owns gives =
        called_one a.name (Add a.level when s.clock answer) s t (steps.Add a) did owns
        (λ d f. gives d (for_added d a.level when s.clock answer f)) refl
        (add_event i k a when s.clock answer starts lasts
        (λ d e. gives d (ap (λ (q : Result ℕ Refusal). given_by (Make (Add a.level when s.clock q))) e)))
    does_meets (steps.Add a) s t (inr (bad, e)) owns gives = idle s t (steps.Add a) e refl owns
    does_meets (steps.Omni a) s t (inl (when, starts, lasts, long, (answer, did))) owns gives =
        called_one a.name (AddOmni a.level when a.skew s.clock answer) s t (steps.Omni a) did owns
        (λ d f. gives d (for_omni d a.level when a.skew s.clock answer f)) refl
        (omni_event i k a when s.clock answer starts lasts
        (λ d e. gives d (ap (λ (q : Result ℕ Refusal). given_by (Make (AddOmni a.level when a.skew s.clock q))) e)))
    does_meets (steps.Omni a) s t (inr (bad, e)) owns gives = idle s t (steps.Omni a) e refl owns
    does_meets (steps.Reprogram r) s t (inl (moment, is, d)) owns gives =
        with_one (Unit {0}) (λ id answer. reprograms r.cpu id moment answer) r.name s t
        (steps.Reprogram r) (cyclic_id (named_at s.names r.name)) refl d owns (λ own q answer f. for_set r.cpu q own moment
        answer f)
        refl (λ own answer mine. set_event i k r own moment s.clock answer is mine)
    does_meets (steps.Reprogram r) s t (inr (bad, e)) owns gives = idle s t (steps.Reprogram r) e refl owns
    does_meets (steps.Remove name) s t d owns gives = with_one SystemRemoval (λ id answer. BeginRemove id answer) name s t
        (steps.Remove name) (cyclic_id (named_at s.names name)) refl d owns (λ own q answer f. f) refl
        (λ own answer mine. remove_event i k name own s.clock answer mine)
    does_meets (steps.Advance now) s t (inl (suspended, e)) owns gives = record {
      same = refl;
      owns = subst (λ (p : Progress R C). Owns i k p.names) (sym e) owns;
      clock = ap (λ (p : Progress R C). p.clock) e;
    }
    does_meets (steps.Advance now) s t (inr d) owns gives = record {
      same = refl;
      owns = subst (Owns i k) (sym d.names) owns;
      clock = d.clock;
    }
    does_meets (steps.Softint soft) s t e owns gives = record {
      same = refl;
      owns = subst (λ (p : Progress R C). Owns i k p.names) (sym e) owns;
      clock = ap (λ (p : Progress R C). p.clock) e;
    }
    does_meets (steps.Offline n) s t (answer, did) owns gives = called_one 0 (Offline n answer) s t (steps.Offline n) did owns
        (λ d f. absurd f) refl (offline_event i k n s.clock answer)
    does_meets (steps.Online n) s t (answer, did) owns gives = called_one 0 (Online n s.clock answer) s t (steps.Online n) did
        owns (λ d f. absurd f) refl (online_event i k n s.clock answer)
    does_meets x s t d owns gives = by_word handler firing s t (λ o. Meets s t x o (option_map_or is_taken o false))
        (λ e. idle s t x e refl owns) x tt
        (λ name call is c. called_one name call s t x c owns (λ q f. absurd (for_none x call tt is q f)) refl
        (no_event x call tt is i ∙ sym (cond_same (is_accepted call) Passes))) d

    -- ---- the waits

    polls_pass : (polls : List Poll) (t : Told) → told_by (events_in i (poll_calls polls ++ AskAll ∷ [])) t ≡ t
    polls_pass [] t = refl
    polls_pass (p ∷ polls) t = polls_pass polls t

    polls_own : (polls : List Poll) (s t : Progress R C) → FoldsTo (Polls firing) s polls t → Owns i k s.names
        → Owns i k t.names × (t.clock ≡ s.clock)
    polls_own [] s t e owns =
        (subst (λ (p : Progress R C). Owns i k p.names) e owns, sym (ap (λ (p : Progress R C). p.clock) e))
    polls_own (p ∷ polls) s t (u, (here, did), rest) owns =
        let mine = owns p.name p.id (ap cyclic_id here) in
        let next : Owns i k u.names = subst (Owns i k) (sym did.told) (owns_noted i k p.name (PollRemove p.id p.answer) s.names
        owns (λ d e. subst (λ (q : ℕ). (q == i) ≡ (p.name == k)) e mine)) in
        let (more, clock) = polls_own polls u t rest next in (more, clock ∙ did.clock)

    pub waits_pass : (s t : Progress R C) (w : Waits firing s t) (told : Told)
        → told_by (events_in i (wait_calls firing s t w)) told ≡ told
    waits_pass s t (polls, u, polled, settles) told = polls_pass polls told

    pub waits_own : (s t : Progress R C) → Waits firing s t → Owns i k s.names → Owns i k t.names × (t.clock ≡ s.clock)
    waits_own s t (polls, u, polled, settles) owns =
        let (more, clock) = polls_own polls s u polled owns in
        (subst (Owns i k) (sym settles.names) more, settles.clock ∙ clock)

    begins_pass : (b : Bool) (s t : Progress R C) (w : Begins firing b s t) (told : Told)
        → told_by (events_in i (begin_calls firing b s t w)) told ≡ told
    begins_pass false s t w told = refl
    begins_pass true s t w told = waits_pass s t w told

    begins_own : (b : Bool) (s t : Progress R C) → Begins firing b s t → Owns i k s.names
        → Owns i k t.names × (t.clock ≡ s.clock)
    begins_own false s t e owns =
        (subst (λ (p : Progress R C). Owns i k p.names) (sym e) owns, ap (λ (p : Progress R C). p.clock) e)
    begins_own true s t w owns = waits_own s t w owns

    -- ---- all steps

    pub steps_same : (s : Progress R C) (xs : List Step) (t : Progress R C)
        (takes : TakesSteps handler firing s xs t) → Owns i k s.names → AllGive Fit s xs t takes
        → (told : Told) → told_by (events_in i (steps_calls handler firing s xs t takes)) told
        ≡ told_by (course_events k s.clock (steps_met handler firing s xs t takes)) told
    steps_same s [] t takes owns gives told = refl
    steps_same s (x ∷ xs) t (u, (v, begins, does), rest) owns (gives, more) told =
        let (owned, clock) = begins_own (waits_first x) s v begins owns in
        let m = does_meets x v u does owned gives in
        let o = call_of handler firing x v u does in
        let b = was_accepted handler firing x v u does in
        let before = begin_calls firing (waits_first x) s v begins in
        let later = steps_calls handler firing u xs t rest in
        let ms = steps_met handler firing u xs t rest in
        let inner : told_by (events_in i (before ++ calls_in o)) told ≡ told_after (event_met i k s.clock x b) told =
        events_more i before (calls_in o) told
        ∙ (ap (λ (q : Told). told_by (events_in i (calls_in o)) q) (begins_pass (waits_first x) s v begins told)
        ∙ (one_call i k o told ∙ (ap (λ (e : Event). told_after e told) m.same
        ∙ ap (λ (c : ℕ). told_after (event_met i k c x b) told) clock))) in
        events_more i (before ++ calls_in o) later told
        ∙ (ap (λ (q : Told). told_by (events_in i later) q) inner
        ∙ (steps_same u xs t rest m.owns more (told_after (event_met i k s.clock x b) told)
        ∙ (ap (λ (c : ℕ). told_by (course_events k c ms) (told_after (event_met i k s.clock x b) told))
        (m.clock ∙ ap (λ (c : ℕ). clock_met i k c x b) clock)
        ∙ sym (one_met i k x b ms s.clock told))))
