-- While the removal of a name is open it is open on every CPU that has its cyclic, and a CPU has it; so no poll of it is refused.
use Rattle.std.proofs.Common.{◌≡◌, ◌≢◌, ◌∙◌, ℕ, zero, suc, ◌⊎◌, inl, inr, Bool, true, false, List, [], ◌∷◌, ◌++◌}
use Rattle.std.proofs.Common.{Option, Some, None, Result, Ok, Err, length, slice_set, refl, sym, ap, subst, All}
use Rattle.std.specs.Prelude.{not}
use Rattle.std.specs.List.{FoldsTo, list_any}
use Rattle.std.proofs.lemmas.List.{get_or-set_same}
use Rattle.std.proofs.lemmas.List.Elements.{All-nil, All-cons, All-append}
use mathlib.Core.Logic.{dite}
use native.Mathlib.Decide.{ℕ_discrete}
use Rattle.cyc_types.specs.declared.Calls.{Ghosts as Calls}
use Rattle.cyc_types.specs.declared.Raise.{Ghosts as Raise}
use Rattle.cyc_types.specs.declared.receipt.Receipt.{Receipt}
use Rattle.cyc_types.specs.declared.refusal.Refusal.{Refusal}
use Rattle.cyc_types.specs.declared.refusal.Refusal.TheVariants.{NoCyclic}
use Rattle.cyc_ring.specs.Ends.{raise_end}
use Rattle.cyc_script.specs.declared.script.Script.{Script}
use Rattle.cyc_script.specs.declared.step.Step.{Step}
use Rattle.cyc_script.specs.declared.step.Step.TheVariants as steps
use Rattle.cyc_threads.proofs.Spots.{same_some, none_some}
use Rattle.cyc_threads.proofs.FirstReason.{passes, not_when}
use Rattle.cyc_threads.proofs.Others.{begins_others, polls_others}
use Rattle.cyc_threads.proofs.Where.{open_somewhere, left_all, nowhere}
use Rattle.cyc_threads.specs.System.{SystemView, is_leaving, is_leaving_here}
use Rattle.cyc_threads.specs.Sound.{IsSound}
use Rattle.cyc_threads.specs.Laws.{IsUntouched}
use Rattle.cyc_threads.specs.Removing.{BeginsRemoval, cpus_with}
use Rattle.cyc_threads.specs.Polling.{PollsRemoval, not_leaving}
use Rattle.cyc_threads.specs.SystemRemoval.{SystemRemoval}
use Rattle.cyc_threads.specs.SystemRemoval.TheVariants.{Done, Kept}
use Rattle.cyc_threads.specs.SystemSide.{SystemSide}
use Rattle.cyc_threads.specs.Calls.{SystemCall, BeginRemove, PollRemove}
use Rattle.cyc_words.specs.declared.named.Named.{Named}
use Rattle.cyc_words.specs.declared.named.Named.TheVariants.{Nothing, Cyclic, Leaving, Removed}
use Rattle.cyc_threads.specs.declared.progress.Progress.{Progress}
use Rattle.cyc_threads.specs.StepCalls.{CallsFor, Poll, Polls, Waits, Fires}
use Rattle.cyc_words.specs.Names.{named_at, cyclic_id, has_open_removal as leaves, NoneLeaves, news, noted}
use Rattle.cyc_threads.specs.Counting.{NameLine, Tells, TellsOf, Reports}
use Rattle.cyc_threads.specs.declared.counting.Line.{Line}
use Rattle.cyc_words.specs.Words.{WithId}
use Rattle.cyc_threads.specs.Words.{DoesStep, Begins, waits_first}
use Rattle.cyc_threads.specs.Steps.{TakesSteps, Runs}
use Rattle.cyc_threads.specs.declared.running.Ended.{Ended}
use Rattle.cyc_threads.specs.Running.{HasRun}
use Rattle.cyc_system_rings.specs.Leading.{LeadCall, Make, AskAll}
use Rattle.cyc_system_rings.specs.Events.{AcceptedSteps}
use Rattle.cyc_system_rings.proofs.Singles.{ok_err}
use Rattle.cyc_system_rings.proofs.Runs.{sound_after, step_ready, refused_begin}
use Rattle.cyc_system_rings.proofs.Quiet.{IsQuiet, is_open, quiet_untouched, quiet_begun, quiet_polled}
use Rattle.cyc_system_rings.proofs.Firing.{quiet_fired, fired_removal}
use Rattle.cyc_thread_calls.specs.Answering.{IsAnsweredPoll}
use Rattle.cyc_thread_calls.specs.Calling.{lead_calls}
use Rattle.cyc_thread_calls.specs.Giving.{given_in, later_id}
use Rattle.cyc_thread_calls.specs.Leading.{calls_in, poll_calls, wait_calls, begin_calls, call_of, steps_calls}
use Rattle.cyc_thread_calls.specs.Leading.{told_calls_of, told_calls, all_calls}
use Rattle.cyc_thread_calls.proofs.Called.{by_word, no_news, no_poll}
use Rattle.cyc_thread_calls.proofs.Closing.{run_sound}
use Rattle.cyc_thread_calls.proofs.Going.{accepted_fires, wait_goes, does_go}
use Rattle.cyc_thread_calls.proofs.Holding.{Holds, holds_first, its_id, its_position}
use Rattle.cyc_thread_calls.proofs.Names.{Held, does_held, wait_held, polls as polls_held_on}
use Rattle.cyc_thread_calls.proofs.Starting.{first_ready}

-- ---- calls

abbrev AreAnswered : List LeadCall → Type 0
AreAnswered calls = All IsAnsweredPoll calls

none_answered : AreAnswered []
none_answered = All-nil IsAnsweredPoll

one_answered : (call : LeadCall) → IsAnsweredPoll call → AreAnswered (call ∷ [])
one_answered call answered = All-cons IsAnsweredPoll call [] answered none_answered

both_answered : (xs ys : List LeadCall) → AreAnswered xs → AreAnswered ys → AreAnswered (xs ++ ys)
both_answered xs ys a b = All-append IsAnsweredPoll xs ys a b

-- ---- names

-- what a name has after one of them got something else
pub set_at : (names : List Named) (j m : ℕ) (x : Named) → (named_at (slice_set names j x) m ≡ named_at names m)
    ⊎ ((m ≡ j) × (named_at (slice_set names j x) m ≡ x))
set_at [] zero m x = inl refl
set_at [] (suc j) m x = inl refl
set_at (n ∷ names) zero zero x = inr (refl, refl)
set_at (n ∷ names) zero (suc m) x = inl refl
set_at (n ∷ names) (suc j) zero x = inl refl
set_at (n ∷ names) (suc j) (suc m) x = by (set_at names j m x)
  where
    by : (named_at (slice_set names j x) m ≡ named_at names m) ⊎ ((m ≡ j) × (named_at (slice_set names j x) m ≡ x))
        → (named_at (slice_set names j x) m ≡ named_at names m) ⊎ ((suc m ≡ suc j) × (named_at (slice_set names j x) m ≡ x))
    by (inl e) = inl e
    by (inr (same, e)) = inr (ap suc same, e)

not_leaving_now : (x : Named) (id : ℕ) → leaves x ≡ false → x ≡ Leaving id → ⊥
not_leaving_now x id not_so e = (let odd : false ≡ true = sym not_so ∙ ap leaves e in cc)

same_names : (xs ys : List Named) → ys ≡ xs → NoneLeaves xs → NoneLeaves ys
same_names xs ys e none = subst NoneLeaves (sym e) none

set_none : (names : List Named) (j : ℕ) (x : Named) → leaves x ≡ false → NoneLeaves names → NoneLeaves (slice_set names j x)
set_none names j x not_so none m = by (set_at names j m x)
  where
    by : (named_at (slice_set names j x) m ≡ named_at names m) ⊎ ((m ≡ j) × (named_at (slice_set names j x) m ≡ x))
        → leaves (named_at (slice_set names j x) m) ≡ false
    by (inl e) = ap leaves e ∙ none m
    by (inr (same, e)) = ap leaves e ∙ not_so

-- ---- one removal

module _ {R : Type 0} (firing : Raise R) where
  -- it is open, on every CPU that has its cyclic and on one at least
  abbrev Opens : ℕ → SystemView R → Type 0
  Opens id s = IsQuiet firing id s × (list_any (is_leaving_here id) s.cpus.cpus ≡ true)

  untouched_opens : (id : ℕ) (s t : SystemView R) → IsUntouched id s t → Opens id s → Opens id t
  untouched_opens id s t u (quiet, still) = let (n, x, at, there, own) = open_somewhere id s.cpus still in
      (quiet_untouched firing id s t u quiet, is_open id n t.cpus (u.stays_open n there))

  some_opens : (id : ℕ) (t : SystemView R) → IsQuiet firing id t → cpus_with id t.cpus ≢ [] → Opens id t
  some_opens id t quiet some = (quiet, by (list_any (is_leaving_here id) t.cpus.cpus) refl)
    where
      by : (b : Bool) → list_any (is_leaving_here id) t.cpus.cpus ≡ b → b ≡ true
      by true e = refl
      by false e = absurd (some (nowhere id t.cpus (left_all id t.cpus e quiet)))

  begun_opens : (id kept : ℕ) (s t : SystemView R) → IsSound firing.view s → BeginsRemoval firing id (Ok (Kept kept)) s t
      → Opens id t
  begun_opens id kept s t a (inl (e, why, is, same)) = absurd (ok_err is)
  begun_opens id kept s t a (inr (clear, (way, cpus, each, some, sum))) =
      some_opens id t (quiet_begun firing id kept s t a (inr (clear, (way, cpus, each, some, sum)))) some

  polled_opens : (id : ℕ) (s t : SystemView R) → IsSound firing.view s → PollsRemoval firing id (Ok None) s t → Opens id s
      → Opens id t
  polled_opens id s t a (inl (e, why, is, same)) still = absurd (ok_err is)
  polled_opens id s t a (inr (clear, (way, cpus, each, some))) (quiet, still) =
      some_opens id t (quiet_polled firing id s t a (inr (clear, (way, cpus, each, some))) quiet) some

  never_refused : (id : ℕ) (why : Refusal) (s t : SystemView R) → PollsRemoval firing id (Err why) s t → Opens id s → ⊥
  never_refused id why s t (inl (e, first, is, same)) (quiet, still) = none_some
      (sym (passes (not_leaving id s) [] None (not_when (not (is_leaving id s)) NoCyclic (ap not still)) refl) ∙ first)
  never_refused id why s t (inr (clear, wrong)) still = wrong

-- ---- a run

module _ {C R : Type 0} (handler : Calls C) (firing : Raise R) (many : ℕ) where
  -- between two steps: no two names have one id, and the removal of each name that is leaving is open
  record Stands (s : Progress R C) : Type 0 where
    given : ℕ → Option ℕ
    way : List LeadCall
    held : Held handler firing many given way s
    sound : IsSound firing.view s.side.system
    ready : length s.side.leads.items ≡ length s.side.system.cpus.cpus
    opens : (name id : ℕ) → named_at s.names name ≡ Leaving id → Opens firing id s.side.system

  abbrev AllOpen : Progress R C → Type 0
  AllOpen s = (name id : ℕ) → named_at s.names name ≡ Leaving id → Opens firing id s.side.system

  none_open : (s : Progress R C) → NoneLeaves s.names → AllOpen s
  none_open s none name id is = absurd (not_leaving_now (named_at s.names name) id (none name) is)

  -- the id of a name is the one that it was given
  own_given : (s : Progress R C) (k : Stands s) (name id : ℕ) → cyclic_id (named_at s.names name) ≡ Some id
      → k.given name ≡ Some id
  own_given s k name id is = (its_id many k.given k.way s.names s.side.system.last k.held (k.given name)
      (named_at s.names name) id is
      (k.held.fits name (its_position many k.given k.way s.names s.side.system.last k.held s.names name id is))).0

  -- ---- calls that lead the system

  abbrev D : SystemSide R C → LeadCall → SystemSide R C → Type 0
  D = AcceptedSteps handler firing

  goes_sound : (way : List LeadCall) (s t : SystemSide R C) → FoldsTo D s way t → IsSound firing.view s.system
      → IsSound firing.view t.system
  goes_sound [] s t e a = subst (λ (x : SystemSide R C). IsSound firing.view x.system) e a
  goes_sound (c ∷ way) s t (u, d, rest) a = goes_sound way u t rest (sound_after handler firing 0 s u c d)

  goes_ready : (way : List LeadCall) (s t : SystemSide R C) → FoldsTo D s way t
      → length s.leads.items ≡ length s.system.cpus.cpus → length t.leads.items ≡ length t.system.cpus.cpus
  goes_ready [] s t e ready = subst (λ (x : SystemSide R C). length x.leads.items ≡ length x.system.cpus.cpus) e ready
  goes_ready (c ∷ way) s t (u, d, rest) ready =
      goes_ready way u t rest (step_ready handler firing 0 s u c d ready)

  -- ---- a removal ends

  removed_open : (name id : ℕ) (receipt : Receipt) (s t : Progress R C) → Stands s → cyclic_id (named_at s.names name) ≡ Some id
      → t.names ≡ slice_set s.names name (Removed receipt)
      → ((own : ℕ) → own ≢ id → IsUntouched own s.side.system t.side.system) → AllOpen t
  removed_open name id receipt s t k has told others m own is = by (set_at s.names name m (Removed receipt))
    where
      now : named_at (slice_set s.names name (Removed receipt)) m ≡ Leaving own
      now = sym (ap (λ (l : List Named). named_at l m) told) ∙ is

      within : named_at (slice_set s.names name (Removed receipt)) name ≡ Removed receipt
      within = get_or-set_same s.names name (Removed receipt) Nothing
          (its_position many k.given k.way s.names s.side.system.last k.held s.names name id has)

      other : named_at s.names m ≡ Leaving own → own ≢ id
      other was e =
          let same = k.held.apart m name id (own_given s k m id (ap cyclic_id was ∙ ap Some e)) (own_given s k name id has) in
          none_some (sym (ap cyclic_id within)
          ∙ ap (λ (j : ℕ). cyclic_id (named_at (slice_set s.names name (Removed receipt)) j)) (sym same)
          ∙ ap cyclic_id now)

      by : (named_at (slice_set s.names name (Removed receipt)) m ≡ named_at s.names m)
          ⊎ ((m ≡ name) × (named_at (slice_set s.names name (Removed receipt)) m ≡ Removed receipt))
          → Opens firing own t.side.system
      by (inl e) = let was = sym e ∙ now in
          untouched_opens firing own s.side.system t.side.system (others own (other was)) (k.opens m own was)
      by (inr (same, e)) = absurd (none_some (ap cyclic_id (sym e ∙ now)))

  -- ---- polls

  poll_open : (name id : ℕ) (answer : Option Receipt) (s t : Progress R C) → named_at s.names name ≡ Leaving id
      → CallsFor firing name (PollRemove id (Ok answer)) s t → Stands s → AllOpen t
  poll_open name id (Some receipt) s t here did k m own is = removed_open name id receipt s t k (ap cyclic_id here) did.told
      (λ own ne. polls_others firing id own (Ok (Some receipt)) s.side.system t.side.system ne did.did) m own is
  poll_open name id None s t here did k m own is =
      let was = sym (ap (λ (l : List Named). named_at l m) did.told) ∙ is in dite (ℕ_discrete own id)
      (λ same. subst (λ (j : ℕ). Opens firing j t.side.system) (sym same)
      (polled_opens firing id s.side.system t.side.system k.sound did.did (k.opens name id here)))
      (λ ne. untouched_opens firing own s.side.system t.side.system
      (polls_others firing id own (Ok None) s.side.system t.side.system ne did.did) (k.opens m own was))

  one_poll : (name id : ℕ) (answer : Result (Option Receipt) Refusal) (s t : Progress R C) → named_at s.names name ≡ Leaving id
      → CallsFor firing name (PollRemove id answer) s t → Stands s → Stands t × IsAnsweredPoll (Make (PollRemove id answer))
  one_poll name id (Err why) s t here did k =
      absurd (never_refused firing id why s.side.system t.side.system did.did (k.opens name id here))
  one_poll name id (Ok answer) s t here did k = (
    record {
      given = k.given;
      way = k.way ++ Make (PollRemove id (Ok answer)) ∷ [];
      held = polls_held_on handler firing many k.given k.way name id (Ok answer) s t (ap cyclic_id here) did k.held;
      sound = did.sound;
      ready = step_ready handler firing 0 s.side t.side (Make (PollRemove id (Ok answer)))
          ((did.did, did.leads), did.sound) k.ready;
      opens = poll_open name id answer s t here did k;
    },
    tt,
  )

  all_polls : (polls : List Poll) (s t : Progress R C) → FoldsTo (Polls firing) s polls t → Stands s
      → AreAnswered (poll_calls polls)
  all_polls [] s t e k = none_answered
  all_polls (p ∷ polls) s t (u, (here, did), rest) k = let (next, answered) = one_poll p.name p.id p.answer s u here did k in
      All-cons IsAnsweredPoll (Make (PollRemove p.id p.answer)) (poll_calls polls) answered (all_polls polls u t rest next)

  -- ---- the wait before a step

  wait_answered : (s t : Progress R C) (w : Waits firing s t) → Stands s → AreAnswered (wait_calls firing s t w)
  wait_answered s t (polls, u, run, settles) k =
      both_answered (poll_calls polls) (AskAll ∷ []) (all_polls polls s u run k) (one_answered AskAll tt)

  wait_rests : (s t : Progress R C) → Waits firing s t → IsSound firing.view t.side.system × NoneLeaves t.names
  wait_rests s t (polls, u, run, settles) = (settles.sound, settles.none)

  wait_stands : (s t : Progress R C) (w : Waits firing s t) → Stands s → Stands t
  wait_stands s t w k = record {
    given = k.given;
    way = k.way ++ wait_calls firing s t w;
    held = wait_held handler firing many k.given k.way s t w k.held;
    sound = (wait_rests s t w).0;
    ready = goes_ready (wait_calls firing s t w) s.side t.side (wait_goes handler firing s t w) k.ready;
    opens = none_open t (wait_rests s t w).1;
  }

  begin_answered : (b : Bool) (s t : Progress R C) (w : Begins firing b s t) → Stands s
      → AreAnswered (begin_calls firing b s t w)
  begin_answered false s t e k = none_answered
  begin_answered true s t w k = wait_answered s t w k

  begin_stands : (b : Bool) (s t : Progress R C) → Begins firing b s t → Stands s → Stands t
  begin_stands false s t e k = subst (λ (x : Progress R C). Stands x) (sym e) k
  begin_stands true s t w k = wait_stands s t w k

  begin_none : (b : Bool) (s t : Progress R C) → Begins firing b s t → b ≡ true → NoneLeaves t.names
  begin_none false s t e is = absurd (let odd : false ≡ true = is in cc)
  begin_none true s t w is = (wait_rests s t w).1

  -- ---- the call of a step

  one_none : (name : ℕ) (call : SystemCall) (s t : Progress R C) → CallsFor firing name call s t → news call ≡ None
      → NoneLeaves s.names → NoneLeaves t.names
  one_none name call s t c e none = same_names s.names t.names (c.told ∙ ap (λ o. noted name o s.names) e) none

  given_none : (name id : ℕ) (call : SystemCall) (s t : Progress R C) → CallsFor firing name call s t
      → news call ≡ Some (Cyclic id) → NoneLeaves s.names → NoneLeaves t.names
  given_none name id call s t c e none = same_names (slice_set s.names name (Cyclic id)) t.names
      (c.told ∙ ap (λ o. noted name o s.names) e) (set_none s.names name (Cyclic id) refl none)

  same_none : (s t : Progress R C) → t ≡ s → NoneLeaves s.names → NoneLeaves t.names
  same_none s t e none = same_names s.names t.names (ap (λ (p : Progress R C). p.names) e) none

  -- the removal of a name begins
  begun_open : (name id : ℕ) (answer : Result SystemRemoval Refusal) (s t : Progress R C)
      → cyclic_id (named_at s.names name) ≡ Some id → CallsFor firing name (BeginRemove id answer) s t → Stands s → AllOpen t
  begun_open name id (Ok (Done receipt)) s t has did k m own is = removed_open name id receipt s t k has did.told
      (λ own ne. begins_others firing id own (Ok (Done receipt)) s.side.system t.side.system ne did.did) m own is
  begun_open name id (Err why) s t has did k m own is =
      subst (λ (x : SystemView R). Opens firing own x)
      (sym (refused_begin handler firing 0 id why s.side.system t.side.system did.did))
      (k.opens m own (sym (ap (λ (l : List Named). named_at l m) did.told) ∙ is))
  begun_open name id (Ok (Kept kept)) s t has did k m own is = dite (ℕ_discrete own id)
      (λ same. subst (λ (j : ℕ). Opens firing j t.side.system) (sym same)
      (begun_opens firing id kept s.side.system t.side.system k.sound did.did))
      (λ ne. by ne (set_at s.names name m (Leaving id)))
    where
      now : named_at (slice_set s.names name (Leaving id)) m ≡ Leaving own
      now = sym (ap (λ (l : List Named). named_at l m) did.told) ∙ is

      by : own ≢ id → (named_at (slice_set s.names name (Leaving id)) m ≡ named_at s.names m)
          ⊎ ((m ≡ name) × (named_at (slice_set s.names name (Leaving id)) m ≡ Leaving id)) → Opens firing own t.side.system
      by ne (inl e) = untouched_opens firing own s.side.system t.side.system
          (begins_others firing id own (Ok (Kept kept)) s.side.system t.side.system ne did.did) (k.opens m own (sym e ∙ now))
      by ne (inr (same, e)) = absurd (ne (sym (same_some (ap cyclic_id (sym e ∙ now)))))

  remove_open : (name : ℕ) (s t : Progress R C) (id : Option ℕ) → cyclic_id (named_at s.names name) ≡ id
      → WithId id (λ own. (answer : Result SystemRemoval Refusal) × CallsFor firing name (BeginRemove own answer) s t) (t ≡ s)
      → Stands s → AllOpen t
  remove_open name s t (Some id) has (answer, did) k = begun_open name id answer s t has did k
  remove_open name s t None has e k = subst AllOpen (sym e) k.opens

  -- all online CPUs fire
  fires_open : (now : ℕ) (s t : Progress R C) → Fires handler firing now s t → Stands s → AllOpen t
  fires_open now s t f k name id is =
      let (quiet, still) = k.opens name id (sym (ap (λ (l : List Named). named_at l name) f.names) ∙ is) in
      let (n, x, at, there, own) = open_somewhere id s.side.system.cpus still in
      let accepted = accepted_fires handler firing now s t f in
      subst (λ (x : SystemSide R C). Opens firing id x.system) (sym f.side) (
        quiet_fired handler firing id now s.side f.after k.sound k.ready f.fired accepted quiet,
        is_open id n f.after.side.system.cpus
            (fired_removal handler firing id now s.side f.after k.sound k.ready f.fired accepted n ∙ there),
      )

  -- every word but `advance` and `remove` comes where no name is leaving, and makes none leave
  does_open : (x : Step) (s t : Progress R C) → DoesStep handler firing x s t
      → (waits_first x ≡ true → NoneLeaves s.names) → Stands s → AllOpen t
  does_open (steps.Add a) s t (inl (when, starts, lasts, long, (Ok id, did))) none k =
      none_open t (given_none a.name id _ s t did refl (none refl))
  does_open (steps.Add a) s t (inl (when, starts, lasts, long, (Err why, did))) none k =
      none_open t (one_none a.name _ s t did refl (none refl))
  does_open (steps.Add a) s t (inr (odd, e)) none k = none_open t (same_none s t e (none refl))
  does_open (steps.Omni a) s t (inl (when, starts, lasts, long, (Ok id, did))) none k =
      none_open t (given_none a.name id _ s t did refl (none refl))
  does_open (steps.Omni a) s t (inl (when, starts, lasts, long, (Err why, did))) none k =
      none_open t (one_none a.name _ s t did refl (none refl))
  does_open (steps.Omni a) s t (inr (odd, e)) none k = none_open t (same_none s t e (none refl))
  does_open (steps.Remove name) s t d none k = remove_open name s t (cyclic_id (named_at s.names name)) refl d k
  does_open (steps.Advance now) s t (inl (suspended, e)) none k = subst AllOpen (sym e) k.opens
  does_open (steps.Advance now) s t (inr f) none k = fires_open now s t f k
  does_open (steps.Softint i) s t e none k = none_open t (same_none s t e (none refl))
  does_open x s t d none k = none_open t (by_word handler firing s t (λ o. NoneLeaves t.names)
      (λ e. same_none s t e (none refl)) x tt (λ name call is c. one_none name call s t c (no_news x call tt is) (none refl)) d)

  does_stands : (x : Step) (s t : Progress R C) → DoesStep handler firing x s t
      → (waits_first x ≡ true → NoneLeaves s.names) → Stands s → Stands t
  does_stands x s t d none k = record {
    given = λ n. later_id (k.given n) (given_in n x (call_of handler firing x s t d));
    way = k.way ++ calls_in (call_of handler firing x s t d);
    held = does_held handler firing many k.given k.way x s t d k.held;
    sound = goes_sound (calls_in (call_of handler firing x s t d)) s.side t.side (does_go handler firing x s t d) k.sound;
    ready = goes_ready (calls_in (call_of handler firing x s t d)) s.side t.side (does_go handler firing x s t d) k.ready;
    opens = does_open x s t d none k;
  }

  does_answered : (x : Step) (s t : Progress R C) (d : DoesStep handler firing x s t)
      → AreAnswered (calls_in (call_of handler firing x s t d))
  does_answered (steps.Advance now) s t (inl suspended) = none_answered
  does_answered (steps.Advance now) s t (inr f) = one_answered _ tt
  does_answered (steps.Softint i) s t e = none_answered
  does_answered x s t d = by_word handler firing s t (λ o. AreAnswered (calls_in o)) (λ e. none_answered) x tt
      (λ name call is c. one_answered (Make call) (no_poll x call is)) d

  -- ---- all steps

  steps_answered : (xs : List Step) (s t : Progress R C) (run : TakesSteps handler firing s xs t) → Stands s
      → AreAnswered (steps_calls handler firing s xs t run) × Stands t
  steps_answered [] s t e k = (none_answered, subst (λ (x : Progress R C). Stands x) e k)
  steps_answered (x ∷ xs) s t (u, (v, b, d), rest) k =
      let after = begin_stands (waits_first x) s v b k in
      let next = does_stands x v u d (begin_none (waits_first x) s v b) after in
      let (more, last) = steps_answered xs u t rest next in (
        both_answered
            (begin_calls firing (waits_first x) s v b ++ calls_in (call_of handler firing x v u d))
            (steps_calls handler firing u xs t rest)
            (both_answered (begin_calls firing (waits_first x) s v b)
            (calls_in (call_of handler firing x v u d))
            (begin_answered (waits_first x) s v b k) (does_answered x v u d)) more,
        last,
      )

  line_answered : (named : Named) (line : Line) (s t : Progress R C) (w : TellsOf firing named line s t)
      → AreAnswered (told_calls_of firing named line s t w)
  line_answered Nothing line s t w = none_answered
  line_answered (Cyclic own) line s t (answer, did, is) = one_answered _ tt
  line_answered (Leaving own) line s t (answer, did, is) = one_answered _ tt
  line_answered (Removed receipt) line s t w = none_answered

  lines_answered : (all : List NameLine) (s t : Progress R C) (w : FoldsTo (Tells firing) s all t)
      → AreAnswered (told_calls firing all s t w)
  lines_answered [] s t w = none_answered
  lines_answered (one ∷ all) s t (u, tells, rest) = both_answered (told_calls_of firing one.named one.line s u tells)
      (told_calls firing all u t rest) (line_answered one.named one.line s u tells) (lines_answered all u t rest)

  -- before the first step no name has anything
  first_stands : (s : Progress R C) → Holds many (λ name. None) [] s.names s.side.system.last → IsSound firing.view s.side.system
      → length s.side.leads.items ≡ length s.side.system.cpus.cpus → Stands s
  first_stands s held sound ready = record {
    given = λ name. None;
    way = [];
    held = held;
    sound = sound;
    ready = ready;
    opens = λ name id is. absurd (none_some
        (its_id many (λ n. None) [] s.names s.side.system.last held None (named_at s.names name) id (ap cyclic_id is)
        (held.fits name (its_position many (λ n. None) [] s.names s.side.system.last held s.names name id (ap cyclic_id is)))).0);
  }

  -- and the wait after them, and the report
  runs_answered : (xs : List Step) (lines : List Line) (s t u : Progress R C)
      (runs : Runs handler firing s xs t) (reports : Reports firing lines t u) → Stands s
      → AreAnswered (all_calls handler firing xs lines s t u runs reports)
  runs_answered xs lines s t u (v, taken, w) reports k = let (steps, after) = steps_answered xs s v taken k in both_answered _ _
      (both_answered (steps_calls handler firing s xs v taken) (wait_calls firing v t w) steps
      (wait_answered v t w after)) (lines_answered reports.all t u reports.tells)

module _ {C : Type 0} (handler : Calls C) where
  pub all_answered : (script : Script) (calls : List C) (e : Ended C) (text : List ℕ)
      (r : HasRun handler script calls e text)
      → AreAnswered (lead_calls handler script calls e text r)
  all_answered script calls e text r = runs_answered handler raise_end (length script.names.items)
      script.steps.items r.lines r.played.first r.played.last r.played.told r.played.runs r.played.reports
      (first_stands handler raise_end (length script.names.items) r.played.first
      (subst (λ (l : List Named). Holds (length script.names.items) (λ name. None) [] l r.played.first.side.system.last)
      (sym r.played.begins.names_are) (holds_first (length script.names.items) r.played.first.side.system.last))
      (run_sound handler script calls e text r)
      (first_ready _ script.ceiling r.before r.played.first r.played.begins r.new))
