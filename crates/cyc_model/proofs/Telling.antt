-- The acts of each word tell all of it.
use Rattle.std.proofs.Common.{◌≡◌, ℕ, zero, suc, ◌+◌, ◌<◌, ◌==◌, Bool, true, false, List, [], ◌∷◌, ◌++◌, length, Option, Some}
use Rattle.std.proofs.Common.{None, refl, ap, sym, ◌∙◌, subst, arith}
use mathlib.Core.Logic.{dite}
use native.Mathlib.Decide.{ℕ_discrete}
use Rattle.std.proofs.lemmas.List.{get_or-set_same, get_or-set_other, length-set}
use Rattle.std.specs.Prelude.{slice_index_or, replicate}
use Rattle.cyc_types.specs.declared.level.Soft.{Soft}
use Rattle.cyc_types.specs.declared.level.Soft.TheVariants.{Low, Lock}
use Rattle.cyc_script.specs.declared.step.Step.{Step}
use Rattle.cyc_script.specs.declared.step.Step.TheVariants.{Add, Omni, Bind, Unbind, Reprogram, Remove, Advance, Softint, Juggle}
use Rattle.cyc_script.specs.declared.step.Step.TheVariants.{Offline, Online, Suspend, Resume}
use Rattle.cyc_types.specs.declared.refusal.Refusal.{Refusal}
use Rattle.cyc_model.specs.Acts.{Act, events_at, calls_of}
use Rattle.cyc_model.specs.Cpu.{CyclicState, Cpu, Here, cyclic_with_id, begun_cpu, nothing_here}
use Rattle.cyc_model.specs.Serving.{level_at, level_after, serve_here}
use Rattle.cyc_model.specs.Firing.{fire_here}
use Rattle.cyc_model.specs.Moving.{enter_here, take_here, widen_here, place_here, mark_here, clear_here, reprogram_here}
use Rattle.cyc_model.specs.Questions.{Questions}
use Rattle.cyc_model.specs.State.{State, Outcome, Placement, On, OnAll, Placed, Everywhere, nothing, followed_by, each, on_number}
use Rattle.cyc_model.specs.State.{cpu_of, absent, cpus_having, cpus_online, numbers}
use Rattle.cyc_model.specs.Places.{id_of, keep_counts, given, put_at, home_of, is_bound, forgotten, without_ended}
use Rattle.cyc_model.specs.Refusals.{after_refusal, unless, magnitude}
use Rattle.cyc_model.specs.Add.{enter, added}
use Rattle.cyc_model.specs.Omni.{enter_each, everywhere, component}
use Rattle.cyc_model.specs.Bind.{bring, move, move_unless_there, bind_id}
use Rattle.cyc_model.specs.Reprogram.{cpu_meant}
use Rattle.cyc_model.specs.Remove.{clear, clear_if, poll, begin, begun, remove_id}
use Rattle.cyc_model.specs.Softint.{interrupt, polled, poll_id, poll_all, is_open, text_of_id, leaving_ids}
use Rattle.cyc_model.specs.Juggle.{Turn, IsBound, IsPending, IsRefused, Moves, turn, take_turn, Juggled, juggle_each, juggled}
use Rattle.cyc_model.specs.Juggle.{single_ids_of}
use Rattle.cyc_model.specs.Offline.{retire, retire_all, go_offline, last_part, leaving, ids_of_cpu, any_pending}
use Rattle.cyc_model.specs.Online.{return_here, return_of, return_all, go_online, staying_omni, again}
use Rattle.cyc_model.specs.Script.{refusal_of, does, word, steps_from, text_in, start}
use Rattle.cyc_model.specs.Laws.{level_on, ActsTell, HandsAreFree, SoftSideIsEnabled}
use Rattle.cyc_level.specs.Level.{SoftLevel}
use Rattle.cyc_model.proofs.Events.{level_append, events_append, calls_append}
use Rattle.cyc_model.specs.Agreement.{StateAgrees, AllAgree, CpusAgree, AllReady, FiringSideIsReady}
use Rattle.cyc_model.proofs.Agreement.{agrees_with, agree_at, agree_set}
use Rattle.cyc_model.proofs.Fair.{Fair, fair_append}
use Rattle.cyc_model.proofs.Ready.{ready_append}
use Rattle.cyc_model.proofs.Local.{other_events, Local, SameLevels, same_low_lock, local_nothing, local_fire, local_serve}
use Rattle.cyc_model.proofs.Local.{local_widen, local_place, local_enter, local_take, local_mark, local_clear, local_reprogram}

-- a state with the same CPUs and calls
abbrev pub Alike : State → State → Type 0
Alike s t = (t.cpus ≡ s.cpus) × (t.called ≡ s.called)

none_more : (n : ℕ) → n ≡ n + 0
none_more n = omega arith

pub told_alike : (s t : State) → Alike s t → ActsTell [] s t
told_alike s t same = record {
  as_many = ap length same.0;
  levels = λ n within soft. ap (λ (cs : List Cpu). level_at soft (slice_index_or cs n absent)) same.0;
  called = λ id. ap (λ (f : ℕ → ℕ). f id) same.1 ∙ none_more (s.called id);
}

-- other books before the acts
pub told_from : (acts : List Act) (s r t : State) → Alike s r → ActsTell acts r t → ActsTell acts s t
told_from acts s r t same h = record {
  as_many = h.as_many ∙ ap length same.0;
  levels = λ n within soft. h.levels n (subst (λ k. n < k) (sym (ap length same.0)) within) soft
      ∙ ap (λ (cs : List Cpu). level_after (events_at n soft acts) (level_at soft (slice_index_or cs n absent))) same.0;
  called = λ id. h.called id ∙ ap (λ (f : ℕ → ℕ). f id + calls_of id acts) same.1;
}

-- and after them
pub told_to : (acts : List Act) (s t u : State) → ActsTell acts s t → Alike t u → ActsTell acts s u
told_to acts s t u h same = record {
  as_many = ap length same.0 ∙ h.as_many;
  levels = λ n within soft. ap (λ (cs : List Cpu). level_at soft (slice_index_or cs n absent)) same.0 ∙ h.levels n within soft;
  called = λ id. ap (λ (f : ℕ → ℕ). f id) same.1 ∙ h.called id;
}

pub told_append : (xs ys : List Act) (s t u : State) → ActsTell xs s t → ActsTell ys t u → ActsTell (xs ++ ys) s u
told_append xs ys s t u first next = record {
  as_many = next.as_many ∙ first.as_many;
  levels = λ n within soft. next.levels n (subst (λ k. n < k) (sym first.as_many) within) soft
      ∙ ap (level_after (events_at n soft ys)) (first.levels n within soft)
      ∙ sym (level_append (events_at n soft xs) (events_at n soft ys) (level_on n soft s))
      ∙ ap (λ es. level_after es (level_on n soft s)) (sym (events_append n soft xs ys));
  called = λ id. let a = first.called id in let b = next.called id in let c = calls_append id xs ys in omega (arith, a, b, c);
}

pub told_on : (n : ℕ) (f : Cpu → Here) → ((c : Cpu) → Local n c (f c)) → (s : State)
    → ActsTell (on_number n f s).acts s (on_number n f s).state
told_on n f local s = record {
  as_many = length-set s.cpus n (f (cpu_of n s)).cpu;
  levels = λ m within soft. dite (ℕ_discrete m n)
      (λ same. here_level m soft within same)
      (λ ne. ap (level_at soft) (get_or-set_other s.cpus n m (f (cpu_of n s)).cpu absent ne)
      ∙ ap (λ es. level_after es (level_on m soft s))
      (sym (other_events (f (cpu_of n s)).acts n m soft (local (cpu_of n s)).on ne)));
  called = λ id. refl;
}
  where
    own_level : (soft : Soft) → n < length s.cpus → level_on n soft (on_number n f s).state
        ≡ level_after (events_at n soft (f (cpu_of n s)).acts) (level_on n soft s)
    own_level soft within = ap (level_at soft) (get_or-set_same s.cpus n (f (cpu_of n s)).cpu absent within)
        ∙ (local (cpu_of n s)).levels soft

    here_level : (m : ℕ) (soft : Soft) → m < length s.cpus → m ≡ n → level_on m soft (on_number n f s).state
        ≡ level_after (events_at m soft (f (cpu_of n s)).acts) (level_on m soft s)
    here_level m soft within same = subst
        (λ k. level_on k soft (on_number n f s).state ≡ level_after (events_at k soft (f (cpu_of n s)).acts) (level_on k soft s))
        (sym same)
        (own_level soft (subst (λ k. k < length s.cpus) same within))

-- the acts are fair at each level, where each firer's hand is empty
abbrev FairOn : List Act → State → Type 0
FairOn acts s = (n : ℕ) → n < length s.cpus → (soft : Soft) → Fair (events_at n soft acts) (level_on n soft s)

-- and find all ready there
abbrev ReadyOn : List Act → State → Type 0
ReadyOn acts s = (n : ℕ) → n < length s.cpus → (soft : Soft) → AllReady (events_at n soft acts) (level_on n soft s)

-- the acts tell all, and are fair; where the CPUs agree they go on to, and find all ready
pub record Tale (acts : List Act) (s t : State) : Type 0 where
  pub tells : ActsTell acts s t
  pub fair : HandsAreFree s → FairOn acts s
  pub agree : AllAgree s.cpus → AllAgree t.cpus
  pub ready : AllAgree s.cpus → HandsAreFree s → ReadyOn acts s

-- the same of what this word does
abbrev pub Telling : (State → Outcome) → Type 0
Telling f = (s : State) → Tale (f s).acts s (f s).state

-- the hands are free afterwards
pub free_after : (acts : List Act) (s t : State) → Tale acts s t → HandsAreFree s → HandsAreFree t
free_after acts s t h free n within soft =
    let w = subst (λ k. n < k) h.tells.as_many within in
    ap (λ (l : SoftLevel). l.firer_hand) (h.tells.levels n w soft) ∙ (h.fair free n w soft).1

tells_alike : (s t : State) → Alike s t → Tale [] s t
tells_alike s t same = record {
  tells = told_alike s t same;
  fair = λ free n within soft. (tt, free n within soft);
  agree = subst AllAgree (sym same.0);
  ready = λ a free n within soft. tt;
}

tells_from : (acts : List Act) (s r t : State) → Alike s r → Tale acts r t → Tale acts s t
tells_from acts s r t same h = record {
  tells = told_from acts s r t same h.tells;
  fair = λ free n within soft. subst (λ l. Fair (events_at n soft acts) l) (level_same n soft)
      (h.fair (λ m w k. ap (λ (l : SoftLevel). l.firer_hand) (level_same m k)
      ∙ free m (subst (λ j. m < j) (ap length same.0) w) k)
      n (subst (λ j. n < j) (sym (ap length same.0)) within) soft);
  agree = λ a. h.agree (subst AllAgree (sym same.0) a);
  ready = λ a free n within soft. subst (λ l. AllReady (events_at n soft acts) l) (level_same n soft)
      (h.ready (subst AllAgree (sym same.0) a)
      (λ m w k. ap (λ (l : SoftLevel). l.firer_hand) (level_same m k) ∙ free m (subst (λ j. m < j) (ap length same.0) w) k)
      n (subst (λ j. n < j) (sym (ap length same.0)) within) soft);
}
  where
    level_same : (n : ℕ) (soft : Soft) → level_on n soft r ≡ level_on n soft s
    level_same n soft = ap (λ (cs : List Cpu). level_at soft (slice_index_or cs n absent)) same.0

tells_to : (acts : List Act) (s t u : State) → Tale acts s t → Alike t u → Tale acts s u
tells_to acts s t u h same = record {
  tells = told_to acts s t u h.tells same;
  fair = h.fair;
  agree = λ a. subst AllAgree (sym same.0) (h.agree a);
  ready = h.ready;
}

tells_append : (xs ys : List Act) (s t u : State) → Tale xs s t → Tale ys t u → Tale (xs ++ ys) s u
tells_append xs ys s t u first next = record {
  tells = told_append xs ys s t u first.tells next.tells;
  fair = λ free n within soft.
      let rest = next.fair (free_after xs s t first free) n (subst (λ k. n < k) (sym first.tells.as_many) within) soft in
      subst (λ es. Fair es (level_on n soft s)) (sym (events_append n soft xs ys))
      (fair_append (events_at n soft xs) (events_at n soft ys) (level_on n soft s) (first.fair free n within soft).0
      (subst (λ l. Fair (events_at n soft ys) l) (first.tells.levels n within soft) rest));
  agree = λ a. next.agree (first.agree a);
  ready = λ a free n within soft.
      let rest = next.ready (first.agree a) (free_after xs s t first free) n
      (subst (λ k. n < k) (sym first.tells.as_many) within) soft in
      subst (λ es. AllReady es (level_on n soft s)) (sym (events_append n soft xs ys))
      (ready_append (events_at n soft xs) (events_at n soft ys) (level_on n soft s) (first.ready a free n within soft)
      (subst (λ l. AllReady (events_at n soft ys) l) (first.tells.levels n within soft) rest));
}

tells_then : (o : Outcome) (f : State → Outcome) (s : State) → Tale o.acts s o.state → Telling f
    → Tale (followed_by o f).acts s (followed_by o f).state
tells_then o f s first next = tells_append o.acts (f o.state).acts s o.state (f o.state).state first (next o.state)

tells_each : {A : Type 0} → (f : A → State → Outcome) → ((x : A) → Telling (f x)) → (xs : List A) → Telling (each f xs)
tells_each f one [] s = tells_alike s s (refl, refl)
tells_each f one (x ∷ xs) s = tells_then (f x s) (each f xs) s (one x s) (tells_each f one xs)

tells_on : (n : ℕ) (f : Cpu → Here) → ((c : Cpu) → Local n c (f c)) → Telling (on_number n f)
tells_on n f local s = record {
  tells = told_on n f local s;
  fair = fair;
  agree = λ a. agree_set s.cpus (f (cpu_of n s)).cpu a ((local (cpu_of n s)).agrees (agree_at s.cpus a n)) n;
  ready = ready;
}
  where
    own : (soft : Soft) → (level_on n soft s).firer_hand ≡ None
        → Fair (events_at n soft (f (cpu_of n s)).acts) (level_on n soft s)
    own soft free = (local (cpu_of n s)).fair soft free

    fair : HandsAreFree s → FairOn (f (cpu_of n s)).acts s
    fair free m within soft = dite (ℕ_discrete m n)
        (λ same. subst (λ k. Fair (events_at k soft (f (cpu_of n s)).acts) (level_on k soft s)) (sym same)
        (own soft (free n (subst (λ k. k < length s.cpus) same within) soft)))
        (λ ne. subst (λ es. Fair es (level_on m soft s))
        (sym (other_events (f (cpu_of n s)).acts n m soft (local (cpu_of n s)).on ne)) (tt, free m within soft))

    ready : AllAgree s.cpus → HandsAreFree s → ReadyOn (f (cpu_of n s)).acts s
    ready a free m within soft = dite (ℕ_discrete m n)
        (λ same. subst (λ k. AllReady (events_at k soft (f (cpu_of n s)).acts) (level_on k soft s)) (sym same)
        ((local (cpu_of n s)).ready (agree_at s.cpus a n) soft (free n (subst (λ k. k < length s.cpus) same within) soft)))
        (λ ne. subst (λ es. AllReady es (level_on m soft s))
        (sym (other_events (f (cpu_of n s)).acts n m soft (local (cpu_of n s)).on ne)) tt)

-- ---- the words

tells_enter : (indexes : ℕ → ℕ) (n : ℕ) (x : CyclicState) → Telling (enter indexes n x)
tells_enter indexes n x s = tells_to _ s _ _
    (tells_on n (enter_here n (indexes s.admissions) x) (local_enter n (indexes s.admissions) x) s) (refl, refl)

tells_omni : (indexes : ℕ → ℕ) (id : ℕ) (e : Everywhere) → Telling (enter_each indexes id e)
tells_omni indexes id e s = tells_each (λ n t. enter indexes n (component id n e t.clock) t)
    (λ n t. tells_enter indexes n (component id n e t.clock) t) (cpus_online s) s

tells_bring : (indexes : ℕ → ℕ) (n : ℕ) (x : Option CyclicState) → Telling (bring indexes n x)
tells_bring indexes n None s = tells_alike s s (refl, refl)
tells_bring indexes n (Some x) s = tells_enter indexes n x s

tells_move : (indexes : ℕ → ℕ) (id source target : ℕ) → Telling (move indexes id source target)
tells_move indexes id source target s = tells_then (on_number source (take_here source id) s)
    (λ t. bring indexes target (cyclic_with_id id (cpu_of source s)) (put_at id (On target (is_bound id t)) t)) s
    (tells_on source (take_here source id) (local_take source id) s)
    (λ t. tells_from _ t (put_at id (On target (is_bound id t)) t) _ (refl, refl)
    (tells_bring indexes target (cyclic_with_id id (cpu_of source s)) (put_at id (On target (is_bound id t)) t)))

tells_move_unless : (there : Bool) (indexes : ℕ → ℕ) (id n : ℕ) → Telling (move_unless_there there indexes id n)
tells_move_unless true indexes id n s = tells_alike s s (refl, refl)
tells_move_unless false indexes id n s = tells_move indexes id (home_of id s) n s

tells_bind : (indexes : ℕ → ℕ) (id n : ℕ) → Telling (bind_id indexes id n)
tells_bind indexes id n s = tells_then (move_unless_there (home_of id s == n) indexes id n s)
    (λ t. nothing (put_at id (On n true) t)) s
    (tells_move_unless (home_of id s == n) indexes id n s) (λ t. tells_alike t (put_at id (On n true) t) (refl, refl))

pub kept_alike : (n : ℕ) (x : Option CyclicState) (s : State) → Alike s (keep_counts n x s)
kept_alike n None s = (refl, refl)
kept_alike n (Some x) s = (refl, refl)

tells_clear : (id n : ℕ) → Telling (clear id n)
tells_clear id n s = tells_from _ s (keep_counts n (cyclic_with_id id (cpu_of n s)) s) _ (kept_alike n (cyclic_with_id id
    (cpu_of n s)) s)
    (tells_on n (clear_here n id) (local_clear n id) (keep_counts n (cyclic_with_id id (cpu_of n s)) s))

tells_clear_if : (b : Bool) (id n : ℕ) → Telling (clear_if b id n)
tells_clear_if true id n s = tells_clear id n s
tells_clear_if false id n s = tells_alike s s (refl, refl)

tells_poll : (q : Questions) (id n : ℕ) → Telling (poll q id n)
tells_poll q id n s = tells_clear_if (q.outstanding n id (cpu_of n s) == 0) id n s

tells_begin : (q : Questions) (id n : ℕ) → Telling (begin q id n)
tells_begin q id n s = tells_then (on_number n (mark_here n id) s) (poll q id n) s (tells_on n (mark_here n id) (local_mark n
    id) s)
    (tells_poll q id n)

tells_begun : (q : Questions) (step : ℕ) (text : List ℕ) (id : ℕ) (ns : List ℕ) (o : Outcome) (s : State) → Tale o.acts s o.state
    → Tale (begun q step text id ns o).acts s (begun q step text id ns o).state
tells_begun q step text id [] o s h = tells_to o.acts s o.state (forgotten id o.state) h (refl, refl)
tells_begun q step text id (n ∷ ns) o s h = h

tells_remove : (q : Questions) (step : ℕ) (text : List ℕ) (id : ℕ) → Telling (remove_id q step text id)
tells_remove q step text id s =
    tells_begun q step text id (cpus_having id (each (begin q id) (cpus_having id s) s).state)
    (each (begin q id) (cpus_having id s) s) s (tells_each (begin q id) (tells_begin q id) (cpus_having id s) s)

tells_polled : (step : ℕ) (text : List ℕ) (id : ℕ) (ns : List ℕ) (o : Outcome) (s : State) → Tale o.acts s o.state
    → Tale (polled step text id ns o).acts s (polled step text id ns o).state
tells_polled step text id [] o s h = tells_to o.acts s o.state (forgotten id o.state) h (refl, refl)
tells_polled step text id (n ∷ ns) o s h = h

tells_poll_id : (q : Questions) (texts : List (List ℕ)) (step id : ℕ) → Telling (poll_id q texts step id)
tells_poll_id q texts step id s =
    tells_polled step (text_of_id id texts s.names) id (cpus_having id (each (poll q id) (numbers (is_open id) s) s).state)
    (each (poll q id) (numbers (is_open id) s) s) s
    (tells_each (poll q id) (tells_poll q id) (numbers (is_open id) s) s)

tells_turn : (indexes : ℕ → ℕ) (source id : ℕ) (t : Turn) → Telling (take_turn indexes source id t)
tells_turn indexes source id IsBound s = tells_alike s s (refl, refl)
tells_turn indexes source id IsPending s = tells_alike s s (refl, refl)
tells_turn indexes source id IsRefused s = tells_alike s s (refl, refl)
tells_turn indexes source id (Moves target) s = tells_move indexes id source target s

tells_turns : (q : Questions) (indexes : ℕ → ℕ) (source : ℕ) (ids : List ℕ) (s : State)
    → Tale (juggle_each q indexes source ids s).outcome.acts s (juggle_each q indexes source ids s).outcome.state
tells_turns q indexes source [] s = tells_alike s s (refl, refl)
tells_turns q indexes source (id ∷ ids) s =
    let o = take_turn indexes source id (turn q source id s) s in
    tells_append o.acts (juggle_each q indexes source ids o.state).outcome.acts s o.state
    (juggle_each q indexes source ids o.state).outcome.state
    (tells_turn indexes source id (turn q source id s) s) (tells_turns q indexes source ids o.state)

tells_retire : (n id : ℕ) → Telling (retire n id)
tells_retire n id s = tells_from _ s (keep_counts n (cyclic_with_id id (cpu_of n s)) s) _ (kept_alike n (cyclic_with_id id
    (cpu_of n s)) s)
    (tells_on n (take_here n id) (local_take n id) (keep_counts n (cyclic_with_id id (cpu_of n s)) s))

tells_switched : (n : ℕ) (f : Cpu → Cpu) → ((c : Cpu) → SameLevels c (f c)) → ((c : Cpu) → StateAgrees c → StateAgrees (f c))
    → Telling (on_number n (λ c. nothing_here (f c)))
tells_switched n f same agrees s = tells_on n (λ c. nothing_here (f c)) (λ c. local_nothing n c (f c) (same c) (agrees c)) s

tells_retire_all : (n : ℕ) → Telling (retire_all n)
tells_retire_all n s = tells_then (each (retire n) (ids_of_cpu n s) s) (on_number n (λ c. nothing_here (go_offline c))) s
    (tells_each (retire n) (tells_retire n) (ids_of_cpu n s) s)
    (tells_switched n go_offline (λ c. same_low_lock c (go_offline c) refl refl)
    (λ c h. agrees_with c (go_offline c) refl refl refl (λ id. refl) h))

tells_last : (b : Bool) (step n : ℕ) (o : Outcome) (s : State) → Tale o.acts s o.state
    → Tale (last_part b step n o).acts s (last_part b step n o).state
tells_last true step n o s h = h
tells_last false step n o s h = tells_then o (retire_all n) s h (tells_retire_all n)

tells_leaving : (q : Questions) (step n : ℕ) (ids : List ℕ) (j : Juggled) (s : State) → Tale j.outcome.acts s j.outcome.state
    → Tale (leaving q step n ids j).acts s (leaving q step n ids j).state
tells_leaving q step n (id ∷ ids) j s h = h
tells_leaving q step n [] j s h = tells_last (any_pending q n (ids_of_cpu n j.outcome.state) j.outcome.state) step n j.outcome s h

tells_return : (indexes : ℕ → ℕ) (n id : ℕ) (p : Placement) → Telling (return_here indexes n id p)
tells_return indexes n id (On m bound) s = tells_alike s s (refl, refl)
tells_return indexes n id (OnAll e) s =
    tells_to _ s _ _
    (tells_from _ s (without_ended n id s) _ (refl, refl)
    (tells_on n (place_here n (indexes s.admissions) (again id n e (s.ended id n) s.clock))
    (local_place n (indexes s.admissions) (again id n e (s.ended id n) s.clock)) (without_ended n id s)))
    (refl, refl)

tells_return_all : (indexes : ℕ → ℕ) (n : ℕ) (ps : List Placed) → Telling (return_all indexes n ps)
tells_return_all indexes n ps s = tells_then (on_number n (widen_here n (length ps)) s)
    (λ t. followed_by (each (return_of indexes n) ps t) (on_number n (λ c. nothing_here (go_online c)))) s
    (tells_on n (widen_here n (length ps)) (local_widen n (length ps)) s)
    (λ t. tells_then (each (return_of indexes n) ps t) (on_number n (λ c. nothing_here (go_online c))) t
    (tells_each (return_of indexes n) (λ p. tells_return indexes n p.id p.placement) ps t)
    (tells_switched n go_online (λ c. same_low_lock c (go_online c) refl refl)
    (λ c h. agrees_with c (go_online c) refl refl refl (λ id. refl) h)))

tells_does : (q : Questions) (texts : List (List ℕ)) (indexes : ℕ → ℕ) (step : ℕ) (x : Step)
    → Telling (does q texts indexes step x)
tells_does q texts indexes step (Add a) s = tells_from _ s (given a.name (On _ false) s) _ (refl, refl)
    (tells_enter indexes _ (added a s) (given a.name (On _ false) s))
tells_does q texts indexes step (Omni a) s = tells_from _ s (given a.name (OnAll (everywhere a)) s) _ (refl, refl)
    (tells_omni indexes (next_id s) (everywhere a) (given a.name (OnAll (everywhere a)) s))
  where
    next_id : State → ℕ
    next_id r = r.last_id + 1
tells_does q texts indexes step (Bind b) s = tells_bind indexes (id_of b.name s) b.cpu s
tells_does q texts indexes step (Unbind name) s = tells_alike s _ (refl, refl)
tells_does q texts indexes step (Reprogram r) s =
    tells_on (cpu_meant r.cpu (id_of r.name s) s) (reprogram_here (id_of r.name s) (magnitude r.moment))
    (local_reprogram _ (id_of r.name s) (magnitude r.moment)) s
tells_does q texts indexes step (Remove name) s = tells_remove q step (text_in texts name) (id_of name s) s
tells_does q texts indexes step (Advance now) s = tells_from _ s (record s { clock = now }) _ (refl, refl)
    (tells_each (λ n. on_number n (fire_here n now)) (λ n. tells_on n (fire_here n now) (local_fire n now)) (cpus_online s)
    (record s { clock = now }))
tells_does q texts indexes step (Softint i) s = tells_then (interrupt step i s) (poll_all q texts step) s
    (tells_on i.cpu (serve_here i.cpu i.level i.budget) (local_serve i.cpu i.level i.budget) s)
    (λ t. tells_each (poll_id q texts step) (tells_poll_id q texts step) (leaving_ids t) t)
tells_does q texts indexes step (Juggle n) s = tells_turns q indexes n (single_ids_of n s) s
tells_does q texts indexes step (Offline n) s =
    tells_leaving q step n (single_ids_of n (juggled q indexes n s).outcome.state) (juggled q indexes n s) s
    (tells_turns q indexes n (single_ids_of n s) s)
tells_does q texts indexes step (Online n) s = tells_return_all indexes n (staying_omni s) s
tells_does q texts indexes step Suspend s = tells_alike s (record s { suspended = true }) (refl, refl)
tells_does q texts indexes step Resume s = tells_alike s (record s { suspended = false }) (refl, refl)

tells_unless : (why : Option Refusal) (step : ℕ) (x : Step) (f : State → Outcome) → Telling f → Telling (unless why step x f)
tells_unless (Some why) step x f done s = tells_alike s (after_refusal x s) (refl, refl)
tells_unless None step x f done s = done s

pub tells_steps : (q : Questions) (texts : List (List ℕ)) (indexes : ℕ → ℕ) (step : ℕ) (xs : List Step)
    → Telling (steps_from q texts indexes step xs)
tells_steps q texts indexes step [] s = tells_alike s s (refl, refl)
tells_steps q texts indexes step (x ∷ xs) s = tells_then (word q texts indexes step x s)
    (steps_from q texts indexes (step + 1) xs) s
    (tells_unless (refusal_of q x s) step x (does q texts indexes step x) (tells_does q texts indexes step x) s)
    (tells_steps q texts indexes (step + 1) xs)

-- ---- the machine as it begins

start_hand : (k n ceiling : ℕ) (soft : Soft)
    → (level_at soft (slice_index_or (replicate k (begun_cpu ceiling)) n absent)).firer_hand ≡ None
start_hand zero n ceiling Low = refl
start_hand zero n ceiling Lock = refl
start_hand (suc k) zero ceiling Low = refl
start_hand (suc k) zero ceiling Lock = refl
start_hand (suc k) (suc n) ceiling soft = start_hand k n ceiling soft

pub start_free : (cpus ceiling names : ℕ) → HandsAreFree (start cpus ceiling names)
start_free cpus ceiling names n within soft = start_hand cpus n ceiling soft

pub fair_steps : SoftSideIsEnabled
fair_steps q texts indexes step xs s free =
    let h = tells_steps q texts indexes step xs s in (
      λ n within soft. (h.fair free n within soft).0,
      free_after (steps_from q texts indexes step xs s).acts s
          (steps_from q texts indexes step xs s).state h free,
    )

pub agree_steps : CpusAgree
agree_steps q texts indexes step xs s h = (tells_steps q texts indexes step xs s).agree h

pub ready_steps : FiringSideIsReady
ready_steps q texts indexes step xs s free agree n within soft =
    (tells_steps q texts indexes step xs s).ready agree free n within soft
