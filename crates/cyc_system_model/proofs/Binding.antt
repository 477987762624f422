-- A cyclic that is bound by a system goes where the definition says.
use Rattle.std.proofs.Common.{◌≡◌, ◌≢◌, ℕ, ◌<◌, ◌==◌, ◌⊎◌, inl, inr, eq-eqb, ne_eqb, true, false, cond, not, List, [], ◌∷◌, ◌++◌}
use Rattle.std.proofs.Common.{length, find, get_or, Option, Some, None, refl, ap, sym, ◌∙◌, subst, arith}
use Rattle.std.specs.Prelude.{slice_set, nat_lt, Ok, Err}
use Rattle.std.proofs.lemmas.Bool.Decides.{nat_tests, eqb_tells}
use Rattle.std.proofs.lemmas.List.{get_or-set_other, append-nil}
use mathlib.Core.Logic.{dite}
use native.Mathlib.Decide.{ℕ_discrete}
use Rattle.cyc_types.specs.declared.level.Soft.{Soft}
use Rattle.cyc_types.specs.declared.refusal.Refusal.{Refusal}
use Rattle.cyc_types.specs.declared.refusal.Refusal.TheVariants.{NoCyclic, Omnipresent, NoCpu, Offline, Pending}
use Rattle.cyc_core.specs.Tables.{Tables}
use Rattle.cyc_script.specs.declared.step.Bind.{Bind as BindStep}
use Rattle.cyc_script.specs.declared.step.Step.TheVariants as steps
use Rattle.cyc_cpu.specs.declared.moving.Taken.{Taken}
use Rattle.cyc_cpu.specs.Soft.{raise_tables}
use Rattle.cyc_cpu.specs.Calls.{AskPending, Reserve, TakeNow, Widen, Place}
use Rattle.cyc_places.specs.declared.record.Placement.TheVariants as placements
use Rattle.cyc_system.specs.Cpus.{CpusView, Works}
use Rattle.cyc_system.specs.Shifting.{moving}
use Rattle.cyc_system.specs.System.{SystemView}
use Rattle.cyc_system.specs.Refusals as why
use Rattle.cyc_system.specs.Binding.{HasHome, Records, Binds}
use Rattle.cyc_system.specs.Calls.{Changes, Bind}
use Rattle.cyc_system.proofs.Spots.{same_some, none_some}
use Rattle.cyc_model.specs.Acts.{Act, calls_of, events_at}
use Rattle.cyc_model.specs.Cpu.{CyclicState, Cpu, is_of, cyclic_with_id, has_cyclic}
use Rattle.cyc_model.specs.Serving.{level_at}
use Rattle.cyc_model.specs.Free.{AllCanBeAdmitted}
use Rattle.cyc_model.specs.Moving.{enter_here, take_here}
use Rattle.cyc_model.specs.Questions.{plain, outstanding_here}
use Rattle.cyc_model.specs.State.{State, Outcome, On, absent, cpu_of, on_number, nothing, told, followed_by}
use Rattle.cyc_model.specs.Places.{id_of, is_bound, home_of, put_at}
use Rattle.cyc_types.specs.Reasons.{first_refusal, or_else, when, busy}
use Rattle.cyc_model.specs.Refusals.{is_no_cpu, cpu_is_offline}
use Rattle.cyc_model.specs.Add.{cyclic_that_expired}
use Rattle.cyc_model.specs.Bind.{
  cyclic_is_absent,
  cyclic_is_omni,
  pending,
  bring,
  move,
  move_refusals,
  unless_there,
  move_unless_there,
}
use Rattle.cyc_model.specs.Bind.{bind_id, bind_id_refusal}
use Rattle.cyc_model.proofs.Events.{calls_append, events_append}
use Rattle.cyc_model.proofs.Local.{local_enter, local_take, other_events}
use Rattle.cyc_system_model.specs.Answers.{IsRefused, why_no_room, why_not_taken, IsTakenOf}
use Rattle.cyc_system_model.proofs.Free.{none_admitted, take_none}
use Rattle.cyc_text.specs.Lines.{accepted as accepted_line}
use Rattle.cyc_system_model.specs.Shown.{shown_cpus, ShowsSystem, AreTied, IsSystem}
use Rattle.cyc_system_model.specs.SystemWords.{GivesIndexes, ComesTo, IsDone, IsRefusedFor}
use Rattle.cyc_system_model.proofs.Cpus.{cpu_at, cpu_is, done_at}
use Rattle.cyc_system_model.proofs.Asking.{home_shown, same_no_cyclic, same_omnipresent, same_no_cpu, same_offline}
use Rattle.cyc_system_model.proofs.Asking.{no_memory_when, no_memory_else, some_refused, both_none, or_none, same_error}
use Rattle.cyc_system_model.proofs.Entering.{entered, unchanged, same_shown}
use Rattle.cyc_system_model.proofs.Replacing.{replaced_shows, replaced_twice}

-- ---- the cyclic that leaves

found_id : (id : ℕ) (cs : List CyclicState) (y : CyclicState) → find (is_of id) cs ≡ Some y → y.timer.id ≡ id
found_id id [] y is = absurd (none_some is)
found_id id (c ∷ cs) y is = pick (eqb_tells c.timer.id id) (found_id id cs y)
  where
    pick : (((c.timer.id == id) ≡ true) × (c.timer.id ≡ id)) ⊎ (((c.timer.id == id) ≡ false) × (c.timer.id ≢ id))
        → (find (is_of id) cs ≡ Some y → y.timer.id ≡ id) → y.timer.id ≡ id
    pick (inl (at, same)) rest = ap (λ (d : CyclicState). d.timer.id)
        (sym (same_some (sym (ap (λ b. cond b (Some c) (find (is_of id) cs)) at) ∙ is))) ∙ same
    pick (inr (at, ne)) rest = rest (sym (ap (λ b. cond b (Some c) (find (is_of id) cs)) at) ∙ is)

pub taken_is : (id : ℕ) (taken : Taken) (c : Cpu) → IsTakenOf id taken c
    → cyclic_with_id id c ≡ Some (cyclic_that_expired id taken.level taken.interval taken.moment taken.sent.sent taken.sent.lost)
taken_is id taken c (y, found, level, interval, moment, sent, lost) = found ∙ ap Some (λ z. record {
  timer = record {
    id = found_id id c.cyclics y found z;
    level = sym level z;
    interval = sym interval z;
    moment =
        sym moment z;
    expired = sym sent z;
  };
  lost = sym lost z;
})

-- ---- a move

-- what a move did to the CPUs
pub record Went (id source target : ℕ) (x : CyclicState) (v w : CpusView Tables) : Type 0 where
  pub index : ℕ
  pub found : cyclic_with_id id (cpu_at v source) ≡ Some x
  pub middle : List Cpu
  pub left : middle ≡ slice_set (shown_cpus v) source (take_here source id (cpu_at v source)).cpu
  pub cpus : shown_cpus w ≡ slice_set middle target (enter_here target index x (get_or middle target absent)).cpu
  pub took : (q : ℕ) → calls_of q (take_here source id (cpu_at v source)).acts ≡ 0
  pub came : (q : ℕ) → calls_of q (enter_here target index x (get_or middle target absent)).acts ≡ 0
  pub free : (soft : Soft) → AllCanBeAdmitted
      (events_at target soft (enter_here target index x (get_or middle target absent)).acts)
      (level_at soft (get_or middle target absent))
  pub still : busy (cpu_at v source).removal ≡ None
  pub quiet : outstanding_here id (cpu_at v source) ≡ 0
  pub room : why_no_room 1 (cpu_at v target) ≡ None
  pub source_there : source < length (shown_cpus v)
  pub target_there : target < length (shown_cpus v)

busy_not : (id : ℕ) (c : Cpu) → why_not_taken id c ≡ None → busy c.removal ≡ None
busy_not id c none = (both_none (busy c.removal) _ (both_none (when (not (has_cyclic id c)) NoCyclic) _ none).1).0

pub went : (id source target : ℕ) (taken : Taken) (v w : CpusView Tables) → length v.online ≡ length v.cpus
    → AreTied v → Works raise_tables (moving id source target taken) v w
    → Went id source target (cyclic_that_expired id taken.level taken.interval taken.moment taken.sent.sent taken.sent.lost) v w
went id source target taken v w long ties (u1, ask, (u2, reserve, (u3, take, (u4, wide, (u5, put, same))))) =
    let a = done_at source (AskPending id (Some 0)) v u1 long ties ask in
    let r = done_at target (Reserve 1 (Ok tt)) u1 u2 a.long a.tied reserve in
    let t = done_at source (TakeNow id (Ok taken)) u2 u3 r.long r.tied take in
    let b = done_at target (Widen 1) u3 u4 t.long t.tied wide in
    let p = done_at target (Place id taken.level taken.interval taken.moment taken.sent) u4 u5 b.long b.tied put in
    let e = entered target id taken.level taken.interval taken.moment taken.sent u3 u4 u5 b p in
    let asked : shown_cpus u1 ≡ shown_cpus v = unchanged v u1 source a.cpus in
    let before : shown_cpus u2 ≡ shown_cpus v = unchanged u1 u2 target r.cpus ∙ asked in
    record {
      index = p.index;
      found = ap (λ cs. cyclic_with_id id (get_or cs source absent)) (sym before)
          ∙ taken_is id taken (cpu_at u2 source) (t.answered tt).1;
      middle = shown_cpus u3;
      left = t.cpus ∙ ap (λ cs. slice_set cs source (take_here source id (get_or cs source absent)).cpu) before;
      cpus = ap shown_cpus (sym same) ∙ e.cpus;
      took = λ q. ap (λ cs. calls_of q (take_here source id (get_or cs source absent)).acts) (sym before) ∙ t.quiet q;
      came = e.quiet;
      free = e.free;
      still = ap (λ cs. busy (get_or cs source absent).removal) (sym before) ∙ busy_not id (cpu_at u2 source) (t.answered tt).0;
      quiet = sym (a.answered tt).1;
      room = ap (λ cs. why_no_room 1 (get_or cs target absent)) (sym asked) ∙ r.answered tt;
      source_there = a.within;
      target_there = subst (λ cs. target < length cs) asked r.within;
    }

-- the definition's move of a cyclic that was found, and what it is bound to after it
abbrev went_to : (ℕ → ℕ) → ℕ → ℕ → ℕ → Option CyclicState → State → Outcome
went_to indexes id source target o s = followed_by
    (followed_by (on_number source (take_here source id) s) (λ t. bring indexes target o (put_at id (On target (is_bound id t))
    t)))
    (λ t. nothing (put_at id (On target true) t))

module _ (id source target : ℕ) (x : CyclicState) (s : State) (v w : SystemView Tables) (sys : IsSystem v) (h : ShowsSystem s v)
    (records : Records id (placements.On target true) v w) (ne : source ≢ target) (d : Went id source target x v.cpus w.cpus)
  where
    middle_is : d.middle ≡ slice_set s.cpus source (take_here source id (get_or s.cpus source absent)).cpu
    middle_is = d.left ∙ ap (λ cs. slice_set cs source (take_here source id (get_or cs source absent)).cpu) (sym h.cpus)

    abbrev taking : List Act
    taking = (take_here source id (get_or s.cpus source absent)).acts

    abbrev coming : ℕ → List Act
    coming index = (enter_here target index x
        (get_or (slice_set s.cpus source (take_here source id (get_or s.cpus source absent)).cpu) target absent)).acts

    target_same : get_or (slice_set s.cpus source (take_here source id (get_or s.cpus source absent)).cpu) target absent
        ≡ get_or s.cpus target absent
    target_same = get_or-set_other s.cpus source target _ absent (λ e. ne (sym e))

    can_enter : (index : ℕ) → index ≡ d.index → (soft : Soft)
        → AllCanBeAdmitted (events_at target soft (coming index)) (level_at soft (get_or s.cpus target absent))
    can_enter index is soft = subst (λ c. AllCanBeAdmitted (events_at target soft (coming index)) (level_at soft c)) target_same
        (subst (λ b. b) (λ z. AllCanBeAdmitted (events_at target soft
        (enter_here target (sym is z) x (get_or (middle_is z) target absent)).acts)
        (level_at soft (get_or (middle_is z) target absent))) (d.free soft))

    can_all : (index : ℕ) → index ≡ d.index → (n : ℕ) (soft : Soft)
        → AllCanBeAdmitted (events_at n soft ((taking ++ coming index) ++ [])) (level_at soft (get_or s.cpus n absent))
    can_all index is n soft = subst (λ acts. AllCanBeAdmitted (events_at n soft acts) (level_at soft (get_or s.cpus n absent)))
        (sym (append-nil (taking ++ coming index)))
        (subst (λ es. AllCanBeAdmitted es (level_at soft (get_or s.cpus n absent)))
        (sym (events_append n soft taking (coming index))) (dite (ℕ_discrete n target) there elsewhere))
      where
        there : n ≡ target → AllCanBeAdmitted (events_at n soft taking ++ events_at n soft (coming index))
            (level_at soft (get_or s.cpus n absent))
        there e = subst (λ es. AllCanBeAdmitted (es ++ events_at n soft (coming index)) (level_at soft (get_or s.cpus n absent)))
            (sym (other_events taking source n soft (local_take source id (get_or s.cpus source absent)).on
            (λ k. ne (sym k ∙ e))))
            (subst (λ k. AllCanBeAdmitted (events_at k soft (coming index)) (level_at soft (get_or s.cpus k absent))) (sym e)
            (can_enter index is soft))

        elsewhere : n ≢ target → AllCanBeAdmitted (events_at n soft taking ++ events_at n soft (coming index))
            (level_at soft (get_or s.cpus n absent))
        elsewhere other = subst (λ es. AllCanBeAdmitted (events_at n soft taking ++ es) (level_at soft (get_or s.cpus n absent)))
            (sym (other_events (coming index) target n soft (local_enter target index x _).on other))
            (subst (λ es. AllCanBeAdmitted es (level_at soft (get_or s.cpus n absent)))
            (sym (append-nil (events_at n soft taking)))
            (none_admitted taking n soft (level_at soft (get_or s.cpus n absent))
            (take_none source id (get_or s.cpus source absent))))

    went_comes : (indexes : ℕ → ℕ) (step : ℕ) → indexes s.admissions ≡ d.index
        → ComesTo (d.index ∷ []) s (told (accepted_line step) (went_to indexes id source target (Some x) s)) w
    went_comes indexes step is = record {
      shows = replaced_shows s _ v w h sys.rising id target true records
          (sym (d.cpus ∙ (λ z. slice_set (middle_is z) target
          (enter_here target (sym is z) x (get_or (middle_is z) target absent)).cpu)))
          (replaced_twice id (On target true) _ s.placed) (λ i m. refl) refl;
      admissions = refl;
      free = can_all (indexes s.admissions) is;
    }

    went_quiet : (indexes : ℕ → ℕ) → indexes s.admissions ≡ d.index → (q : ℕ)
        → calls_of q (went_to indexes id source target (Some x) s).acts ≡ 0
    went_quiet indexes is q =
        let all = ap (λ acts. calls_of q acts) (append-nil (taking ++ coming (indexes s.admissions))) in
        let whole = calls_append q taking (coming (indexes s.admissions)) in
        let first = ap (λ cs. calls_of q (take_here source id (get_or cs source absent)).acts) h.cpus ∙ d.took q in
        let rest = (λ z. calls_of q (enter_here target (is z) x (get_or (sym middle_is z) target absent)).acts) ∙ d.came q in
        omega (arith, all, whole, first, rest)

-- ---- the reasons for a refusal

four_none : (a b c d x : Option Refusal) → or_else a (or_else b (or_else c (or_else d None))) ≡ None
    → or_else a (or_else b (or_else c (or_else d x))) ≡ x
four_none None None None None x none = refl
four_none None None None (Some e) x none = absurd (let isnt : Some e ≡ None = none in cc)
four_none None None (Some e) d x none = absurd (let isnt : Some e ≡ None = none in cc)
four_none None (Some e) c d x none = absurd (let isnt : Some e ≡ None = none in cc)
four_none (Some e) b c d x none = absurd (let isnt : Some e ≡ None = none in cc)

four_some : (e : Refusal) (a b c d x : Option Refusal) → or_else a (or_else b (or_else c (or_else d None))) ≡ Some e
    → or_else a (or_else b (or_else c (or_else d x))) ≡ Some e
four_some e (Some a) b c d x is = is
four_some e None (Some b) c d x is = is
four_some e None None (Some c) d x is = is
four_some e None None None (Some d) x is = is
four_some e None None None None x is = absurd (let isnt : None ≡ Some e = is in cc)

-- ---- a cyclic that is bound

abbrev bound_after : ℕ → ℕ → ℕ → Outcome → Outcome
bound_after step id n o = told (accepted_line step) (followed_by o (λ t. nothing (put_at id (On n true) t)))

pub is_less : (k : ℕ) → 0 < k → nat_lt 0 k ≡ true
is_less k some = grind (arith, nat_tests)

module _ (id n : ℕ) (s : State) (v w : SystemView Tables) (sys : IsSystem v) (h : ShowsSystem s v) where
  abbrev four : Option Refusal
  four = or_else (cyclic_is_absent id s) (or_else (cyclic_is_omni id s) (or_else (is_no_cpu n s) (or_else (cpu_is_offline n s)
      None)))

  abbrev moving_whys : Option Refusal
  moving_whys = first_refusal (unless_there (home_of id s == n) (move_refusals plain id (home_of id s) n s))

  first_four : four ≡ or_else (why.no_cyclic id v)
      (or_else (why.omnipresent id v) (or_else (why.no_cpu n v) (or_else (why.offline_cpu n v) None)))
  first_four = λ z. or_else (same_no_cyclic s v h sys.agrees.long id z) (or_else (same_omnipresent s v h sys.agrees.long id z)
      (or_else (same_no_cpu s v h sys.agrees.long n z) (or_else (same_offline s v h sys.agrees.long n z) None)))

  only_moving : four ≡ None → bind_id_refusal plain id n s ≡ moving_whys
  only_moving none = four_none (cyclic_is_absent id s) (cyclic_is_omni id s) (is_no_cpu n s) (cpu_is_offline n s) moving_whys none

  is_there : (home : ℕ) → HasHome id home v → home ≡ n → (home_of id s == n) ≡ true
  is_there home at e = eq-eqb (home_of id s) n (home_shown id home s v h sys.rising at ∙ e)

  not_there : (home : ℕ) → HasHome id home v → home ≢ n → (home_of id s == n) ≡ false
  not_there home at ne = ne_eqb (home_of id s) n (λ e. ne (sym (home_shown id home s v h sys.rising at) ∙ e))

  abbrev from : ℕ → Option Refusal
  from home = or_else (busy (cpu_of home s).removal)
      (or_else (pending plain home id s) (or_else (why_no_room 1 (cpu_of n s)) None))

  from_home : (home : ℕ) → HasHome id home v → home ≢ n → moving_whys ≡ from home
  from_home home at ne = ap (λ t. first_refusal (unless_there t (move_refusals plain id (home_of id s) n s)))
      (not_there home at ne)
      ∙ ap (λ k. first_refusal (move_refusals plain id k n s)) (home_shown id home s v h sys.rising at)

  -- the CPU of a number, as the machine has it
  at_cpu : (k : ℕ) → cpu_of k s ≡ cpu_at v.cpus k
  at_cpu k = ap (λ cs. get_or cs k absent) h.cpus

  none_pending : (home : ℕ) → outstanding_here id (cpu_at v.cpus home) ≡ 0 → pending plain home id s ≡ None
  none_pending home quiet = ap (λ c. when (nat_lt 0 (outstanding_here id c)) Pending) (at_cpu home)
      ∙ ap (λ k. when (nat_lt 0 k) Pending) quiet

  pub binds : Binds raise_tables id n (Ok tt) v w
      → first_refusal (cyclic_is_absent id s ∷ cyclic_is_omni id s ∷ is_no_cpu n s ∷ cpu_is_offline n s ∷ []) ≡ None
      → (bind_id_refusal plain id n s ≡ None) × (given : List ℕ)
      × ((indexes : ℕ → ℕ) (step : ℕ) → GivesIndexes indexes s.admissions given
      → ComesTo given s (told (accepted_line step) (bind_id indexes id n s)) w
      × ((q : ℕ) → calls_of q (bind_id indexes id n s).acts ≡ 0))
  binds (home, at, inl (e, ok, cpus), records) none =
      let there = is_there home at e in (
        only_moving none ∙ ap (λ t. first_refusal (unless_there t (move_refusals plain id (home_of id s) n s))) there,
        [],
        λ indexes step given. (
          subst (λ t. ComesTo [] s (bound_after step id n (move_unless_there t indexes id n s)) w) (sym there) (record {
            shows = replaced_shows s _ v w h sys.rising id n true records (h.cpus ∙ ap shown_cpus (sym cpus)) refl
                (λ i m. refl) refl;
            admissions = omega arith;
            free = λ m soft. tt;
          }),
          λ q. subst (λ t. calls_of q (bound_after step id n (move_unless_there t indexes id n s)).acts ≡ 0) (sym there) refl,
        ),
      )
  binds (home, at, inr (ne, (taken, works)), records) none =
      let d = went id home n taken v.cpus w.cpus sys.agrees.long sys.tied works in
      let x = cyclic_that_expired id taken.level taken.interval taken.moment taken.sent.sent taken.sent.lost in
      let hs = home_shown id home s v h sys.rising at in
      let found : cyclic_with_id id (cpu_of home s) ≡ Some x = ap (cyclic_with_id id) (at_cpu home) ∙ d.found in (
        only_moving none ∙ from_home home at ne ∙ (λ z. or_else ((ap (λ (c : Cpu). busy c.removal) (at_cpu home) ∙ d.still) z)
            (or_else (none_pending home d.quiet z) (or_else ((ap (why_no_room 1) (at_cpu n) ∙ d.room) z) None))),
        d.index ∷ [],
        λ indexes step given. (
          subst (λ t. ComesTo (d.index ∷ []) s (bound_after step id n (move_unless_there t indexes id n s)) w)
              (sym (not_there home at ne))
              (subst (λ k. ComesTo (d.index ∷ []) s (bound_after step id n (move indexes id k n s)) w) (sym hs)
              (subst (λ o. ComesTo (d.index ∷ []) s (told (accepted_line step) (went_to indexes id home n o s)) w) (sym found)
              (went_comes id home n x s v w sys h records ne d indexes step given.0))),
          λ q. subst (λ t. calls_of q (bound_after step id n (move_unless_there t indexes id n s)).acts ≡ 0)
              (sym (not_there home at ne))
              (subst (λ k. calls_of q (bound_after step id n (move indexes id k n s)).acts ≡ 0) (sym hs)
              (subst (λ o. calls_of q (went_to indexes id home n o s).acts ≡ 0) (sym found)
              (went_quiet id home n x s v w sys h records ne d indexes given.0 q))),
        ),
      )

  pub not_bound : (e : Refusal) → Binds raise_tables id n (Err e) v w → four ≡ None → IsRefused e (bind_id_refusal plain id n s)
      × ShowsSystem s w
  not_bound e (home, at, inl (there, ok, cpus), records, last) none = absurd (let isnt : Err e ≡ Ok tt = ok in cc)
  not_bound e (home, at, inr (ne, inl (removed, (cpu, is, opened), why_is, same)), records, last) none = (
    subst (λ x. IsRefused x (bind_id_refusal plain id n s)) (sym why_is)
        (only_moving none ∙ from_home home at ne
        ∙ ap (λ o. or_else o (or_else (pending plain home id s) (or_else (why_no_room 1 (cpu_of n s)) None)))
        (ap (λ (c : Cpu). busy c.removal) (at_cpu home ∙ cpu_is v.cpus home cpu sys.agrees.long is) ∙ ap busy opened)),
    same_shown s v w h (ap shown_cpus same) records last,
  )
  not_bound e (home, at, inr (ne, inr (inl ((cpu, is, still), k, some, why_is, (u, ask, same)))), records, last) none =
      let a = done_at home (AskPending id (Some k)) v.cpus u sys.agrees.long sys.tied ask in (
        subst (λ x. IsRefused x (bind_id_refusal plain id n s)) (sym why_is)
            (only_moving none ∙ from_home home at ne ∙ (λ z. or_else
            ((ap (λ (c : Cpu). busy c.removal) (at_cpu home ∙ cpu_is v.cpus home cpu sys.agrees.long is) ∙ ap busy still) z)
            (or_else ((ap (λ c. when (nat_lt 0 (outstanding_here id c)) Pending) (at_cpu home)
            ∙ ap (λ m. when (nat_lt 0 m) Pending) (sym (a.answered tt).1)
            ∙ ap (λ b. when b Pending) (is_less k some)) z) (or_else (why_no_room 1 (cpu_of n s)) None)))),
        same_shown s v w h (ap shown_cpus (sym same) ∙ unchanged v.cpus u home a.cpus) records last,
      )
  not_bound e (home, at, inr (ne, inr (inr ((cpu, is, still), (u1, ask, (u2, reserve, same))))), records, last) none =
      let a = done_at home (AskPending id (Some 0)) v.cpus u1 sys.agrees.long sys.tied ask in
      let r = done_at n (Reserve 1 (Err e)) u1 u2 a.long a.tied reserve in
      let asked = unchanged v.cpus u1 home a.cpus in (
        subst (IsRefused e) (sym (only_moving none ∙ from_home home at ne ∙ (λ z. or_else
            ((ap (λ (c : Cpu). busy c.removal) (at_cpu home ∙ cpu_is v.cpus home cpu sys.agrees.long is) ∙ ap busy still) z)
            (or_else (none_pending home (sym (a.answered tt).1) z)
            (or_else ((ap (why_no_room 1) (at_cpu n) ∙ ap (λ cs. why_no_room 1 (get_or cs n absent)) (sym asked)) z) None)))
            ∙ or_none (why_no_room 1 (cpu_at u1 n)))) (r.answered tt),
        same_shown s v w h (ap shown_cpus (sym same) ∙ unchanged u1 u2 n r.cpus ∙ asked) records last,
      )

module _ (b : BindStep) (s : State) (v w : SystemView Tables) (sys : IsSystem v) (h : ShowsSystem s v) where
  pub bind_accepted : Changes raise_tables v (Bind (id_of b.name s) (Some b.cpu) (Ok tt)) w → IsDone (steps.Bind b) s w
  bind_accepted (inl (e, some, answer, same)) = absurd (let isnt : Ok tt ≡ Err e = answer in cc)
  bind_accepted (inr (none, did)) =
      let (accepted, given, comes) = binds (id_of b.name s) b.cpu s v w sys h did (first_four (id_of b.name s) b.cpu s v w sys h
      ∙ none) in
      record {
        accepted = accepted;
        given = given;
        comes = λ texts indexes step at. (comes indexes step at).0;
        quiet = λ texts indexes step at. (comes indexes step at).1;
      }

  pub bind_refused : (e : Refusal) → Changes raise_tables v (Bind (id_of b.name s) (Some b.cpu) (Err e)) w
      → IsRefusedFor e (steps.Bind b) s w
  bind_refused e (inl (own, some, answer, same)) =
      let id = id_of b.name s in
      let is : four id b.cpu s v w sys h ≡ Some e = first_four id b.cpu s v w sys h ∙ some
      ∙ ap Some (sym (same_error (Unit {0}) e own (Err e) (Err own) refl refl answer)) in (
        some_refused e (four id b.cpu s v w sys h) (bind_id_refusal plain id b.cpu s) is
            (no_memory_else (cyclic_is_absent id s) _ (no_memory_when _ NoCyclic tt)
            (no_memory_else (cyclic_is_omni id s) _ (no_memory_when _ Omnipresent tt)
            (no_memory_else (is_no_cpu b.cpu s) _ (no_memory_when _ NoCpu tt)
            (no_memory_else (cpu_is_offline b.cpu s) None (no_memory_when _ Offline tt) tt))))
            (four_some e (cyclic_is_absent id s) (cyclic_is_omni id s) (is_no_cpu b.cpu s) (cpu_is_offline b.cpu s) _ is),
        subst (ShowsSystem s) (sym same) h,
      )
  bind_refused e (inr (none, did)) = not_bound (id_of b.name s) b.cpu s v w sys h e did
      (first_four (id_of b.name s) b.cpu s v w sys h ∙ none)
