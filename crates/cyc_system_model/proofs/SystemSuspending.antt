-- A suspend and a resume of a system are the words of a script.
use Rattle.std.proofs.Common.{◌≡◌, ℕ, zero, suc, ◌<◌, inl, inr, Bool, true, false, not, List, [], ◌∷◌, length, Some, None, refl}
use Rattle.std.proofs.Common.{ap, sym, ◌∙◌, subst, arith}
use Rattle.std.specs.Prelude.{slice_set, Ok, Err}
use Rattle.std.specs.List.{slice_get}
use Rattle.std.specs.Option.{option_map, option_map_or}
use Rattle.cyc_types.specs.Reasons.{when, or_else}
use Rattle.cyc_types.specs.declared.refusal.Refusal.{Refusal}
use Rattle.cyc_types.specs.declared.refusal.Refusal.TheVariants as reason
use Rattle.cyc_core.specs.Tables.{Tables}
use Rattle.cyc_cpu.specs.Cpu.{CpuView}
use Rattle.cyc_cpu.specs.Soft.{raise_tables}
use Rattle.cyc_cpu.specs.Calls.{CpuCall, CpuChanges as CpuChanges}
use Rattle.cyc_cpu.specs.Calls as cpu
use Rattle.cyc_script.specs.declared.step.Step.TheVariants as steps
use Rattle.cyc_system.specs.Cpus.{CpusView, IsCpu, DoesAt, Works, on}
use Rattle.cyc_system.specs.System.{SystemView}
use Rattle.cyc_system.specs.Adding.{OnlyWorks}
use Rattle.cyc_system.specs.Agreement.{Agrees}
use Rattle.cyc_system.specs.Calls.{Changes, Suspend, Resume}
use Rattle.cyc_system.proofs.Spots.{same_some, none_some, get_some}
use Rattle.cyc_agreement.specs.Suspending.{is_suspended, suspended, not_suspended, on_each}
use Rattle.cyc_agreement.proofs.Arriving.{between}
use Rattle.cyc_agreement.proofs.Marked.{beside_each, marked_all}
use Rattle.cyc_model.specs.State.{State}
use Rattle.cyc_model.specs.Suspend.{suspend_refusal}
use Rattle.cyc_model.specs.Resume.{resume_refusal}
use Rattle.cyc_system_model.specs.ShownCpu.{shown_cpu}
use Rattle.cyc_system_model.specs.Shown.{shown_list, shown_cpus, ShowsSystem, IsSystem}
use Rattle.cyc_system_model.specs.SystemWords.{IsDone, IsRefusedFor}
use Rattle.cyc_system_model.proofs.Asking.{or_none, some_refused, same_error, no_memory_when, no_memory_else}
use Rattle.cyc_system_model.proofs.Entering.{same_shown}

-- ---- the CPU of number 0

online_some : (os : List Bool) (n : ℕ) → option_map_or (λ online. online) (slice_get os n) false ≡ true → 0 < length os
online_some [] n is = absurd (let no : false ≡ true = is in cc)
online_some (o ∷ os) n is = omega arith

some_cpu : (v : SystemView Tables) → Agrees v → 0 < length v.cpus.cpus
some_cpu v a = let low = online_some v.cpus.online a.some.0 a.some.1 in let long = a.long in omega (arith, low, long)

abbrev mark_of : CpuView Tables → Bool
mark_of x = x.suspended

-- the system is suspended where CPU 0 is
mark_first : (v : SystemView Tables) (x : CpuView Tables) → IsCpu 0 x v.cpus → is_suspended v ≡ x.suspended
mark_first v x is = ap (λ o. option_map_or (λ suspended. suspended) (option_map mark_of o) false) is

-- and so is each of its CPUs
pub mark_at : (v : SystemView Tables) → Agrees v → (n : ℕ) (x : CpuView Tables) → IsCpu n x v.cpus → x.suspended ≡ is_suspended v
mark_at v a n x is =
    let (y, at) = get_some v.cpus.cpus 0 (some_cpu v a) in
    a.suspended n 0 x.suspended y.suspended (ap (option_map mark_of) is) (ap (option_map mark_of) at) ∙ sym (mark_first v y at)

-- ---- the CPUs look as before

same_list : (os : List Bool) (vs : List (CpuView Tables)) (n : ℕ) (x y : CpuView Tables) → slice_get vs n ≡ Some x
    → ((o : Bool) → shown_cpu o y ≡ shown_cpu o x) → shown_list os (slice_set vs n y) ≡ shown_list os vs
same_list [] vs n x y is same = refl
same_list (o ∷ os) [] n x y is same = absurd (none_some is)
same_list (o ∷ os) (v ∷ vs) zero x y is same = ap (λ c. c ∷ shown_list os vs) (same o ∙ ap (shown_cpu o) (sym (same_some is)))
same_list (o ∷ os) (v ∷ vs) (suc n) x y is same = ap (λ cs. shown_cpu o v ∷ cs) (same_list os vs n x y is same)

module _ (call : CpuCall) (mark : Bool)
    (marks : (x y : CpuView Tables) → CpuChanges raise_tables x call y → y ≡ record x { suspended = mark }) where
  look_one : (n : ℕ) (v w : CpusView Tables) → DoesAt raise_tables v (on n call) w → shown_cpus w ≡ shown_cpus v
  look_one n v w d = ap shown_cpus d.rest
      ∙ same_list v.online v.cpus n d.before d.after d.here (λ o. ap (shown_cpu o) (marks d.before d.after d.change))

  look_each : (n : ℕ) (v w : CpusView Tables) → Works raise_tables (on_each call n) v w → shown_cpus w ≡ shown_cpus v
  look_each zero v w same = ap shown_cpus (sym same)
  look_each (suc n) v w works =
      let (u, first, rest) = between (DoesAt raise_tables) v (on_each call n) (on n call ∷ []) w works in
      let (x, did, last) = rest in
      ap shown_cpus (sym last) ∙ look_one n u x did ∙ look_each n v u first

  module _ (s : State) (v w : SystemView Tables) (a : Agrees v) (h : ShowsSystem s v)
      (only : OnlyWorks raise_tables (on_each call (length v.cpus.cpus)) v w) where
    shows_marked : ShowsSystem (record s { suspended = mark }) w
    shows_marked =
        let (works, records, last) = only in
        same_shown (record s { suspended = mark }) v w
        (record { cpus = h.cpus; placed = h.placed; ended = h.ended; fresh = h.fresh; last = h.last })
        (look_each (length v.cpus.cpus) v.cpus w.cpus works) records last

    is_marked : is_suspended w ≡ mark
    is_marked =
        let (works, records, last) = only in
        let low = some_cpu v a in
        let long = (beside_each raise_tables call mark marks (length v.cpus.cpus) v.cpus w.cpus works).long in
        let (y, at) = get_some w.cpus.cpus 0 (omega (arith, low, long)) in
        mark_first w y at
        ∙ marked_all raise_tables call mark marks v w.cpus works 0 y.suspended (ap (option_map mark_of) at)

-- ---- the words

module _ (s : State) (v w : SystemView Tables) (sys : IsSystem v) (h : ShowsSystem s v)
    (same : s.suspended ≡ is_suspended v) where
  suspended_same : suspend_refusal s ≡ or_else (suspended v) None
  suspended_same = ap (λ b. when b reason.Suspended) same ∙ sym (or_none (suspended v))

  pub suspend_accepted : Changes raise_tables v (Suspend (Ok tt)) w → IsDone steps.Suspend s w × (is_suspended w ≡ true)
  suspend_accepted (inl (e, some, answer, equal)) = absurd (let isnt : Ok tt ≡ Err e = answer in cc)
  suspend_accepted (inr (none, (ok, only))) = (
    record {
      accepted = suspended_same ∙ none;
      given = [];
      comes = λ texts indexes step at. record {
        shows = shows_marked cpu.Suspend true (λ x y d. d) s v w sys.agrees h only;
        admissions = omega arith;
        free = λ n soft. tt;
      };
      quiet = λ texts indexes step at id. refl;
    },
    is_marked cpu.Suspend true (λ x y d. d) s v w sys.agrees h only,
  )

  pub suspend_refused : (e : Refusal) → Changes raise_tables v (Suspend (Err e)) w → IsRefusedFor e steps.Suspend s w × (w ≡ v)
  suspend_refused e (inl (own, some, answer, equal)) =
      let said = some ∙ ap Some (sym (same_error (Unit {0}) e own (Err e) (Err own) refl refl answer)) in (
        (
          some_refused e (or_else (suspended v) None) (suspend_refusal s) said
              (no_memory_else (suspended v) None (no_memory_when _ reason.Suspended tt) tt) (suspended_same ∙ said),
          subst (ShowsSystem s) (sym equal) h,
        ),
        equal,
      )
  suspend_refused e (inr (none, (ok, only))) = absurd (let isnt : Err e ≡ Ok tt = ok in cc)

  resumed_same : resume_refusal s ≡ or_else (not_suspended v) None
  resumed_same = ap (λ b. when (not b) reason.NotSuspended) same ∙ sym (or_none (not_suspended v))

  pub resume_accepted : Changes raise_tables v (Resume (Ok tt)) w → IsDone steps.Resume s w × (is_suspended w ≡ false)
  resume_accepted (inl (e, some, answer, equal)) = absurd (let isnt : Ok tt ≡ Err e = answer in cc)
  resume_accepted (inr (none, (ok, only))) = (
    record {
      accepted = resumed_same ∙ none;
      given = [];
      comes = λ texts indexes step at. record {
        shows = shows_marked cpu.Resume false (λ x y d. d) s v w sys.agrees h only;
        admissions = omega arith;
        free = λ n soft. tt;
      };
      quiet = λ texts indexes step at id. refl;
    },
    is_marked cpu.Resume false (λ x y d. d) s v w sys.agrees h only,
  )

  pub resume_refused : (e : Refusal) → Changes raise_tables v (Resume (Err e)) w → IsRefusedFor e steps.Resume s w × (w ≡ v)
  resume_refused e (inl (own, some, answer, equal)) =
      let said = some ∙ ap Some (sym (same_error (Unit {0}) e own (Err e) (Err own) refl refl answer)) in (
        (
          some_refused e (or_else (not_suspended v) None) (resume_refusal s) said
              (no_memory_else (not_suspended v) None (no_memory_when _ reason.NotSuspended tt) tt) (resumed_same ∙ said),
          subst (ShowsSystem s) (sym equal) h,
        ),
        equal,
      )
  resume_refused e (inr (none, (ok, only))) = absurd (let isnt : Err e ≡ Ok tt = ok in cc)
