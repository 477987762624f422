-- Another moment, given by a system, is what the definition says.
use Rattle.std.proofs.Common.{◌≡◌, ℕ, inl, inr, [], ◌∷◌, get_or, Option, Some, None, refl, ap, sym, ◌∙◌, subst, arith}
use Rattle.std.specs.Prelude.{slice_set, Ok, Err, int_lt, pos}
use Rattle.cyc_types.specs.declared.refusal.Refusal.{Refusal}
use Rattle.cyc_types.specs.declared.refusal.Refusal.TheVariants.{BadWhen, NoCyclic, Omnipresent, NoCpu, Offline}
use Rattle.cyc_core.specs.Tables.{Tables}
use Rattle.cyc_script.specs.declared.step.Reprogram.{Reprogram as ReprogramStep}
use Rattle.cyc_script.specs.declared.step.Step.TheVariants as steps
use Rattle.cyc_cpu.specs.Soft.{raise_tables}
use Rattle.cyc_cpu.specs.Calls.{Reprogram as CpuReprogram}
use Rattle.cyc_system.specs.Cpus.{on as on_cpu}
use Rattle.cyc_system.specs.System.{SystemView}
use Rattle.cyc_system.specs.Calls.{Changes, reprograms}
use Rattle.cyc_system.specs.Adding.{OnlyWorks}
use Rattle.cyc_model.specs.Moving.{reprogram_here}
use Rattle.cyc_model.specs.State.{State, absent, on_number}
use Rattle.cyc_model.specs.Places.{id_of}
use Rattle.cyc_types.specs.Reasons.{first_refusal, or_else, when}
use Rattle.cyc_model.specs.Refusals.{is_no_cpu, cpu_is_offline, magnitude}
use Rattle.cyc_model.specs.Bind.{cyclic_is_absent, cyclic_is_omni}
use Rattle.cyc_model.specs.Reprogram.{has_no_component, cpu_refusals, cpu_meant}
use Rattle.cyc_system_model.specs.Answers.{IsRefused}
use Rattle.cyc_system_model.specs.Shown.{shown_cpus, ShowsSystem, IsSystem}
use Rattle.cyc_system_model.specs.SystemWords.{IsMoment, IsDone, IsRefusedFor}
use Rattle.cyc_system_model.proofs.Cpus.{cpu_at, done_at}
use Rattle.cyc_system_model.proofs.Asking.{home_shown, same_no_cyclic, same_omnipresent, same_no_cpu, same_offline}
use Rattle.cyc_system_model.proofs.Asking.{same_no_component, no_memory_when, no_memory_else, is_refused, later, same_error}
use Rattle.cyc_system_model.proofs.Entering.{same_shown}

-- the CPUs of a system after another moment on one of them; nothing else changed
record Moved (n id moment : ℕ) (v w : SystemView Tables) : Type 0 where
  cpus : shown_cpus w.cpus ≡ slice_set (shown_cpus v.cpus) n (reprogram_here id moment (cpu_at v.cpus n)).cpu
  records : w.records ≡ v.records
  last : w.last ≡ v.last

moved : (n id moment : ℕ) (v w : SystemView Tables) → IsSystem v
    → OnlyWorks raise_tables (on_cpu n (CpuReprogram id moment (Ok tt)) ∷ []) v w
    → Moved n id moment v w
moved n id moment v w sys ((u, did, same), records, last) =
    let r = done_at n (CpuReprogram id moment (Ok tt)) v.cpus u sys.agrees.long sys.tied did in
    record { cpus = ap shown_cpus (sym same) ∙ r.cpus; records = records; last = last }

moved_shown : (n m id moment own : ℕ) (s : State) (v w : SystemView Tables) → ShowsSystem s v → m ≡ n → own ≡ moment
    → Moved n id moment v w
    → ShowsSystem (on_number m (reprogram_here id own) s).state w
moved_shown n m id moment own s v w h here is d =
    let same = same_shown s v (record w { cpus = v.cpus }) h refl d.records d.last in
    record {
      cpus = (λ z. slice_set (h.cpus z) (here z) (reprogram_here id (is z) (get_or (h.cpus z) (here z) absent)).cpu) ∙ sym d.cpus;
      placed = same.placed;
      ended = same.ended;
      fresh = same.fresh;
      last = same.last;
    }

abbrev later_whys : Option ℕ → ℕ → State → Option Refusal
later_whys cpu id s = or_else (cyclic_is_absent id s) (first_refusal (cpu_refusals cpu id s))

module _ (id moment : ℕ) (s : State) (v w : SystemView Tables) (sys : IsSystem v) (h : ShowsSystem s v) where
  accepted : (cpu : Option ℕ) → Changes raise_tables v (reprograms cpu id moment (Ok tt)) w
      → (later_whys cpu id s ≡ None) × ((own : ℕ) → own ≡ moment
      → ShowsSystem (on_number (cpu_meant cpu id s) (reprogram_here id own) s).state w)
  accepted None (inl (e, some, answer, same)) = absurd (let isnt : Ok tt ≡ Err e = answer in cc)
  accepted None (inr (none, (n, home, (ok, did)))) = (
    (λ z. or_else (same_no_cyclic s v h sys.agrees.long id z) (or_else (same_omnipresent s v h sys.agrees.long id z) None))
        ∙ none,
    λ own is. moved_shown n (cpu_meant None id s) id moment own s v w h (home_shown id n s v h sys.rising home) is
        (moved n id moment v w sys did),
  )
  accepted (Some n) (inl (e, some, answer, same)) = absurd (let isnt : Ok tt ≡ Err e = answer in cc)
  accepted (Some n) (inr (none, (ok, did))) = (
    (λ z. or_else (same_no_cyclic s v h sys.agrees.long id z) (or_else (same_no_cpu s v h sys.agrees.long n z)
        (or_else (same_offline s v h sys.agrees.long n z) (or_else (same_no_component s v h sys.agrees.long id n z) None))))
        ∙ none,
    λ own is. moved_shown n n id moment own s v w h refl is (moved n id moment v w sys did),
  )

  refused : (cpu : Option ℕ) (e : Refusal) → Changes raise_tables v (reprograms cpu id moment (Err e)) w
      → IsRefused e (later_whys cpu id s) × ShowsSystem s w
  refused None e (inl (own, some, answer, same)) = (
    is_refused e (later_whys None id s)
        ((λ z. or_else (same_no_cyclic s v h sys.agrees.long id z) (or_else (same_omnipresent s v h sys.agrees.long id z) None))
        ∙ some
        ∙ ap Some (sym (same_error (Unit {0}) e own (Err e) (Err own) refl refl answer)))
        (no_memory_else (cyclic_is_absent id s) _ (no_memory_when _ NoCyclic tt)
        (no_memory_else (cyclic_is_omni id s) None (no_memory_when _ Omnipresent tt) tt)),
    subst (ShowsSystem s) (sym same) h,
  )
  refused None e (inr (none, (n, home, (ok, did)))) = absurd (let isnt : Err e ≡ Ok tt = ok in cc)
  refused (Some n) e (inl (own, some, answer, same)) = (
    is_refused e (later_whys (Some n) id s)
        ((λ z. or_else (same_no_cyclic s v h sys.agrees.long id z) (or_else (same_no_cpu s v h sys.agrees.long n z)
        (or_else (same_offline s v h sys.agrees.long n z) (or_else (same_no_component s v h sys.agrees.long id n z) None))))
        ∙ some
        ∙ ap Some (sym (same_error (Unit {0}) e own (Err e) (Err own) refl refl answer)))
        (no_memory_else (cyclic_is_absent id s) _ (no_memory_when _ NoCyclic tt)
        (no_memory_else (is_no_cpu n s) _ (no_memory_when _ NoCpu tt)
        (no_memory_else (cpu_is_offline n s) _ (no_memory_when _ Offline tt)
        (no_memory_else (has_no_component id n s) None (no_memory_when _ NoCyclic tt) tt)))),
    subst (ShowsSystem s) (sym same) h,
  )
  refused (Some n) e (inr (none, (ok, did))) = absurd (let isnt : Err e ≡ Ok tt = ok in cc)

module _ (r : ReprogramStep) (moment : ℕ) (s : State) (v w : SystemView Tables) (sys : IsSystem v) (h : ShowsSystem s v)
    (is : IsMoment r.moment moment) where
  no_bad_when : when (int_lt r.moment (pos 0)) BadWhen ≡ None
  no_bad_when = ap (λ b. when b BadWhen) is.0

  pub reprogram_accepted : Changes raise_tables v (reprograms r.cpu (id_of r.name s) moment (Ok tt)) w
      → IsDone (steps.Reprogram r) s w
  reprogram_accepted did =
      let (none, shows) = accepted (id_of r.name s) moment s v w sys h r.cpu did in
      record {
        accepted = ap (λ o. or_else o (later_whys r.cpu (id_of r.name s) s)) no_bad_when ∙ none;
        given = [];
        comes = λ texts indexes step at. record {
          shows = shows (magnitude r.moment) is.1;
          admissions = omega arith;
          free = λ n soft. tt;
        };
        quiet = λ texts indexes step at q. refl;
      }

  pub reprogram_refused : (e : Refusal) → Changes raise_tables v (reprograms r.cpu (id_of r.name s) moment (Err e)) w
      → IsRefusedFor e (steps.Reprogram r) s w
  reprogram_refused e did =
      let (why, shows) = refused (id_of r.name s) moment s v w sys h r.cpu e did in
      (later e (when (int_lt r.moment (pos 0)) BadWhen) (later_whys r.cpu (id_of r.name s) s) no_bad_when why, shows)
