-- A fire and a soft interrupt of a system are what the definition says.
use Rattle.std.proofs.Common.{◌≡◌, ℕ, ◌+◌, inl, inr, true, false, [], ◌∷◌, length, get_or, Some, None, refl, ap, sym, ◌∙◌, arith}
use Rattle.std.specs.Prelude.{slice_set, Result, Ok, Err}
use Rattle.cyc_types.specs.declared.Calls.{Ghosts as Calls}
use Rattle.cyc_types.specs.declared.refusal.Refusal.{Refusal}
use Rattle.cyc_types.specs.declared.refusal.Refusal.TheVariants.{Suspended, BadNow}
use Rattle.cyc_core.specs.Tables.{Tables}
use Rattle.cyc_soft.specs.declared.Ran.{Ran}
use Rattle.cyc_cpu.specs.Fired.{Fired}
use Rattle.cyc_cpu.specs.FireRefused.{FireRefused}
use Rattle.cyc_script.specs.declared.step.Softint.{Softint as SoftintStep}
use Rattle.cyc_cpu.specs.Soft.{raise_tables, Interrupts}
use Rattle.cyc_cpu.specs.Cpu.{CpuView, Running, running}
use Rattle.cyc_cpu.specs.Calls.{Fire, SoftInterrupt as CpuSoftInterrupt, WhyNoFire, no_interrupts, CpuDoes as CpuDoes}
use Rattle.cyc_system.specs.Cpus.{running_cpus}
use Rattle.cyc_system.specs.declared.system.SoftFault.{SoftFault}
use Rattle.cyc_system.specs.declared.system.SoftFault.TheVariants as fault
use Rattle.cyc_system.specs.System.{SystemView, RunningSystem}
use Rattle.cyc_system.specs.Refusals as why
use Rattle.cyc_system.specs.Calls.{Does, FireOne, SoftInterrupt, no_fire}
use Rattle.cyc_system.proofs.Spots.{same_some, none_some}
use Rattle.cyc_agreement.specs.Suspending.{is_suspended}
use Rattle.std.proofs.lemmas.Option.{get_or_from_slice_get}
use Rattle.cyc_model.specs.Acts.{calls_of, handler_calls, all_losses}
use Rattle.cyc_model.specs.Cpu.{Cpu, Here}
use Rattle.cyc_model.specs.Firing.{due_here, fire_here}
use Rattle.cyc_model.specs.Serving.{interrupt_here, serve_here}
use Rattle.cyc_model.specs.State.{State, absent, cpu_of, on_number}
use Rattle.cyc_types.specs.Reasons.{first_refusal, or_else}
use Rattle.cyc_model.specs.Refusals.{is_no_cpu, cpu_is_offline}
use Rattle.cyc_model.specs.Softint.{softint_refusal}
use Rattle.cyc_system_model.proofs.Free.{none_admitted, fire_none, interrupt_none}
use Rattle.cyc_system_model.specs.Shown.{shown_cpus, ShowsSystem, IsSystem}
use Rattle.cyc_system_model.specs.Running.{IsFired, IsServed}
use Rattle.cyc_system_model.proofs.Cpus.{cpu_at, ran_at}
use Rattle.cyc_system_model.proofs.Asking.{same_no_cpu, same_offline, or_none}
use Rattle.cyc_system_model.proofs.Entering.{same_shown}
use Rattle.cyc_system_model.proofs.Lists.{set_get}
use Rattle.cyc_system_model.proofs.SystemSuspending.{mark_at}

-- what refuses a fire of a suspended CPU
only_suspended : (now : ℕ) (v : CpuView Tables) (e : Refusal) → (v.suspended ≡ false → ⊥) → WhyNoFire now v e → e ≡ Suspended
only_suspended now v Suspended awake is = refl
only_suspended now v BadNow awake is = absurd (awake is.0)
only_suspended now v e awake is = absurd is

-- the machine after what was done on one CPU
pub on_shows : (n : ℕ) (f : Cpu → Here) (m : State) (v w : SystemView Tables) → ShowsSystem m v
    → shown_cpus w.cpus ≡ slice_set (shown_cpus v.cpus) n (f (cpu_at v.cpus n)).cpu → w.records ≡ v.records → w.last ≡ v.last
    → ShowsSystem (on_number n f m).state w
on_shows n f m v w h cpus records last =
    let same = same_shown m v (record w { cpus = v.cpus }) h refl records last in
    record {
      cpus = (λ z. slice_set (h.cpus z) n (f (get_or (h.cpus z) n absent)).cpu) ∙ sym cpus;
      placed = same.placed;
      ended = same.ended;
      fresh = same.fresh;
      last = same.last;
    }

abbrev ran_of : Ran → Result Ran SoftFault → Ran
ran_of d (Ok ran) = ran
ran_of d (Err e) = d

module _ {C : Type 0} (handler : Calls C)
    (m : State) (s t : RunningSystem C Tables) (sys : IsSystem s.system) (h : ShowsSystem m s.system) where
  no_cpu_there : (n : ℕ) → first_refusal (is_no_cpu n m ∷ cpu_is_offline n m ∷ [])
      ≡ or_else (why.no_cpu n s.system) (or_else (why.offline_cpu n s.system) None)
  no_cpu_there n = λ z. or_else (same_no_cpu m s.system h sys.agrees.long n z)
      (or_else (same_offline m s.system h sys.agrees.long n z) None)

  pub fire_accepted : (n : ℕ) (fired : Fired)
      → Does handler raise_tables no_interrupts s (FireOne n m.clock (Ok fired)) t
      → IsFired handler.count n fired m s t
  fire_accepted n fired (inl (e, some, answer, same)) = absurd (let isnt : Ok fired ≡ Err (no_fire e) = answer in cc)
  fire_accepted n fired (inr (none, (did, records, last))) =
      let r = ran_at handler n (Fire m.clock (Ok fired)) (running_cpus s.calls s.system.cpus)
      (running_cpus t.calls t.system.cpus)
      sys.agrees.long sys.tied (λ stopped. stopped) did in
      record {
        accepted = no_cpu_there n ∙ none;
        comes = record {
          shows = on_shows n (fire_here n m.clock) m s.system t.system h r.cpus records last;
          admissions = omega arith;
          free = λ k soft. none_admitted (fire_here n m.clock (cpu_of n m)).acts k soft _ (fire_none n m.clock (cpu_of n m));
        };
        expired = (r.answered tt).0 ∙ ap (λ cs. length (due_here m.clock (get_or cs n absent))) (sym h.cpus);
        lost = (r.answered tt).1 ∙ ap (λ cs. all_losses (fire_here n m.clock (get_or cs n absent)).acts) (sym h.cpus);
        called = λ q. r.called q ∙ ap (λ cs. handler.count s.calls q + calls_of q (fire_here n m.clock (get_or cs n absent)).acts)
            (sym h.cpus);
      }

  pub fire_refused : (n now : ℕ) (e : Refusal) (answer : Result Fired FireRefused)
      → first_refusal (is_no_cpu n m ∷ cpu_is_offline n m ∷ []) ≡ Some e
      → Does handler raise_tables no_interrupts s (FireOne n now answer) t → (answer ≡ Err (no_fire e)) × (t ≡ s)
  fire_refused n now e answer is (inl (own, some, said, same)) =
      let es : own ≡ e = same_some (sym some ∙ sym (no_cpu_there n) ∙ is) in
      (said ∙ ap (λ x. Err (no_fire x)) es, same)
  fire_refused n now e answer is (inr (none, did)) = absurd (none_some (sym none ∙ sym (no_cpu_there n) ∙ is))

  -- where the system is suspended
  pub fire_suspended : (n now : ℕ) (answer : Result Fired FireRefused)
      → first_refusal (is_no_cpu n m ∷ cpu_is_offline n m ∷ []) ≡ None → is_suspended s.system ≡ true
      → Does handler raise_tables no_interrupts s (FireOne n now answer) t → (answer ≡ Err (no_fire Suspended)) × (t ≡ s)
  fire_suspended n now answer none on_number (inl (own, some, said, same)) = absurd (none_some (sym none ∙ no_cpu_there n ∙ some))
  fire_suspended n now answer none on_number (inr (passed, (did, records, last))) = by answer did.change
    where
      marked : did.before.suspended ≡ true
      marked = mark_at s.system sys.agrees n did.before did.here ∙ on_number

      awake : did.before.suspended ≡ false → ⊥
      awake off = let no : true ≡ false = sym marked ∙ off in cc

      as_before : running t.calls did.after ≡ running s.calls did.before → t ≡ s
      as_before same =
          let put = ap (λ (x : Running C Tables). slice_set s.system.cpus.cpus n x.cpu) same
          ∙ ap (slice_set s.system.cpus.cpus n) (sym (get_or_from_slice_get s.system.cpus.cpus n did.before did.before did.here))
          ∙ set_get s.system.cpus.cpus n did.before in
          let cpus : t.system.cpus ≡ s.system.cpus = did.rest ∙ (λ z. record s.system.cpus { cpus = put z }) in
          let calls : t.calls ≡ s.calls = ap (λ (x : Running C Tables). x.calls) same in
          λ z. record { system = record { cpus = cpus z; records = records z; last = last z }; calls = calls z }

      by : (a : Result Fired FireRefused) → CpuDoes handler raise_tables no_interrupts (running s.calls did.before)
          (Fire now a) (running t.calls did.after)
          → (a ≡ Err (no_fire Suspended)) × (t ≡ s)
      by (Ok fired) d = absurd (awake d.0.awake)
      by (Err e) (inl (is, none_made, same)) =
          (ap Err (none_made ∙ ap no_fire (only_suspended now did.before e.why awake is)), as_before same)
      by (Err e) (inr d) = absurd (awake d.0.awake)

  pub softint_accepted : (i : SoftintStep) (ran : Ran)
      → Does handler raise_tables (Interrupts handler) s
      (SoftInterrupt i.cpu i.level i.budget (Ok ran)) t
      → IsServed handler.count i ran m s t
  softint_accepted i ran (inl (e, some, answer, same)) = absurd (let isnt : Ok ran ≡ Err fault.NoCpu = answer in cc)
  softint_accepted i ran (inr (none, (Err e, answer, did, records, last))) =
      absurd (let isnt : Ok ran ≡ Err (fault.Refused e) = answer in cc)
  softint_accepted i ran (inr (none, (Ok got, answer, did, records, last))) =
      let r = ran_at handler i.cpu (CpuSoftInterrupt i.level i.budget (Ok got))
      (running_cpus s.calls s.system.cpus)
      (running_cpus t.calls t.system.cpus) sys.agrees.long sys.tied (λ stopped. stopped) did in
      let is : ran ≡ got = ap (ran_of ran) answer in
      record {
        accepted = same_no_cpu m s.system h sys.agrees.long i.cpu ∙ sym (or_none (why.no_cpu i.cpu s.system)) ∙ none;
        comes = λ step. record {
          shows = on_shows i.cpu (serve_here i.cpu i.level i.budget) m s.system t.system h r.cpus records last;
          admissions = omega arith;
          free = λ k soft. none_admitted (serve_here i.cpu i.level i.budget (cpu_of i.cpu m)).acts k soft _
              (interrupt_none i.cpu i.level i.budget (cpu_of i.cpu m));
        };
        calls = ap (λ (x : Ran). x.calls) is ∙ (r.answered tt).0
            ∙ ap (λ cs. handler_calls (interrupt_here i.cpu i.level i.budget (get_or cs i.cpu absent)).acts) (sym h.cpus);
        idle = ap (λ (x : Ran). x.idle) is ∙ (r.answered tt).1
            ∙ ap (λ cs. (interrupt_here i.cpu i.level i.budget (get_or cs i.cpu absent)).idle) (sym h.cpus);
        called = λ q. r.called q
            ∙ ap (λ cs. handler.count s.calls q + calls_of q (interrupt_here i.cpu i.level i.budget
            (get_or cs i.cpu absent)).acts)
            (sym h.cpus);
      }

  pub softint_refused : (i : SoftintStep) (e : Refusal) (answer : Result Ran SoftFault) → softint_refusal i m ≡ Some e
      → Does handler raise_tables (Interrupts handler) s
      (SoftInterrupt i.cpu i.level i.budget answer) t
      → (answer ≡ Err fault.NoCpu) × (t ≡ s)
  softint_refused i e answer is (inl (own, some, said, same)) = (said, same)
  softint_refused i e answer is (inr (none, did)) =
      absurd (none_some (sym none ∙ or_none (why.no_cpu i.cpu s.system) ∙ sym (same_no_cpu m s.system h sys.agrees.long i.cpu)
      ∙ is))
