-- What a call on one CPU of a system is in the definition.
use Rattle.std.proofs.Common.{◌≡◌, ℕ, zero, suc, ◌+◌, ◌<◌, Bool, true, List, [], ◌∷◌, length, get_or, Some, refl, ap, sym, ◌∙◌}
use Rattle.std.proofs.Common.{subst, arith}
use Rattle.std.specs.Prelude.{slice_set, slice_index_or}
use Rattle.std.specs.List.{slice_get}
use Rattle.std.proofs.lemmas.Option.{slice_get_within, get_or_from_slice_get}
use Rattle.std.proofs.lemmas.List.{length-set}
use mathlib.Core.Logic.{dite}
use native.Mathlib.Decide.{ℕ_discrete}
use Rattle.cyc_types.specs.declared.Calls.{Ghosts as Calls}
use Rattle.cyc_types.specs.declared.level.Soft.{Soft}
use Rattle.cyc_core.specs.Tables.{Tables}
use Rattle.cyc_cpu.specs.Cpu.{CpuView, running}
use Rattle.cyc_cpu.specs.Soft.{raise_tables, Interrupts}
use Rattle.cyc_cpu.specs.Calls.{Suspend, Resume}
use Rattle.cyc_cpu.specs.Calls.{CpuCall, Fire, SoftInterrupt, Add, Place, Reprogram, AskPending, AskTotals, AskRoom, Reserve}
use Rattle.cyc_cpu.specs.Calls.{Widen, BeginRemove, PollRemove, TakeNow, AskSettled, CpuChanges, CpuDoes}
use Rattle.cyc_system.specs.Cpus.{CpusView, IsCpu, with_cpu, on, DoesAt, RunningCpus, running_cpus, RunsAt}
use Rattle.cyc_system.proofs.CpusSpots.{cpu_beside, get_set_same}
use Rattle.cyc_model.specs.Acts.{calls_of, events_at}
use Rattle.cyc_model.specs.Cpu.{Cpu}
use Rattle.cyc_model.specs.State.{absent}
use Rattle.cyc_model.specs.Serving.{level_at}
use Rattle.cyc_model.specs.Free.{AllCanBeAdmitted}
use Rattle.cyc_system_model.specs.ShownCpu.{shown_cpu}
use Rattle.cyc_system_model.specs.Here.{here_of, IsInTime, IsStopped}
use Rattle.cyc_system_model.specs.Answers.{IsAnswered}
use Rattle.cyc_system_model.specs.Tied.{IsTied}
use Rattle.cyc_system_model.proofs.Law.{is_here}
use Rattle.cyc_system_model.proofs.CpuAnswering.{answers}
use Rattle.cyc_system_model.proofs.Tied.{tied}
use Rattle.cyc_system_model.specs.Shown.{shown_list, shown_cpus, AreTied}

-- ---- the shown CPUs by number

pub get_shown : (os : List Bool) (vs : List (CpuView Tables)) (n : ℕ) (o : Bool) (x : CpuView Tables) → length os ≡ length vs
    → n < length vs
    → get_or (shown_list os vs) n absent ≡ shown_cpu (get_or os n o) (get_or vs n x)
get_shown [] [] n o x long low = absurd (omega (arith, low))
get_shown [] (v ∷ vs) n o x long low = absurd (omega (arith, long))
get_shown (b ∷ os) [] n o x long low = absurd (omega (arith, long))
get_shown (b ∷ os) (v ∷ vs) zero o x long low = refl
get_shown (b ∷ os) (v ∷ vs) (suc n) o x long low = get_shown os vs n o x (omega (arith, long)) (omega (arith, low))

set_shown : (os : List Bool) (vs : List (CpuView Tables)) (n : ℕ) (o : Bool) (y : CpuView Tables) → length os ≡ length vs
    → n < length vs
    → shown_list os (slice_set vs n y) ≡ slice_set (shown_list os vs) n (shown_cpu (get_or os n o) y)
set_shown [] [] n o y long low = absurd (omega (arith, low))
set_shown [] (v ∷ vs) n o y long low = absurd (omega (arith, long))
set_shown (b ∷ os) [] n o y long low = absurd (omega (arith, long))
set_shown (b ∷ os) (v ∷ vs) zero o y long low = refl
set_shown (b ∷ os) (v ∷ vs) (suc n) o y long low =
    ap (λ cs. shown_cpu b v ∷ cs) (set_shown os vs n o y (omega (arith, long)) (omega (arith, low)))

-- the CPU of a number, as the definition has it
abbrev pub cpu_at : CpusView Tables → ℕ → Cpu
cpu_at v n = slice_index_or (shown_cpus v) n absent

pub cpu_is : (v : CpusView Tables) (n : ℕ) (x : CpuView Tables) → length v.online ≡ length v.cpus → IsCpu n x v
    → cpu_at v n ≡ shown_cpu (get_or v.online n true) x
cpu_is v n x long is =
    get_shown v.online v.cpus n true x long (slice_get_within v.cpus n x is)
    ∙ ap (shown_cpu (get_or v.online n true)) (get_or_from_slice_get v.cpus n x x is)

-- ---- a call on one of them

-- no handler is called
abbrev no_calls : Calls (Unit {0})
no_calls = record { count = λ c id. 0; called = λ c id level d. ⊥; may_refuse = λ c id. ⊥ }

does_of : (call : CpuCall) (x y : CpuView Tables) → CpuChanges raise_tables x call y
    → CpuDoes no_calls raise_tables (Interrupts no_calls) (running tt x) call (running tt y)
does_of (Fire now answer) x y d = absurd d
does_of (SoftInterrupt level budget answer) x y d = absurd d
does_of (Add id level when now answer) x y d = (d, refl)
does_of (Place id level interval moment carried) x y d = (d, refl)
does_of (Reprogram id moment answer) x y d = (d, refl)
does_of (AskPending id answer) x y d = (d, refl)
does_of (AskTotals id answer) x y d = (d, refl)
does_of (AskRoom more answer) x y d = (d, refl)
does_of (Reserve more answer) x y d = (d, refl)
does_of (Widen more) x y d = (d, refl)
does_of (BeginRemove id answer) x y d = (d, refl)
does_of (PollRemove answer) x y d = (d, refl)
does_of (TakeNow id answer) x y d = (d, refl)
does_of (AskSettled answer) x y d = (d, refl)
does_of Suspend x y d = (d, refl)
does_of Resume x y d = (d, refl)

no_stop : (call : CpuCall) (x y : CpuView Tables) → CpuChanges raise_tables x call y → IsStopped call → ⊥
no_stop (Fire now answer) x y d stopped = d
no_stop (SoftInterrupt level budget answer) x y d stopped = d
no_stop (Add id level when now answer) x y d stopped = absurd stopped
no_stop (Place id level interval moment carried) x y d stopped = absurd stopped
no_stop (Reprogram id moment answer) x y d stopped = absurd stopped
no_stop (AskPending id answer) x y d stopped = absurd stopped
no_stop (AskTotals id answer) x y d stopped = absurd stopped
no_stop (AskRoom more answer) x y d stopped = absurd stopped
no_stop (Reserve more answer) x y d stopped = absurd stopped
no_stop (Widen more) x y d stopped = absurd stopped
no_stop (BeginRemove id answer) x y d stopped = absurd stopped
no_stop (PollRemove answer) x y d stopped = absurd stopped
no_stop (TakeNow id answer) x y d stopped = absurd stopped
no_stop (AskSettled answer) x y d stopped = absurd stopped
no_stop Suspend x y d stopped = absurd stopped
no_stop Resume x y d stopped = absurd stopped

-- ---- by number

pub long_shown : (os : List Bool) (vs : List (CpuView Tables)) → length os ≡ length vs → length (shown_list os vs) ≡ length vs
long_shown [] [] long = refl
long_shown [] (v ∷ vs) long = absurd (omega (arith, long))
long_shown (b ∷ os) [] long = absurd (omega (arith, long))
long_shown (b ∷ os) (v ∷ vs) long = let r = long_shown os vs (omega (arith, long)) in omega (arith, r)

-- ---- a call on the CPU of a number

pub record RanAt {C : Type 0} (count : C → ℕ → ℕ) (n : ℕ) (call : CpuCall) (s t : RunningCpus C Tables) : Type 0 where
  pub index : ℕ
  pub within : n < length (shown_cpus s.cpus)
  pub cpus : shown_cpus t.cpus ≡ slice_set (shown_cpus s.cpus) n (here_of n index call (cpu_at s.cpus n)).cpu
  pub called : (q : ℕ) → count t.calls q ≡ count s.calls q + calls_of q (here_of n index call (cpu_at s.cpus n)).acts
  pub free : (soft : Soft) → AllCanBeAdmitted (events_at n soft (here_of n index call (cpu_at s.cpus n)).acts)
      (level_at soft (cpu_at s.cpus n))
  pub answered : IsInTime call → IsAnswered n call (cpu_at s.cpus n)
  pub tied : AreTied t.cpus
  pub long : length t.cpus.online ≡ length t.cpus.cpus

pub at_same : (n m : ℕ) (v w : CpusView Tables) (x y : CpuView Tables) → IsCpu n x v → w ≡ with_cpu v n y → (cpu : CpuView Tables)
    → m ≡ n
    → IsCpu m cpu w → IsTied y → IsTied cpu
at_same n m v w x y here rest cpu e is tie =
    let there : slice_get (slice_set v.cpus n y) n ≡ Some y = get_set_same v.cpus n y (slice_get_within v.cpus n x here) in
    let both : Some cpu ≡ Some y =
    sym (subst (λ (k : ℕ). slice_get w.cpus k ≡ Some cpu) e is) ∙ ap (λ (u : CpusView Tables). slice_get u.cpus n) rest ∙ there in
    let same : cpu ≡ y = cc in
    subst IsTied (sym same) tie

module _ {C : Type 0} (handler : Calls C) where
  pub ran_at : (n : ℕ) (call : CpuCall) (s t : RunningCpus C Tables) → length s.cpus.online ≡ length s.cpus.cpus → AreTied s.cpus
      → (IsStopped call → ⊥) → RunsAt handler raise_tables (Interrupts handler) s (on n call) t
      → RanAt handler.count n call s t
  ran_at n call s t long ties goes d =
      let v = s.cpus in
      let w = t.cpus in
      let x = d.before in
      let y = d.after in
      let online = get_or v.online n true in
      let low = slice_get_within v.cpus n x d.here in
      let tie = ties n x d.here in
      let after_tie = tied handler call (running s.calls x) (running t.calls y) goes d.change tie in
      let h = is_here handler n online call (running s.calls x)
      (running t.calls y) tie.rising after_tie.rising goes d.change in
      let c = cpu_is v n x long d.here in
      record {
        index = h.index;
        within = (let m = long_shown v.online v.cpus long in omega (arith, m, low));
        cpus = ap shown_cpus d.rest ∙ set_shown v.online v.cpus n true y long low
            ∙ ap (slice_set (shown_cpus v) n) (h.cpu ∙ ap (λ (e : Cpu). (here_of n h.index call e).cpu) (sym c));
        called = λ q. h.called q ∙ ap (λ (e : Cpu). handler.count s.calls q + calls_of q (here_of n h.index call e).acts) (sym c);
        free = λ soft. subst (λ (e : Cpu). AllCanBeAdmitted (events_at n soft (here_of n h.index call e).acts) (level_at soft e))
            (sym c) (h.free soft);
        answered = λ in_time. subst (IsAnswered n call) (sym c)
            (answers handler n online call (running s.calls x) (running t.calls y) tie in_time goes d.change);
        tied = λ m cpu is. dite (ℕ_discrete m n)
            (λ e. at_same n m v w x y d.here d.rest cpu e is after_tie)
            (λ ne. ties m cpu (cpu_beside n m cpu y v ne (subst (λ u. IsCpu m cpu u) d.rest is)));
        long = ap (λ (u : CpusView Tables). length u.online) d.rest ∙ long
            ∙ sym (ap (λ (u : CpusView Tables). length u.cpus) d.rest ∙ length-set v.cpus n y);
      }

-- a call that reaches no handler
pub record DoneAt (n : ℕ) (call : CpuCall) (v w : CpusView Tables) : Type 0 where
  pub index : ℕ
  pub within : n < length (shown_cpus v)
  pub cpus : shown_cpus w ≡ slice_set (shown_cpus v) n (here_of n index call (cpu_at v n)).cpu
  pub quiet : (q : ℕ) → calls_of q (here_of n index call (cpu_at v n)).acts ≡ 0
  pub free : (soft : Soft) → AllCanBeAdmitted (events_at n soft (here_of n index call (cpu_at v n)).acts)
      (level_at soft (cpu_at v n))
  pub answered : IsInTime call → IsAnswered n call (cpu_at v n)
  pub tied : AreTied w
  pub long : length w.online ≡ length w.cpus

pub done_at : (n : ℕ) (call : CpuCall) (v w : CpusView Tables) → length v.online ≡ length v.cpus → AreTied v
    → DoesAt raise_tables v (on n call) w → DoneAt n call v w
done_at n call v w long ties d =
    let r = ran_at no_calls n call (running_cpus tt v) (running_cpus tt w) long ties
    (no_stop call d.before d.after d.change)
    (record { before = d.before; after = d.after; here = d.here; change = does_of call d.before d.after d.change; rest = d.rest })
    in
    record {
      index = r.index;
      within = r.within;
      cpus = r.cpus;
      quiet = λ q. let called = r.called q in omega (arith, called);
      free = r.free;
      answered = r.answered;
      tied = r.tied;
      long = r.long;
    }
