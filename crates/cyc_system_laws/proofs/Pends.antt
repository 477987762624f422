-- What calls of a system do to the outstanding calls of an id.
use Rattle.std.proofs.Common.{◌≡◌, ◌≢◌, ◌∙◌, ℕ, ◌+◌, inl, inr, Option, Some, None, Result, Err, List, [], ◌∷◌, refl, sym, ap}
use Rattle.std.proofs.Common.{subst, arith}
use Rattle.std.specs.Prelude.{sum_by}
use Rattle.std.specs.List.{slice_get, FoldsTo}
use Rattle.std.specs.Option.{option_map_or}
use Rattle.std.proofs.lemmas.Option.{slice_get_within}
use mathlib.Core.Logic.{dite}
use native.Mathlib.Decide.{ℕ_discrete}
use Rattle.cyc_types.specs.declared.Calls.{Ghosts as Calls}
use Rattle.cyc_types.specs.declared.level.Level.TheVariants.{Low, Lock, High}
use Rattle.cyc_types.specs.declared.level.Soft.{Soft}
use Rattle.cyc_types.specs.declared.refusal.Refusal.{Refusal}
use Rattle.cyc_level.specs.Lawful.{Lawful}
use Rattle.cyc_core.specs.Tables.{Tables, level_of}
use Rattle.cyc_soft.specs.declared.Ran.{Ran}
use Rattle.cyc_soft.specs.declared.SoftRefused.{SoftRefused}
use Rattle.cyc_timers.specs.Rows.{timers}
use Rattle.cyc_timers.specs.declared.fire.Fired.{Fired}
use Rattle.cyc_timers.specs.declared.fire.FireRefused.{FireRefused}
use Rattle.cyc_cpu.specs.Cpu.{CpuView, Running, running}
use Rattle.cyc_cpu.specs.Laws.{IsLawful}
use Rattle.cyc_cpu.specs.Soft.{raise_tables, firing_at, Interrupts}
use Rattle.cyc_cpu.specs.Calls.{CpuCall, CpuChanges as CpuChanges, CpuDoes as CpuDoes, Fire, SoftInterrupt as CpuSoftInterrupt}
use Rattle.cyc_cpu_laws.specs.Accounts.{account_of}
use Rattle.cyc_cpu.specs.Carried.{lost_of}
use Rattle.cyc_cpu_laws.proofs.Accounting.{none_made}
use Rattle.cyc_cpu_laws.proofs.Cores.{core_proceeds_one}
use Rattle.cyc_cpu_laws.proofs.Stills.{still_raises, changes_still}
use Rattle.cyc_agreement.specs.Cpus.{CpusView, IsCpu, ChangesAt}
use Rattle.cyc_agreement.proofs.CpuSpots.{get_set_same, get_set_other}
use Rattle.cyc_system.specs.System.{SystemView, RunningSystem}
use Rattle.cyc_system.specs.Calls.{SystemCall, Changes, Does, no_fire, Add, AddOmni, Bind, BeginRemove, PollRemove}
use Rattle.cyc_system.specs.Calls.{AskTotals, Suspend, Resume}
use Rattle.cyc_system.specs.Calls.{Reprogram, ReprogramOn, Juggle, Offline, Online, FireOne, SoftInterrupt}
use Rattle.cyc_system_laws.specs.Parts.{CpusCall, OnCpu, SetOnline, DoesPart}
use Rattle.cyc_system_laws.proofs.Over.{at_one}
use Rattle.cyc_system_laws.proofs.Pieces.{made_of}
use Rattle.cyc_system_laws.proofs.Flow.{sum_set}
use Rattle.cyc_system_laws.specs.Pending.{pending_in, pending_on, raised_in, raised_on, ReachesHandlers}
use Rattle.cyc_system_laws.specs.Totalling.{losses_of_fire, losses_in}
use Rattle.cyc_system_laws.proofs.Totals.{fire_here, lost_here}
use Rattle.cyc_system_laws.proofs.Outstanding.{goes_law, way_law, goes_counts, way_counts}

-- both levels of a CPU are lawful
abbrev pub HasLawfulLevels : CpuView Tables → Type 0
HasLawfulLevels x = Lawful (level_of x.lock) × Lawful (level_of x.low)

pub quiet_levels : (x y : CpuView Tables) (call : CpuCall) → CpuChanges raise_tables x call y → HasLawfulLevels x
    → HasLawfulLevels y
quiet_levels x y call d (lock, low) = let st = changes_still raise_tables x y call d in
    (goes_law x.lock y.lock st.lock.way st.lock.goes lock, goes_law x.low y.low st.low.way st.low.goes low)

module _ (id : ℕ) where
  -- ---- one CPU

  pub quiet_pends : (x y : CpuView Tables) (call : CpuCall) → CpuChanges raise_tables x call y
      → pending_in id y ≡ pending_in id x
  quiet_pends x y call d =
      let st = changes_still raise_tables x y call d in
      let a = goes_counts id x.lock y.lock st.lock.way st.lock.goes in
      let b = goes_counts id x.low y.low st.low.way st.low.goes in
      let (p, q) = still_raises x.size y.size id st.lock.way st.lock.still in
      let (r, s) = still_raises x.size y.size id st.low.way st.low.still in
      omega (arith, a, b, p, q, r, s)

  -- ---- several CPUs, one of which changed
  module _ (n m : ℕ) (D : CpuView Tables → CpuView Tables → Type 0) (v w : CpusView Tables) (c : ChangesAt m D v w) where
    pub on_before : pending_on m id v ≡ pending_in id c.before
    on_before = ap (λ o. option_map_or (pending_in id) o 0) c.here

    pub on_after : pending_on m id w ≡ pending_in id c.after
    on_after = ap (λ o. option_map_or (pending_in id) o 0)
        (ap (λ (u : CpusView Tables). slice_get u.cpus m) c.rest
        ∙ get_set_same v.cpus m c.after (slice_get_within v.cpus m c.before c.here))

    pub on_other : n ≢ m → pending_on n id w ≡ pending_on n id v
    on_other ne = ap (λ o. option_map_or (pending_in id) o 0)
        (ap (λ (u : CpusView Tables). slice_get u.cpus n) c.rest ∙ get_set_other v.cpus m n c.after ne)

    pub all_after : sum_by (pending_in id) w.cpus + pending_in id c.before ≡ sum_by (pending_in id) v.cpus + pending_in id c.after
    all_after = let a = ap (λ (u : CpusView Tables). sum_by (pending_in id) u.cpus) c.rest in
        let b = sum_set (pending_in id) v.cpus m c.before c.after c.here in omega (arith, a, b)

  -- the outstanding calls are as many, on each CPU and on all
  pub record KeepsPending (v w : CpusView Tables) : Type 0 where
    pub each : (n : ℕ) → pending_on n id w ≡ pending_on n id v
    pub all : sum_by (pending_in id) w.cpus ≡ sum_by (pending_in id) v.cpus
    pub lawful : ((n : ℕ) (x : CpuView Tables) → IsCpu n x v → HasLawfulLevels x)
        → (n : ℕ) (x : CpuView Tables) → IsCpu n x w → HasLawfulLevels x

  keeps_none : (v w : CpusView Tables) → w.cpus ≡ v.cpus → KeepsPending v w
  keeps_none v w e = record {
    each = λ n. ap (λ xs. option_map_or (pending_in id) (slice_get xs n) 0) e;
    all = ap (λ xs. sum_by (pending_in id) xs) e;
    lawful = λ h n x at. h n x (ap (λ xs. slice_get xs n) (sym e) ∙ at);
  }

  keeps_then : (u v w : CpusView Tables) → KeepsPending u v → KeepsPending v w → KeepsPending u w
  keeps_then u v w a b = record {
    each = λ n. b.each n ∙ a.each n;
    all = b.all ∙ a.all;
    lawful = λ h. b.lawful (a.lawful h);
  }

  pub keeps_at : (m : ℕ) (D : CpuView Tables → CpuView Tables → Type 0) (v w : CpusView Tables) (c : ChangesAt m D v w)
      → pending_in id c.after ≡ pending_in id c.before → (HasLawfulLevels c.before → HasLawfulLevels c.after) → KeepsPending v w
  keeps_at m D v w c same keeps = record {
    each = λ n. dite (ℕ_discrete n m)
        (λ e. subst (λ k. pending_on k id w ≡ pending_on k id v) (sym e)
        (on_after n m D v w c ∙ same ∙ sym (on_before n m D v w c)))
        (λ ne. on_other n m D v w c ne);
    all = (let a = all_after 0 m D v w c in omega (arith, a, same));
    lawful = λ h. at_one HasLawfulLevels m D v w c (keeps (h m c.before c.here)) h;
  }

  parts_keep : (way : List CpusCall) (v w : CpusView Tables) → FoldsTo (DoesPart raise_tables) v way w → KeepsPending v w
  parts_keep [] v w e = keeps_none v w (ap (λ (u : CpusView Tables). u.cpus) (sym e))
  parts_keep (OnCpu c ∷ way) v w (u, d, rest) = keeps_then v u w
      (keeps_at c.cpu _ v u d (quiet_pends d.before d.after c.call d.change) (quiet_levels d.before d.after c.call d.change))
      (parts_keep way u w rest)
  parts_keep (SetOnline n online ∷ way) v w (u, e, rest) = keeps_then v u w
      (keeps_none v u (ap (λ (z : CpusView Tables). z.cpus) e)) (parts_keep way u w rest)

  -- a call that reaches no handler
  pub quietly : (s t : SystemView Tables) (call : SystemCall) → Changes raise_tables s call t → KeepsPending s.cpus t.cpus
  quietly s t call d = let m = made_of raise_tables s t call d in parts_keep m.way s.cpus t.cpus m.works

module _ {C : Type 0} (handler : Calls C) (id : ℕ) where
  abbrev Call : RunningSystem C Tables → SystemCall → RunningSystem C Tables → Type 0
  Call = Does handler raise_tables (Interrupts handler)

  abbrev CpuCalls : Running C Tables → CpuCall → Running C Tables → Type 0
  CpuCalls = CpuDoes handler raise_tables (Interrupts handler)

  abbrev lost_in : (call : SystemCall) (s t : RunningSystem C Tables) → Call s call t → ℕ
  lost_in call s t d = losses_in handler raise_tables (Interrupts handler) id call s t d

  -- a fire of one CPU: its ends were raised for these, and these were lost
  pub record HasFired (raised high losses : ℕ) (s t : Running C Tables) : Type 0 where
    pub pends : pending_in id t.cpu + losses ≡ pending_in id s.cpu + raised
    pub calls : handler.count t.calls id ≡ handler.count s.calls id + high
    pub lawful : HasLawfulLevels s.cpu → HasLawfulLevels t.cpu

  pub fire_pends : (s t : Running C Tables) (now : ℕ) (answer : Result Fired FireRefused) → IsLawful firing_at s.cpu
      → (d : CpuCalls s (Fire now answer) t)
      → HasFired (raised_in (account_of (Fire now answer) s.cpu.cyclics) id)
      ((account_of (Fire now answer) s.cpu.cyclics).fired High id)
      (losses_of_fire handler raise_tables (Interrupts handler) id now answer s t d) s t
  fire_pends s t now answer law d =
      let p = fire_here handler raise_tables (Interrupts handler)
      (λ s t level budget answer d. d.1.cyclics) id s t now answer law d in
      let q = lost_here handler raise_tables (Interrupts handler)
      (λ s t level budget answer d. d.1.cyclics) id s t now answer law d in
      let a = goes_counts id s.cpu.lock t.cpu.lock p.lock.way p.lock.goes in
      let b = goes_counts id s.cpu.low t.cpu.low p.low.way p.low.goes in
      let e = p.lock.raises id in let f = p.low.raises id in let g = p.lock.losses id in let h = p.low.losses id in
      let l = p.lost id in let k = p.called id in
      record {
        pends = omega (arith, q, a, b, e, f, g, h, l);
        calls = k;
        lawful = λ h. (
          goes_law s.cpu.lock t.cpu.lock p.lock.way p.lock.goes h.0,
          goes_law s.cpu.low t.cpu.low p.low.way p.low.goes h.1,
        );
      }

  -- a soft interrupt of one CPU
  pub record HasServed (s t : Running C Tables) : Type 0 where
    pub pends : pending_in id t.cpu + handler.count t.calls id ≡ pending_in id s.cpu + handler.count s.calls id
    pub lawful : HasLawfulLevels t.cpu

  pub serve_pends : (s t : Running C Tables) (level : Soft) (budget : ℕ) (answer : Result Ran SoftRefused)
      → IsLawful firing_at s.cpu → HasLawfulLevels s.cpu → CpuCalls s (CpuSoftInterrupt level budget answer) t → HasServed s t
  serve_pends s t level budget answer law (lock, low) d =
      let ts = timers s.cpu.cyclics in
      let p = core_proceeds_one handler s t (CpuSoftInterrupt level budget answer) law d in
      let a = way_counts id s.cpu.lock t.cpu.lock p.lock.way p.lock.goes lock in
      let b = way_counts id s.cpu.low t.cpu.low p.low.way p.low.goes low in
      let e = p.lock.raises id in let f = p.low.raises id in let g = p.lock.losses id in let h = p.low.losses id in
      let i = p.lock.finishes id in let j = p.low.finishes id in let k = p.called id in let l = p.lost id in
      let x = none_made Lock ts id in let y = none_made Low ts id in let z = none_made High ts id in
      let same = ap (lost_of id) d.1.cyclics in
      record {
        pends = omega (arith, a, b, e, f, g, h, i, j, k, l, x, y, z, same);
        lawful = (
          way_law s.cpu.lock t.cpu.lock p.lock.way p.lock.goes lock,
          way_law s.cpu.low t.cpu.low p.low.way p.low.goes low,
        );
      }

  -- a fire that is refused before it begins raises nothing
  pub refused_raises : (n now : ℕ) (e : Refusal) (v : CpusView Tables) → raised_on n id now (Err (no_fire e)) v ≡ 0
  refused_raises n now e v = by (slice_get v.cpus n)
    where
      by : (o : Option (CpuView Tables))
          → option_map_or (λ cpu. raised_in (account_of (Fire now (Err (no_fire e))) cpu.cyclics) id) o 0 ≡ 0
      by None = refl
      by (Some cpu) = let a = none_made Lock (timers cpu.cyclics) id in let b = none_made Low (timers cpu.cyclics) id in
          omega (arith, a, b)

  -- ---- each call

  -- those of a CPU that it doesn't serve
  same_on : (n : ℕ) (s t : RunningSystem C Tables) → t ≡ s → pending_on n id t.system.cpus ≡ pending_on n id s.system.cpus
  same_on n s t e = ap (λ (x : RunningSystem C Tables). pending_on n id x.system.cpus) e

  pub kept_on : (n : ℕ) (s t : RunningSystem C Tables) (call : SystemCall) → Call s call t → (ReachesHandlers n call → ⊥)
      → pending_on n id t.system.cpus ≡ pending_on n id s.system.cpus
  kept_on n s t (FireOne m now answer) (inl (e, why, is, same)) not = same_on n s t same
  kept_on n s t (FireOne m now answer) (inr (clear, (runs, records, last))) not =
      on_other id n m _ s.system.cpus t.system.cpus runs (λ e. not (sym e))
  kept_on n s t (SoftInterrupt m level budget answer) (inl (e, why, is, same)) not = same_on n s t same
  kept_on n s t (SoftInterrupt m level budget answer) (inr (clear, (own, is, runs, records, last))) not =
      on_other id n m _ s.system.cpus t.system.cpus runs (λ e. not (sym e))
  kept_on n s t (Add level when now answer) d not = (quietly id s.system t.system (Add level when now answer) d.0).each n
  kept_on n s t (AddOmni level when skew now answer) d not =
      (quietly id s.system t.system (AddOmni level when skew now answer) d.0).each n
  kept_on n s t (Bind own cpu answer) d not = (quietly id s.system t.system (Bind own cpu answer) d.0).each n
  kept_on n s t (BeginRemove own answer) d not = (quietly id s.system t.system (BeginRemove own answer) d.0).each n
  kept_on n s t (PollRemove own answer) d not = (quietly id s.system t.system (PollRemove own answer) d.0).each n
  kept_on n s t (AskTotals own answer) d not = (quietly id s.system t.system (AskTotals own answer) d.0).each n
  kept_on n s t (Suspend answer) d not = (quietly id s.system t.system (Suspend answer) d.0).each n
  kept_on n s t (Resume answer) d not = (quietly id s.system t.system (Resume answer) d.0).each n
  kept_on n s t (Reprogram own moment answer) d not = (quietly id s.system t.system (Reprogram own moment answer) d.0).each n
  kept_on n s t (ReprogramOn own m moment answer) d not =
      (quietly id s.system t.system (ReprogramOn own m moment answer) d.0).each n
  kept_on n s t (Juggle m answer) d not = (quietly id s.system t.system (Juggle m answer) d.0).each n
  kept_on n s t (Offline m answer) d not = (quietly id s.system t.system (Offline m answer) d.0).each n
  kept_on n s t (Online m now answer) d not = (quietly id s.system t.system (Online m now answer) d.0).each n

  pub fired_on : (n now : ℕ) (answer : Result Fired FireRefused) (s t : RunningSystem C Tables)
      → ((m : ℕ) (x : CpuView Tables) → IsCpu m x s.system.cpus → IsLawful firing_at x) → (d : Call s (FireOne n now answer) t)
      → pending_on n id t.system.cpus + lost_in (FireOne n now answer) s t d
      ≡ pending_on n id s.system.cpus + raised_on n id now answer s.system.cpus
  fired_on n now answer s t law (inl (e, why, is, same)) =
      let a = same_on n s t same in
      let b = ap (λ r. raised_on n id now r s.system.cpus) is ∙ refused_raises n now e s.system.cpus in omega (arith, a, b)
  fired_on n now answer s t law (inr (clear, (runs, records, last))) =
      let f = (fire_pends (running s.calls runs.before) (running t.calls runs.after) now answer (law n runs.before runs.here)
      runs.change).pends in
      let a = on_before id n n _ s.system.cpus t.system.cpus runs in
      let b = on_after id n n _ s.system.cpus t.system.cpus runs in
      let e = ap (λ o. option_map_or (λ (cpu : CpuView Tables). raised_in (account_of (Fire now answer) cpu.cyclics) id) o 0)
      runs.here in omega (arith, f, a, b, e)

  pub served_on : (n budget : ℕ) (level : Soft) (answer : _) (s t : RunningSystem C Tables)
      → ((m : ℕ) (x : CpuView Tables) → IsCpu m x s.system.cpus → IsLawful firing_at x × HasLawfulLevels x)
      → Call s (SoftInterrupt n level budget answer) t
      → pending_on n id t.system.cpus + handler.count t.calls id ≡ pending_on n id s.system.cpus + handler.count s.calls id
  served_on n budget level answer s t law (inl (e, why, is, same)) =
      let a = same_on n s t same in let b = ap (λ (x : RunningSystem C Tables). handler.count x.calls id) same in omega
      (arith, a, b)
  served_on n budget level answer s t law (inr (clear, (own, is, runs, records, last))) =
      let (lawful, levels) = law n runs.before runs.here in
      let f = (serve_pends (running s.calls runs.before) (running t.calls runs.after) level budget own lawful levels
      runs.change).pends in
      let a = on_before id n n _ s.system.cpus t.system.cpus runs in
      let b = on_after id n n _ s.system.cpus t.system.cpus runs in omega (arith, f, a, b)
