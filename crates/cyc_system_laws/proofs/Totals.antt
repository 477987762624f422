-- What the fires of a run make of an id and lose of it, on all CPUs.
use Rattle.std.proofs.Common.{◌≡◌, ◌∙◌, ℕ, suc, ◌+◌, ◌≤◌, inl, inr, All, Option, Some, None, Result, Ok, Err, List, [], ◌∷◌, refl}
use Rattle.std.proofs.Common.{sym, ap, subst, arith}
use Rattle.std.specs.Prelude.{sum_by}
use Rattle.std.specs.List.{slice_get, FoldsTo}
use Rattle.std.specs.Option.{option_map_or}
use Rattle.cyc_types.specs.declared.Calls.{Ghosts as Calls}
use Rattle.cyc_types.specs.declared.Raise.{Ghosts as Raise}
use Rattle.cyc_types.specs.declared.firing.Sent.{Sent}
use Rattle.cyc_types.specs.declared.level.Level.TheVariants.{Low, Lock, High}
use Rattle.cyc_types.specs.declared.level.Soft.{Soft}
use Rattle.cyc_types.specs.declared.refusal.Refusal.{Refusal}
use Rattle.cyc_soft.specs.declared.Ran.{Ran}
use Rattle.cyc_soft.specs.declared.SoftRefused.{SoftRefused}
use Rattle.cyc_timers.proofs.Sharing.{raises_add_up, ids_add_up}
use Rattle.cyc_timers.specs.declared.fire.Fired.{Fired}
use Rattle.cyc_timers.specs.declared.fire.FireRefused.{FireRefused}
use Rattle.cyc_timers.specs.Rows.{timers}
use Rattle.cyc_cpu.specs.Cpu.{CpuView, Running, running}
use Rattle.cyc_cpu.specs.Laws.{IsLawful}
use Rattle.cyc_cpu.specs.Calls.{CpuDoes as CpuDoes, Fire}
use Rattle.cyc_types.specs.Expirations.{expirations}
use Rattle.cyc_cpu_laws.specs.Accounts.{account_of, Proceeds}
use Rattle.cyc_cpu.specs.Carried.{expired_of, lost_of}
use Rattle.cyc_cpu_laws.proofs.Accounting.{proceeds_one, none_made}
use Rattle.cyc_cpu_laws.proofs.Fires.{fired_lost}
use Rattle.cyc_cpu_laws.proofs.Ways.{passes_few}
use Rattle.cyc_agreement.specs.Cpus.{ChangesAt}
use Rattle.cyc_system.specs.System.{SystemView, RunningSystem}
use Rattle.cyc_system.proofs.Recording.{found}
use Rattle.cyc_system.specs.Counts.{all_expired, all_lost}
use Rattle.cyc_system.specs.Calls.{SystemCall, Changes, Does, Add, AddOmni, Bind, BeginRemove, PollRemove, AskTotals}
use Rattle.cyc_system.specs.Calls.{Suspend, Resume, Reprogram, ReprogramOn, Juggle, Offline, Online, FireOne}
use Rattle.cyc_system.specs.Calls.{SoftInterrupt, no_fire}
use Rattle.cyc_system_laws.specs.Sound.{IsSound}
use Rattle.cyc_system_laws.specs.Keeping.{EndsRemoval}
use Rattle.cyc_system_laws.specs.Totalling.{fired_in, expirations_in, expirations_along, losses_of_fire, losses_in}
use Rattle.cyc_system_laws.specs.Totalling.{losses_along, Steps}
use Rattle.cyc_system_laws.proofs.Flow.{on_cpu, on_cpus, sum_set}
use Rattle.cyc_system_laws.proofs.Found.{stays_found}
use Rattle.cyc_system_laws.proofs.Counts.{counts_same}

abbrev sent : Sent → ℕ
sent e = e.sent

abbrev lost : Sent → ℕ
lost e = e.lost

-- a fire that is refused before it begins makes nothing
pub refused_none : {R : Type 0} (id n now : ℕ) (e : Refusal) (s : SystemView R)
    → expirations_in id (FireOne n now (Err (no_fire e))) s ≡ 0
refused_none {R} id n now e s = by (slice_get s.cpus.cpus n)
  where
    by : (o : Option (CpuView R)) → option_map_or
        (λ cpu. fired_in (account_of (Fire now (Err (no_fire e))) cpu.cyclics) id) o 0 ≡ 0
    by None = refl
    by (Some cpu) = let a = none_made Lock (timers cpu.cyclics) id in let b = none_made Low (timers cpu.cyclics) id in
        let c = none_made High (timers cpu.cyclics) id in omega (arith, a, b, c)

module _ {C R : Type 0} (handler : Calls C) (firing : Raise R)
    (interrupts : Soft → ℕ → Result Ran SoftRefused → Running C R → Running C R → Type 0)
    (serves : (s t : Running C R) (level : Soft) (budget : ℕ) (answer : Result Ran SoftRefused)
    → interrupts level budget answer s t → t.cpu.cyclics ≡ s.cpu.cyclics) (id : ℕ) where
  -- a fire of one CPU
  pub fire_here : (s t : Running C R) (now : ℕ) (answer : Result Fired FireRefused) → IsLawful firing.view s.cpu
      → CpuDoes handler firing interrupts s (Fire now answer) t
      → Proceeds handler.count firing (account_of (Fire now answer) s.cpu.cyclics) s t
  fire_here s t now (Ok r) law d = proceeds_one handler firing s t (Fire now (Ok r)) law d
  fire_here s t now (Err e) law d = proceeds_one handler firing s t (Fire now (Err e)) law d

  -- what it lost
  pub lost_here : (s t : Running C R) (now : ℕ) (answer : Result Fired FireRefused) → IsLawful firing.view s.cpu
      → (d : CpuDoes handler firing interrupts s (Fire now answer) t)
      → lost_of id t.cpu.cyclics
      ≡ lost_of id s.cpu.cyclics + losses_of_fire handler firing interrupts id now answer s t d
  lost_here s t now (Ok r) law (early, kept, expired, next, m) =
      let ts = timers s.cpu.cyclics in let made = expirations now ts in
      fired_lost id now made m.acts.lock_way m.acts.low_way s.cpu.cyclics t.cpu.cyclics law.distinct m.timers_are m.losses_are
      (raises_add_up id _ m.acts.lock_way m.acts.lock_raises ∙ ids_add_up id Lock ts made)
      (raises_add_up id _ m.acts.low_way m.acts.low_raises ∙ ids_add_up id Low ts made)
  lost_here s t now (Err e) law (inl (late, is, same)) =
      let x = ap (λ (u : Running C R). lost_of id u.cpu.cyclics) same in omega (arith, x)
  lost_here s t now (Err e) law (inr (early, kept, f)) =
      let ts = timers s.cpu.cyclics in let m = f.makes in
      fired_lost id now f.made m.acts.lock_way m.acts.low_way s.cpu.cyclics t.cpu.cyclics law.distinct m.timers_are m.losses_are
      (raises_add_up id _ m.acts.lock_way m.acts.lock_raises ∙ ids_add_up id Lock ts f.made)
      (raises_add_up id _ m.acts.low_way m.acts.low_raises ∙ ids_add_up id Low ts f.made)

  -- so many expirations, of which so many were lost
  pub record Grows (made losses : ℕ) (s t : SystemView R) : Type 0 where
    pub expired : all_expired id t ≡ all_expired id s + made
    pub lost : all_lost id t ≡ all_lost id s + losses
    pub few : losses ≤ made

  grows_same : (s t : SystemView R) → all_expired id t ≡ all_expired id s → all_lost id t ≡ all_lost id s → Grows 0 0 s t
  grows_same s t a b = record { expired = omega (arith, a); lost = omega (arith, b); few = omega arith }

  grows_is : (made made' losses : ℕ) (s t : SystemView R) → made ≡ made' → Grows made losses s t → Grows made' losses s t
  grows_is made made' losses s t e g = subst (λ n. Grows n losses s t) e g

  pub grows_then : (a b l k : ℕ) (s t u : SystemView R) → Grows a l s t → Grows b k t u → Grows (a + b) (l + k) s u
  grows_then a b l k s t u g h = record {
    expired = (let x = g.expired in let y = h.expired in omega (arith, x, y));
    lost = (let x = g.lost in let y = h.lost in omega (arith, x, y));
    few = (let x = g.few in let y = h.few in omega (arith, x, y));
  }

  -- what one CPU gained
  gained : (n : ℕ) (D : CpuView R → CpuView R → Type 0) (s t : RunningSystem C R) (made losses : ℕ)
      (c : ChangesAt n D s.system.cpus t.system.cpus) → IsSound firing.view s.system → IsSound firing.view t.system
      → t.system.records ≡ s.system.records → expired_of id c.after.cyclics ≡ expired_of id c.before.cyclics + made
      → lost_of id c.after.cyclics ≡ lost_of id c.before.cyclics + losses → losses ≤ made
      → Grows made losses s.system t.system
  gained n D s t made losses c a b records expired lost few =
      let x0 = stays_found firing.view id (λ t. t.sent.sent) s.system a.lawful in
      let x1 = stays_found firing.view id (λ t. t.sent.sent) t.system b.lawful in
      let y0 = stays_found firing.view id (λ t. t.sent.lost) s.system a.lawful in
      let y1 = stays_found firing.view id (λ t. t.sent.lost) t.system b.lawful in
      let x = sum_set (on_cpu (λ t. t.sent.sent) id) s.system.cpus.cpus n c.before c.after c.here in
      let y = sum_set (on_cpu (λ t. t.sent.lost) id) s.system.cpus.cpus n c.before c.after c.here in
      let x2 = ap (on_cpus (λ t. t.sent.sent) id) c.rest in let y2 = ap (on_cpus (λ t. t.sent.lost) id) c.rest in
      let p = ap (λ rs. option_map_or (λ r. sum_by (λ e. e.sent) r.ended) (found id rs) 0) records in
      let q = ap (λ rs. option_map_or (λ r. sum_by (λ e. e.lost) r.ended) (found id rs) 0) records in
      record {
        expired = omega (arith, x0, x1, x, x2, p, expired);
        lost = omega (arith, y0, y1, y, y2, q, lost);
        few = few;
      }

  quietly : (s t : RunningSystem C R) (call : SystemCall) → IsSound firing.view s.system → IsSound firing.view t.system
      → Changes firing s.system call t.system → (EndsRemoval id call → ⊥) → Grows 0 0 s.system t.system
  quietly s t call a b d open_still = grows_same s.system t.system
      (counts_same firing sent refl (λ x y. refl) id s.system t.system call a b d open_still)
      (counts_same firing lost refl (λ x y. refl) id s.system t.system call a b d open_still)

  fires_one : (n now : ℕ) (answer : Result Fired FireRefused) (s t : RunningSystem C R) → IsSound firing.view s.system
      → IsSound firing.view t.system
      → (d : Does handler firing interrupts s (FireOne n now answer) t)
      → Grows (expirations_in id (FireOne n now answer) s.system)
      (losses_in handler firing interrupts id (FireOne n now answer) s t d) s.system t.system
  fires_one n now answer s t a b (inl (e, why, is, same)) =
      grows_is 0 _ 0 s.system t.system (sym
      (ap (λ (r : Result Fired FireRefused). expirations_in id (FireOne n now r) s.system) is
      ∙ refused_none id n now e s.system))
      (grows_same s.system t.system (ap (λ (x : RunningSystem C R). all_expired id x.system) same)
      (ap (λ (x : RunningSystem C R). all_lost id x.system) same))
  fires_one n now answer s t a b (inr (clear, (runs, records, last))) =
      let p = fire_here (running s.calls runs.before) (running t.calls runs.after) now answer
      (a.lawful n runs.before runs.here) runs.change in
      let made = fired_in (account_of (Fire now answer) runs.before.cyclics) id in
      let is : made ≡ expirations_in id (FireOne n now answer) s.system = ap
      (λ o. option_map_or (λ (cpu : CpuView R). fired_in (account_of (Fire now answer) cpu.cyclics) id) o 0)
      (sym runs.here) in
      let l = p.lost id in let k = passes_few firing _ p.lock_lost _ _ p.lock id in
      let m = passes_few firing _ p.low_lost _ _ p.low id in
      let e = p.expired id in
      let q = lost_here (running s.calls runs.before) (running t.calls runs.after) now answer
      (a.lawful n runs.before runs.here) runs.change in
      grows_is made _ _ s.system t.system is
      (gained n _ s t made _ runs a b records (omega (arith, e)) q (omega (arith, l, k, m, q)))

  pub one_grows : (s t : RunningSystem C R) (call : SystemCall) → IsSound firing.view s.system → IsSound firing.view t.system
      → (EndsRemoval id call → ⊥) → (d : Does handler firing interrupts s call t)
      → Grows (expirations_in id call s.system) (losses_in handler firing interrupts id call s t d)
      s.system t.system
  one_grows s t (FireOne n now answer) a b open_still d = fires_one n now answer s t a b d
  one_grows s t (SoftInterrupt n level budget answer) a b open_still (inl (e, why, is, same)) =
      grows_same s.system t.system (ap (λ (x : RunningSystem C R). all_expired id x.system) same)
      (ap (λ (x : RunningSystem C R). all_lost id x.system) same)
  one_grows s t (SoftInterrupt n level budget answer) a b open_still (inr (clear, (own, is, runs, records, last))) =
      let e = serves (running s.calls runs.before) (running t.calls runs.after) level budget own runs.change in
      let x = ap (expired_of id) e in let y = ap (lost_of id) e in
      gained n _ s t 0 0 runs a b records (omega (arith, x)) (omega (arith, y)) (omega arith)
  one_grows s t (Add level when now answer) a b open_still d = quietly s t (Add level when now answer) a b d.0 open_still
  one_grows s t (AddOmni level when skew now answer) a b open_still d = quietly s t
      (AddOmni level when skew now answer) a b d.0 open_still
  one_grows s t (Bind own cpu answer) a b open_still d = quietly s t (Bind own cpu answer) a b d.0 open_still
  one_grows s t (BeginRemove own answer) a b open_still d = quietly s t (BeginRemove own answer) a b d.0 open_still
  one_grows s t (PollRemove own answer) a b open_still d = quietly s t (PollRemove own answer) a b d.0 open_still
  one_grows s t (AskTotals own answer) a b open_still d = quietly s t (AskTotals own answer) a b d.0 open_still
  one_grows s t (Suspend answer) a b open_still d = quietly s t (Suspend answer) a b d.0 open_still
  one_grows s t (Resume answer) a b open_still d = quietly s t (Resume answer) a b d.0 open_still
  one_grows s t (Reprogram own moment answer) a b open_still d = quietly s t (Reprogram own moment answer) a b d.0 open_still
  one_grows s t (ReprogramOn own n moment answer) a b open_still d = quietly s t
      (ReprogramOn own n moment answer) a b d.0 open_still
  one_grows s t (Juggle n answer) a b open_still d = quietly s t (Juggle n answer) a b d.0 open_still
  one_grows s t (Offline n answer) a b open_still d = quietly s t (Offline n answer) a b d.0 open_still
  one_grows s t (Online n now answer) a b open_still d = quietly s t (Online n now answer) a b d.0 open_still

  abbrev D : RunningSystem C R → SystemCall → RunningSystem C R → Type 0
  D = Steps handler firing interrupts

  pub run_grows : (s t : RunningSystem C R) (way : List SystemCall) (run : FoldsTo D s way t) → IsSound firing.view s.system
      → All (λ call. EndsRemoval id call → ⊥) way
      → Grows (expirations_along D id s way t run)
      (losses_along handler firing interrupts id s way t run) s.system t.system
  run_grows s t [] run a open_still = grows_same s.system t.system
      (ap (λ (x : RunningSystem C R). all_expired id x.system) (sym run))
      (ap (λ (x : RunningSystem C R). all_lost id x.system) (sym run))
  run_grows s t (call ∷ way) (u, (d, sound), rest) a open_still =
      grows_then _ _ _ _ s.system u.system t.system (one_grows s u call a sound (open_still 0 call (omega arith)) d)
      (run_grows u t way rest sound (λ k e low. open_still (suc k) e (omega (arith, low))))

  pub run_sound : (s t : RunningSystem C R) (way : List SystemCall) → FoldsTo D s way t → IsSound firing.view s.system
      → IsSound firing.view t.system
  run_sound s t [] run a = subst (λ (x : RunningSystem C R). IsSound firing.view x.system) run a
  run_sound s t (call ∷ way) (u, (d, sound), rest) a = run_sound u t way rest sound
