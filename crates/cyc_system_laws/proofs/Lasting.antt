-- What a fire and a soft interrupt keep of the stays of an id.
use Rattle.std.proofs.Common.{◌≡◌, ◌∙◌, ◌==◌, ℕ, inl, inr, cond, Result, Ok, Err, List, [], ◌∷◌, map, refl, sym, ap, arith}
use Rattle.std.specs.Prelude.{sum_by}
use Rattle.std.proofs.lemmas.List.Sums.{sum_by-cons}
use Rattle.cyc_types.specs.declared.Calls.{Ghosts as Calls}
use Rattle.cyc_types.specs.declared.Raise.{Ghosts as Raise}
use Rattle.cyc_types.specs.declared.level.Level.{Level}
use Rattle.cyc_types.specs.declared.level.Soft.{Soft}
use Rattle.cyc_soft.specs.declared.Ran.{Ran}
use Rattle.cyc_soft.specs.declared.SoftRefused.{SoftRefused}
use Rattle.cyc_types.specs.Timers.{Timer}
use Rattle.cyc_types.specs.Expirations.{Expiration, after_expirations, all_after}
use Rattle.cyc_timers.specs.Rows.{Cyclic, timers}
use Rattle.cyc_timers.specs.declared.fire.Fired.{Fired}
use Rattle.cyc_timers.specs.declared.fire.FireRefused.{FireRefused}
use Rattle.cyc_cpu.specs.Cpu.{CpuView, Running, running}
use Rattle.cyc_cpu.specs.Calls.{CpuDoes as CpuDoes, Fire}
use Rattle.cyc_cpu.specs.declared.moving.Taken.{Taken}
use Rattle.cyc_agreement.specs.Cpus.{ChangesAt}
use Rattle.cyc_system.specs.declared.system.SoftFault.{SoftFault}
use Rattle.cyc_system.specs.System.{SystemView, RunningSystem}
use Rattle.cyc_system.specs.Calls.{Does, FireOne, SoftInterrupt}
use Rattle.cyc_system_laws.specs.Sound.{IsSound}
use Rattle.cyc_system_laws.specs.Keeping.{over_stays}
use Rattle.cyc_system_laws.proofs.Flow.{on_cpu, on_cpus, sum_set}
use Rattle.cyc_system_laws.proofs.Found.{stays_found}

module _ (id : ℕ) (f : Level → ℕ → ℕ) where
  -- a measure of the timers of the id, by level and interval
  abbrev kind : Timer → ℕ
  kind t = cond (t.id == id) (f t.level t.interval) 0

  sum_timers : (cs : List Cyclic) → sum_by (λ (c : Cyclic). kind c.timer) cs ≡ sum_by kind (timers cs)
  sum_timers [] = refl
  sum_timers (c ∷ cs) = let a = sum_by-cons (λ (c : Cyclic). kind c.timer) c cs in let b = sum_by-cons kind c.timer (timers cs) in
      let d = sum_timers cs in omega (arith, a, b, d)

  one_after : (now : ℕ) (made : List Expiration) (t : Timer) → kind (after_expirations now made t) ≡ kind t
  unfolding after_expirations
  one_after now made t = refl

  all_kept : (now : ℕ) (made : List Expiration) (ts : List Timer)
      → sum_by kind (map (after_expirations now made) ts) ≡ sum_by kind ts
  all_kept now made [] = refl
  all_kept now made (t ∷ ts) =
      let a = sum_by-cons kind (after_expirations now made t) (map (after_expirations now made) ts) in let b = sum_by-cons kind
      t ts in
      let c = one_after now made t in let d = all_kept now made ts in omega (arith, a, b, c, d)

  fired_kinds : (now : ℕ) (made : List Expiration) (cs cs' : List Cyclic) → timers cs' ≡ all_after now made (timers cs)
      → sum_by (λ (c : Cyclic). kind c.timer) cs' ≡ sum_by (λ (c : Cyclic). kind c.timer) cs
  unfolding all_after
  fired_kinds now made cs cs' are =
      sum_timers cs' ∙ (ap (sum_by kind) are ∙ (all_kept now made (timers cs) ∙ sym (sum_timers cs)))

module _ {C R : Type 0} (handler : Calls C) (firing : Raise R)
    (interrupts : Soft → ℕ → Result Ran SoftRefused → Running C R → Running C R → Type 0) (id : ℕ) where
  -- a CPU changed, and what is measured of its stays did not
  kept_at : (m : Taken → ℕ) (n : ℕ) (D : CpuView R → CpuView R → Type 0) (s t : SystemView R)
      (c : ChangesAt n D s.cpus t.cpus) → IsSound firing.view s → IsSound firing.view t → on_cpu m id c.after
      ≡ on_cpu m id c.before
      → over_stays m id t ≡ over_stays m id s
  kept_at m n D s t c a b same =
      let x0 = stays_found firing.view id m s a.lawful in let x1 = stays_found firing.view id m t b.lawful in
      let x = sum_set (on_cpu m id) s.cpus.cpus n c.before c.after c.here in let x2 = ap (on_cpus m id) c.rest in
      omega (arith, x0, x1, x, x2, same)

  fire_kinds : (f : Level → ℕ → ℕ) (now : ℕ) (answer : Result Fired FireRefused) (x y : Running C R)
      → CpuDoes handler firing interrupts x (Fire now answer) y
      → on_cpu (λ a. f a.level a.interval) id y.cpu ≡ on_cpu (λ a. f a.level a.interval) id x.cpu
  fire_kinds f now (Ok r) x y (early, kept, expired, next, makes) = fired_kinds id f now _ _ _ makes.timers_are
  fire_kinds f now (Err e) x y (inl (never, is, same)) =
      ap (λ (s : Running C R). on_cpu (λ a. f a.level a.interval) id s.cpu) same
  fire_kinds f now (Err e) x y (inr (early, kept, stopped)) = fired_kinds id f now stopped.made _ _ stopped.makes.timers_are

  pub fires_keep : (n now : ℕ) (answer : Result Fired FireRefused) (s t : RunningSystem C R) → IsSound firing.view s.system
      → IsSound firing.view t.system → Does handler firing interrupts s (FireOne n now answer) t
      → (f : Level → ℕ → ℕ)
      → over_stays (λ a. f a.level a.interval) id t.system ≡ over_stays (λ a. f a.level a.interval) id s.system
  fires_keep n now answer s t a b (inl (e, why, is, same)) f =
      ap (λ (x : RunningSystem C R). over_stays (λ a. f a.level a.interval) id x.system) same
  fires_keep n now answer s t a b (inr (clear, (runs, records, last))) f =
      kept_at (λ a. f a.level a.interval) n _ s.system t.system runs a b
      (fire_kinds f now answer (running s.calls runs.before) (running t.calls runs.after) runs.change)

  pub interrupts_keep : ((s t : Running C R) (level : Soft) (budget : ℕ) (answer : Result Ran SoftRefused)
      → interrupts level budget answer s t → t.cpu.cyclics ≡ s.cpu.cyclics)
      → (n budget : ℕ) (level : Soft) (answer : Result Ran SoftFault) (s t : RunningSystem C R) → IsSound firing.view s.system
      → IsSound firing.view t.system → Does handler firing interrupts s (SoftInterrupt n level budget answer) t
      → (m : Taken → ℕ) → over_stays m id t.system ≡ over_stays m id s.system
  interrupts_keep serves n budget level answer s t a b (inl (e, why, is, same)) m =
      ap (λ (x : RunningSystem C R). over_stays m id x.system) same
  interrupts_keep serves n budget level answer s t a b (inr (clear, (own, is, runs, records, last))) m =
      let e = serves (running s.calls runs.before) (running t.calls runs.after) level budget own runs.change in
      kept_at m n _ s.system t.system runs a b
      (ap (λ (cs : List Cyclic). on_cpu m id (record runs.before { cyclics = cs })) e)
