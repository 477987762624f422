-- Nothing is lost of an id whose expirations are at most every ceiling.
use Rattle.std.proofs.Common.{◌≡◌, ◌∙◌, ◌==◌, ℕ, suc, ◌≤◌, inl, inr, Bool, true, false, cond, All, Option, Some, None}
use Rattle.std.proofs.Common.{Result, Ok, Err, List, [], ◌∷◌, map, refl, sym, ap, subst, arith}
use Rattle.std.specs.Prelude.{sum_by}
use Rattle.std.specs.List.{slice_get, FoldsTo}
use Rattle.std.specs.Option.{option_map, option_map_or}
use Rattle.std.proofs.lemmas.Option.{slice_get-map, slice_get_within, get_or_from_slice_get}
use mathlib.Core.Logic.{dite}
use native.Mathlib.Decide.{ℕ_discrete}
use Rattle.cyc_types.specs.declared.Calls.{Ghosts as Calls}
use Rattle.cyc_types.specs.declared.Raise.{Ghosts as Raise}
use Rattle.cyc_types.specs.Runs.{raised_by, lost_by}
use Rattle.cyc_types.specs.declared.firing.Sent.{Sent}
use Rattle.cyc_types.specs.declared.level.Level.{Level}
use Rattle.cyc_types.specs.declared.level.Soft.{Soft}
use Rattle.cyc_soft.specs.declared.Ran.{Ran}
use Rattle.cyc_soft.specs.declared.SoftRefused.{SoftRefused}
use Rattle.cyc_types.specs.declared.level.Level.TheVariants.{Low, Lock, High}
use Rattle.cyc_timers.specs.declared.fire.Fired.{Fired}
use Rattle.cyc_timers.specs.declared.fire.FireRefused.{FireRefused}
use Rattle.cyc_timers.specs.Rows.{Cyclic}
use Rattle.cyc_cpu.specs.Cpu.{CpuView, Running, running, HasCounts}
use Rattle.cyc_cpu.specs.Laws.{IsLawful}
use Rattle.cyc_cpu.specs.Losses.{IsUnder, IsSpared}
use Rattle.cyc_cpu.specs.Calls.{CpuCall, CpuChanges as CpuChanges, CpuDoes as CpuDoes, Fire}
use Rattle.cyc_cpu_laws.specs.Accounts.{KeepsLimits}
use Rattle.cyc_cpu_laws.proofs.Stills.{changes_still}
use Rattle.cyc_cpu_laws.proofs.Ways.{passes_ceiling}
use Rattle.cyc_cpu_laws.proofs.Accounting.{proceeds_one}
use Rattle.cyc_agreement.specs.Cpus.{CpusView, IsCpu, ChangesAt}
use Rattle.cyc_agreement.proofs.CpuSpots.{one_cpu, cpu_there, cpu_stays}
use Rattle.cyc_system.specs.System.{RunningSystem}
use Rattle.cyc_system.proofs.Lists.{eq_true, true_eq}
use Rattle.cyc_system.proofs.Spots.{same_some, none_some}
use Rattle.cyc_system.proofs.Who.{id_in, same_fired}
use Rattle.cyc_system.proofs.Recording.{found}
use Rattle.cyc_system.specs.Counts.{all_expired, all_lost}
use Rattle.cyc_system.proofs.Sums.{sum_none, one_of_sum}
use Rattle.cyc_system.specs.Calls.{SystemCall, Changes, Does, Add, AddOmni, Bind, BeginRemove, PollRemove, AskTotals}
use Rattle.cyc_system.specs.Calls.{Suspend, Resume, Reprogram, ReprogramOn, Juggle, Offline, Online, FireOne}
use Rattle.cyc_system.specs.Calls.{SoftInterrupt}
use Rattle.cyc_system_laws.specs.Sound.{IsSound}
use Rattle.cyc_system_laws.specs.Keeping.{EndsRemoval}
use Rattle.cyc_system_laws.specs.Totalling.{Steps, expirations_in, losses_in}
use Rattle.cyc_system_laws.specs.Sparing.{IsUnderEach}
use Rattle.cyc_system_laws.specs.Parts.{CpusCall, OnCpu, SetOnline, DoesPart}
use Rattle.cyc_system_laws.proofs.Pieces.{made_of}
use Rattle.cyc_system_laws.proofs.Flow.{on_cpu, on_cpus, sum_set}
use Rattle.cyc_system_laws.proofs.Found.{stays_found}
use Rattle.cyc_system_laws.proofs.Totals.{one_grows, run_grows, Grows}

some_before : {A B : Type 0} (f : A → B) (xs ys : List A) (n : ℕ) (y : A) → map f ys ≡ map f xs → slice_get ys n ≡ Some y
    → (x : A) × (slice_get xs n ≡ Some x) × (f x ≡ f y)
some_before {A} {B} f xs ys n y same at = by (slice_get xs n) refl
  where
    by : (o : Option A) → slice_get xs n ≡ o → (x : A) × (slice_get xs n ≡ Some x) × (f x ≡ f y)
    by (Some x) is = (
      x,
      is,
      same_some
          (sym (ap (option_map f) is)
          ∙ (sym (slice_get-map f xs n)
          ∙ (ap (λ l. slice_get l n) (sym same) ∙ (slice_get-map f ys n ∙ ap (option_map f) at)))),
    )
    by None is = absurd (none_some (sym (ap (option_map f) is)
        ∙ (sym (slice_get-map f xs n)
        ∙ (ap (λ l. slice_get l n) (sym same) ∙ (slice_get-map f ys n ∙ ap (option_map f) at)))))

is_under : (lock low : ℕ) (own : Level) (n : ℕ) → n ≤ lock → n ≤ low → IsUnder lock low own n
is_under lock low Low n a b = b
is_under lock low Lock n a b = a
is_under lock low High n a b = tt

module _ {R : Type 0} (firing : Raise R) where
  -- the ceilings of both ends
  abbrev SameCeilings : CpuView R → CpuView R → Type 0
  SameCeilings x y = ((firing.view y.lock).ceiling ≡ (firing.view x.lock).ceiling)
      × ((firing.view y.low).ceiling ≡ (firing.view x.low).ceiling)

  -- each CPU is there, with its ceilings
  abbrev KeepCeilings : CpusView R → CpusView R → Type 0
  KeepCeilings v w = (m : ℕ) (x : CpuView R) → IsCpu m x v → (y : CpuView R) × IsCpu m y w × SameCeilings x y

  keep_at : (n : ℕ) (D : CpuView R → CpuView R → Type 0) (v w : CpusView R) (c : ChangesAt n D v w)
      → SameCeilings c.before c.after → KeepCeilings v w
  keep_at n D v w c same m x at = dite (ℕ_discrete m n)
      (λ e. (
        c.after,
        subst (λ k. IsCpu k c.after w) (sym e)
            (subst (λ u. IsCpu n c.after u) (sym c.rest) (cpu_there n c.before c.after v c.here)),
        subst (λ z. SameCeilings z c.after) (one_cpu n c.before x v c.here (subst (λ k. IsCpu k x v) e at)) same,
      ))
      (λ ne. (x, subst (λ u. IsCpu m x u) (sym c.rest) (cpu_stays n m x c.after v ne at), (refl, refl)))

  keep_then : (u v w : CpusView R) → KeepCeilings u v → KeepCeilings v w → KeepCeilings u w
  keep_then u v w a b m x at = (let (y, there, (p, q)) = a m x at in let (z, last, (r, s)) = b m y there in
      (z, last, (r ∙ p, s ∙ q)))

  keep_same : (v w : CpusView R) → w.cpus ≡ v.cpus → KeepCeilings v w
  keep_same v w e m x at = (x, ap (λ xs. slice_get xs m) e ∙ at, (refl, refl))

  quiet_ceilings : (x y : CpuView R) (call : CpuCall) → CpuChanges firing x call y → SameCeilings x y
  quiet_ceilings x y call d =
      let st = changes_still firing x y call d in (
        passes_ceiling firing (λ id. raised_by id st.lock.way) (λ id. lost_by id st.lock.way) x.lock y.lock
            (record { way = st.lock.way; goes = st.lock.goes; raises = λ id. refl; losses = λ id. refl }),
        passes_ceiling firing (λ id. raised_by id st.low.way) (λ id. lost_by id st.low.way) x.low y.low
            (record { way = st.low.way; goes = st.low.goes; raises = λ id. refl; losses = λ id. refl }),
      )

  parts_ceilings : (way : List CpusCall) (v w : CpusView R) → FoldsTo (DoesPart firing) v way w → KeepCeilings v w
  parts_ceilings [] v w e = keep_same v w (ap (λ (u : CpusView R). u.cpus) (sym e))
  parts_ceilings (OnCpu c ∷ way) v w (u, d, rest) = keep_then v u w
      (keep_at c.cpu _ v u d (quiet_ceilings d.before d.after c.call d.change)) (parts_ceilings way u w rest)
  parts_ceilings (SetOnline n online ∷ way) v w (u, e, rest) = keep_then v u w
      (keep_same v u (ap (λ (z : CpusView R). z.cpus) e)) (parts_ceilings way u w rest)

module _ {C R : Type 0} (handler : Calls C) (firing : Raise R)
    (interrupts : Soft → ℕ → Result Ran SoftRefused → Running C R → Running C R → Type 0)
    (serves : (s t : Running C R) (level : Soft) (budget : ℕ) (answer : Result Ran SoftRefused)
    → interrupts level budget answer s t → t.cpu.cyclics ≡ s.cpu.cyclics)
    (limits : (s t : Running C R) (level : Soft) (budget : ℕ) (answer : Result Ran SoftRefused) → IsLawful firing.view s.cpu
    → interrupts level budget answer s t → KeepsLimits firing.view s.cpu t.cpu) (id : ℕ) where
  abbrev Call : RunningSystem C R → SystemCall → RunningSystem C R → Type 0
  Call = Does handler firing interrupts

  abbrev Keep : RunningSystem C R → RunningSystem C R → Type 0
  Keep s t = KeepCeilings firing s.system.cpus t.system.cpus

  fire_ceilings : (s t : Running C R) (now : ℕ) (answer : Result Fired FireRefused) → IsLawful firing.view s.cpu
      → CpuDoes handler firing interrupts s (Fire now answer) t → KeepsLimits firing.view s.cpu t.cpu
  fire_ceilings s t now (Ok r) law d = (proceeds_one handler firing s t (Fire now (Ok r)) law d).limits
  fire_ceilings s t now (Err e) law d = (proceeds_one handler firing s t (Fire now (Err e)) law d).limits

  quietly : (s t : RunningSystem C R) (call : SystemCall) → Changes firing s.system call t.system → Keep s t
  quietly s t call d = let m = made_of firing s.system t.system call d in
      parts_ceilings firing m.way s.system.cpus t.system.cpus m.works

  ceilings : (s t : RunningSystem C R) (call : SystemCall) → IsSound firing.view s.system → Call s call t → Keep s t
  ceilings s t (FireOne n now answer) a (inl (e, why, is, same)) = keep_same firing s.system.cpus t.system.cpus
      (ap (λ (x : RunningSystem C R). x.system.cpus.cpus) same)
  ceilings s t (FireOne n now answer) a (inr (clear, (runs, records, last))) =
      let l = fire_ceilings (running s.calls runs.before) (running t.calls runs.after) now answer
      (a.lawful n runs.before runs.here) runs.change in
      keep_at firing n _ s.system.cpus t.system.cpus runs (l.lock_ceiling, l.low_ceiling)
  ceilings s t (SoftInterrupt n level budget answer) a
      (inl (e, why, is, same)) = keep_same firing s.system.cpus t.system.cpus
      (ap (λ (x : RunningSystem C R). x.system.cpus.cpus) same)
  ceilings s t (SoftInterrupt n level budget answer) a (inr (clear, (own, is, runs, records, last))) =
      let l = limits (running s.calls runs.before) (running t.calls runs.after) level budget own
      (a.lawful n runs.before runs.here) runs.change in
      keep_at firing n _ s.system.cpus t.system.cpus runs (l.lock_ceiling, l.low_ceiling)
  ceilings s t (Add level when now answer) a d = quietly s t (Add level when now answer) d.0
  ceilings s t (AddOmni level when skew now answer) a d = quietly s t (AddOmni level when skew now answer) d.0
  ceilings s t (Bind own cpu answer) a d = quietly s t (Bind own cpu answer) d.0
  ceilings s t (BeginRemove own answer) a d = quietly s t (BeginRemove own answer) d.0
  ceilings s t (PollRemove own answer) a d = quietly s t (PollRemove own answer) d.0
  ceilings s t (AskTotals own answer) a d = quietly s t (AskTotals own answer) d.0
  ceilings s t (Suspend answer) a d = quietly s t (Suspend answer) d.0
  ceilings s t (Resume answer) a d = quietly s t (Resume answer) d.0
  ceilings s t (Reprogram own moment answer) a d = quietly s t (Reprogram own moment answer) d.0
  ceilings s t (ReprogramOn own n moment answer) a d = quietly s t (ReprogramOn own n moment answer) d.0
  ceilings s t (Juggle n answer) a d = quietly s t (Juggle n answer) d.0
  ceilings s t (Offline n answer) a d = quietly s t (Offline n answer) d.0
  ceilings s t (Online n now answer) a d = quietly s t (Online n now answer) d.0

  abbrev D : RunningSystem C R → SystemCall → RunningSystem C R → Type 0
  D = Steps handler firing interrupts

  run_ceilings : (s t : RunningSystem C R) (way : List SystemCall) → IsSound firing.view s.system → FoldsTo D s way t → Keep s t
  run_ceilings s t [] a run = keep_same firing s.system.cpus t.system.cpus
      (ap (λ (x : RunningSystem C R). x.system.cpus.cpus) (sym run))
  run_ceilings s t (call ∷ way) a (u, (d, sound), rest) = keep_then firing s.system.cpus u.system.cpus t.system.cpus
      (ceilings s u call a d) (run_ceilings u t way sound rest)

  -- fewer are under the same ceilings
  under_before : (a b : ℕ) (s t : RunningSystem C R) → a ≤ b → Keep s t → IsUnderEach firing.view b t.system
      → IsUnderEach firing.view a s.system
  under_before a b s t low keep under m x at = (let (y, there, (p, q)) = keep m x at in let (k, l) = under m y there in
      (omega (arith, low, p, k), omega (arith, low, q, l)))

  -- a fire changes no count that was carried in
  carried : (s t : Running C R) (now : ℕ) (answer : Result Fired FireRefused)
      → CpuDoes handler firing interrupts s (Fire now answer) t
      → map (λ (c : Cyclic). c.carried) t.cpu.cyclics ≡ map (λ (c : Cyclic). c.carried) s.cpu.cyclics
  carried s t now (Ok r) (early, kept, expired, next, makes) = makes.carried_are
  carried s t now (Err e) (inl (late, is, same)) = ap (λ (x : Running C R). map (λ (c : Cyclic). c.carried) x.cpu.cyclics) same
  carried s t now (Err e) (inr (early, kept, f)) = f.makes.carried_are

  abbrev lost_here : CpuView R → ℕ
  lost_here cpu = on_cpu (λ t. t.sent.lost) id cpu

  -- a cyclic that is fired under the ceilings loses nothing
  fired_spared : (s t : Running C R) (now n : ℕ) (answer : Result Fired FireRefused) → IsLawful firing.view s.cpu
      → IsLawful firing.view t.cpu → CpuDoes handler firing interrupts s (Fire now answer) t
      → lost_here s.cpu ≡ 0 → on_cpu (λ t. t.sent.sent) id t.cpu ≤ n → n ≤ (firing.view t.cpu.lock).ceiling
      → n ≤ (firing.view t.cpu.low).ceiling → lost_here t.cpu ≡ 0
  fired_spared s t now n answer law lawful d none few lock low = sum_none _ t.cpu.cyclics
      (λ k c at. by k c at (c.timer.id == id) refl)
    where
      by : (k : ℕ) (c : Cyclic) → slice_get t.cpu.cyclics k ≡ Some c → (b : Bool) → (c.timer.id == id) ≡ b → cond b c.lost 0 ≡ 0
      by k c at false is = refl
      by k c at true is =
          (let own = eq_true c.timer.id id is in
          let (p, was, as_named) = some_before id_in s.cpu.cyclics t.cpu.cyclics k c
          (same_fired handler firing interrupts s t now answer d).ids at in
          let (q, here, as_carried) = some_before (λ (x : Cyclic). x.carried) s.cpu.cyclics t.cpu.cyclics k c
          (carried s t now answer d) at in
          let one = ap (λ (x : Cyclic). x.carried.lost) (same_some (sym was ∙ here)) in
          let less = one_of_sum (λ (x : Cyclic). cond (x.timer.id == id) x.lost 0) s.cpu.cyclics k p was in
          let mine = ap (λ b. cond b p.lost 0) (true_eq p.timer.id id (as_named ∙ own)) in
          let kept = law.counted k p (slice_get_within s.cpu.cyclics k p was) in
          let kept_here = subst (HasCounts s.cpu.most) (get_or_from_slice_get s.cpu.cyclics k p p was) kept in
          let old = kept_here.carried_lost in
          let new = ap (λ (x : Sent). x.lost) as_carried in
          let more = one_of_sum (λ (x : Cyclic). cond (x.timer.id == id) x.timer.expired 0) t.cpu.cyclics k c at in
          let yours = ap (λ b. cond b c.timer.expired 0) is in
          let spared = subst (IsSpared (firing.view t.cpu.lock).ceiling (firing.view t.cpu.low).ceiling)
          (get_or_from_slice_get t.cpu.cyclics k c c at) (lawful.spared k c (slice_get_within t.cpu.cyclics k c at)) in
          let same = spared (is_under (firing.view t.cpu.lock).ceiling
          (firing.view t.cpu.low).ceiling c.timer.level c.timer.expired
          (omega (arith, more, yours, few, lock)) (omega (arith, more, yours, few, low))) in
          omega (arith, same, new, one, old, less, mine, none))

  -- one call
  fire_spares : (n now : ℕ) (answer : Result Fired FireRefused) (s t : RunningSystem C R) → IsSound firing.view s.system
      → IsSound firing.view t.system → Call s (FireOne n now answer) t → all_lost id s.system ≡ 0
      → IsUnderEach firing.view (all_expired id t.system) t.system → all_lost id t.system ≡ 0
  fire_spares n now answer s t a b (inl (e, why, is, same)) none under = ap
      (λ (x : RunningSystem C R). all_lost id x.system) same ∙ none
  fire_spares n now answer s t a b (inr (clear, (runs, records, last))) none under =
      let y0 = stays_found firing.view id (λ t. t.sent.lost) s.system a.lawful in
      let y1 = stays_found firing.view id (λ t. t.sent.lost) t.system b.lawful in
      let x1 = stays_found firing.view id (λ t. t.sent.sent) t.system b.lawful in
      let y = sum_set lost_here s.system.cpus.cpus n runs.before runs.after runs.here in
      let y2 = ap (on_cpus (λ t. t.sent.lost) id) runs.rest in
      let z = one_of_sum lost_here s.system.cpus.cpus n runs.before runs.here in
      let there = subst (λ u. IsCpu n runs.after u) (sym runs.rest)
      (cpu_there n runs.before runs.after s.system.cpus runs.here) in
      let x = one_of_sum (on_cpu (λ t. t.sent.sent) id) t.system.cpus.cpus n runs.after there in
      let q = ap (λ rs. option_map_or (λ r. sum_by (λ e. e.lost) r.ended) (found id rs) 0) records in
      let (lock, low) = under n runs.after there in
      let spared = fired_spared (running s.calls runs.before) (running t.calls runs.after) now
      (all_expired id t.system) answer (a.lawful n runs.before runs.here) (b.lawful n runs.after there) runs.change
      (omega (arith, y0, z, none)) (omega (arith, x, x1)) lock low in omega (arith, y0, y1, y, y2, q, none, spared)

  grown : (s t : RunningSystem C R) (call : SystemCall) → IsSound firing.view s.system → IsSound firing.view t.system
      → (EndsRemoval id call → ⊥) → (d : Call s call t)
      → Grows handler firing interrupts serves id (expirations_in id call s.system)
      (losses_in handler firing interrupts id call s t d) s.system t.system
  grown s t call a b open_still d = one_grows handler firing interrupts serves id s t call a b open_still d

  still : (s t : RunningSystem C R) (call : SystemCall) → IsSound firing.view s.system → IsSound firing.view t.system
      → (EndsRemoval id call → ⊥) → Call s call t → expirations_in id call s.system ≡ 0 → all_lost id s.system ≡ 0
      → all_lost id t.system ≡ 0
  still s t call a b open_still d nothing none = let g = grown s t call a b open_still d in let few = g.few in
      let lost = g.lost in omega (arith, few, lost, nothing, none)

  one_spares : (s t : RunningSystem C R) (call : SystemCall) → IsSound firing.view s.system → IsSound firing.view t.system
      → (EndsRemoval id call → ⊥) → Call s call t → all_lost id s.system ≡ 0
      → IsUnderEach firing.view (all_expired id t.system) t.system → all_lost id t.system ≡ 0
  one_spares s t (FireOne n now answer) a b open_still d none under = fire_spares n now answer s t a b d none under
  one_spares s t (SoftInterrupt n level budget answer) a b open_still d none under = still s t
      (SoftInterrupt n level budget answer) a b open_still d refl none
  one_spares s t (Add level when now answer) a b open_still d none under = still s t
      (Add level when now answer) a b open_still d refl none
  one_spares s t (AddOmni level when skew now answer) a b open_still d none under = still s t
      (AddOmni level when skew now answer) a b open_still d refl none
  one_spares s t (Bind own cpu answer) a b open_still d none under = still s t (Bind own cpu answer) a b open_still d refl none
  one_spares s t (BeginRemove own answer) a b open_still d none under = still s t
      (BeginRemove own answer) a b open_still d refl none
  one_spares s t (PollRemove own answer) a b open_still d none under = still s t
      (PollRemove own answer) a b open_still d refl none
  one_spares s t (AskTotals own answer) a b open_still d none under = still s t (AskTotals own answer) a b open_still d refl none
  one_spares s t (Suspend answer) a b open_still d none under = still s t (Suspend answer) a b open_still d refl none
  one_spares s t (Resume answer) a b open_still d none under = still s t (Resume answer) a b open_still d refl none
  one_spares s t (Reprogram own moment answer) a b open_still d none under = still s t
      (Reprogram own moment answer) a b open_still d refl none
  one_spares s t (ReprogramOn own n moment answer) a b open_still d none under = still s t
      (ReprogramOn own n moment answer) a b open_still d refl none
  one_spares s t (Juggle n answer) a b open_still d none under = still s t (Juggle n answer) a b open_still d refl none
  one_spares s t (Offline n answer) a b open_still d none under = still s t (Offline n answer) a b open_still d refl none
  one_spares s t (Online n now answer) a b open_still d none under = still s t (Online n now answer) a b open_still d refl none

  pub run_spares : (s t : RunningSystem C R) (way : List SystemCall) → FoldsTo D s way t → IsSound firing.view s.system
      → All (λ call. EndsRemoval id call → ⊥) way → all_lost id s.system ≡ 0
      → IsUnderEach firing.view (all_expired id t.system) t.system → all_lost id t.system ≡ 0
  run_spares s t [] run a open_still none under = ap (λ (x : RunningSystem C R). all_lost id x.system) (sym run) ∙ none
  run_spares s t (call ∷ way) (u, (d, sound), rest) a open_still none under =
      let after : All (λ c. EndsRemoval id c → ⊥) way = λ k e low. open_still (suc k) e (omega (arith, low)) in
      let more = (run_grows handler firing interrupts serves id u t way rest sound after).expired in
      let under_here = under_before (all_expired id u.system) (all_expired id t.system) u t (omega (arith, more))
      (run_ceilings u t way sound rest) under in
      run_spares u t way rest sound after (one_spares s u call a sound (open_still 0 call (omega arith)) d none under_here) under
