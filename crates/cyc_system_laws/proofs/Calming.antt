-- A CPU that has settled stays so over calls of its system, but for a fire and a growth of its size.
use Rattle.std.proofs.Common.{◌≡◌, ◌∙◌, ℕ, suc, ◌≤◌, inl, inr, All, Result, List, [], ◌∷◌, refl, sym, ap, subst, arith}
use Rattle.std.specs.List.{slice_get, FoldsTo}
use mathlib.Core.Logic.{dite}
use native.Mathlib.Decide.{ℕ_discrete}
use Rattle.cyc_types.specs.declared.Calls.{Ghosts as Calls}
use Rattle.cyc_types.specs.declared.Raise.{Ghosts as Raise}
use Rattle.cyc_types.specs.declared.level.Soft.{Soft}
use Rattle.cyc_soft.specs.declared.Ran.{Ran}
use Rattle.cyc_soft.specs.declared.SoftRefused.{SoftRefused}
use Rattle.cyc_cpu.specs.Cpu.{CpuView, Running, running}
use Rattle.cyc_cpu.specs.Moving.{IsSettled}
use Rattle.cyc_cpu.specs.Calls.{Suspend, Resume}
use Rattle.cyc_cpu.specs.Calls.{CpuCall, CpuChanges as CpuChanges, CpuDoes as CpuDoes, no_interrupts, Fire}
use Rattle.cyc_cpu.specs.Calls.{SoftInterrupt as CpuSoftInterrupt, Add as CpuAdd, Place, Reprogram as CpuReprogram, AskPending}
use Rattle.cyc_cpu.specs.Calls.{AskTotals as CpuAskTotals, AskRoom, Reserve, Widen, BeginRemove as CpuBegin}
use Rattle.cyc_cpu.specs.Calls.{PollRemove as CpuPoll, TakeNow, AskSettled}
use Rattle.cyc_cpu_laws.specs.Settled.{IsNoFire}
use Rattle.cyc_cpu_laws.proofs.Staying.{none_settled, settled_one}
use Rattle.cyc_cpu_laws.proofs.Stills.{changes_still}
use Rattle.cyc_agreement.specs.Cpus.{CpusView, IsCpu, ChangesAt}
use Rattle.cyc_agreement.proofs.CpuSpots.{one_cpu, cpu_there, cpu_after}
use Rattle.cyc_system.specs.System.{RunningSystem}
use Rattle.cyc_system.specs.Calls.{Suspend, Resume}
use Rattle.cyc_system.specs.Calls.{SystemCall, Changes, Does, Add, AddOmni, Bind, BeginRemove, PollRemove, AskTotals, Reprogram}
use Rattle.cyc_system.specs.Calls.{ReprogramOn, Juggle, Offline, Online, FireOne, SoftInterrupt}
use Rattle.cyc_system_laws.specs.Parts.{CpusCall, OnCpu, SetOnline, DoesPart}
use Rattle.cyc_system_laws.specs.Settling.{FiresNot}
use Rattle.cyc_system_laws.proofs.Pieces.{made_of}
use Rattle.cyc_system_laws.proofs.Settles.{no_calls}

module _ {R : Type 0} (firing : Raise R) where
  one_settled : (x y : CpuView R) (call : CpuCall) → IsNoFire call
      → CpuDoes no_calls firing no_interrupts (running tt x) call (running tt y) → y.size ≡ x.size
      → IsSettled firing.view x → IsSettled firing.view y
  one_settled x y call calm d same h =
      settled_one firing no_calls no_interrupts (none_settled firing) (running tt x) (running tt y) call h calm same d

  quiet_settled : (x y : CpuView R) (call : CpuCall) → CpuChanges firing x call y → y.size ≡ x.size → IsSettled firing.view x
      → IsSettled firing.view y
  quiet_settled x y (Fire now answer) d = absurd d
  quiet_settled x y (CpuSoftInterrupt level budget answer) d = absurd d
  quiet_settled x y (CpuAdd own level when now answer) d = one_settled x y (CpuAdd own level when now answer) tt (d, refl)
  quiet_settled x y (Place own level interval moment carried) d = one_settled x y
      (Place own level interval moment carried) tt (d, refl)
  quiet_settled x y (CpuReprogram own moment answer) d = one_settled x y (CpuReprogram own moment answer) tt (d, refl)
  quiet_settled x y (AskPending own answer) d = one_settled x y (AskPending own answer) tt (d, refl)
  quiet_settled x y (CpuAskTotals own answer) d = one_settled x y (CpuAskTotals own answer) tt (d, refl)
  quiet_settled x y (AskRoom more answer) d = one_settled x y (AskRoom more answer) tt (d, refl)
  quiet_settled x y (Reserve more answer) d = one_settled x y (Reserve more answer) tt (d, refl)
  quiet_settled x y (Widen more) d = one_settled x y (Widen more) tt (d, refl)
  quiet_settled x y (CpuBegin own answer) d = one_settled x y (CpuBegin own answer) tt (d, refl)
  quiet_settled x y (CpuPoll answer) d = one_settled x y (CpuPoll answer) tt (d, refl)
  quiet_settled x y (TakeNow own answer) d = one_settled x y (TakeNow own answer) tt (d, refl)
  quiet_settled x y (AskSettled answer) d = one_settled x y (AskSettled answer) tt (d, refl)
  quiet_settled x y Suspend d = one_settled x y Suspend tt (d, refl)
  quiet_settled x y Resume d = one_settled x y Resume tt (d, refl)

  -- one CPU became another: its size is no smaller, and where it is the same a settled CPU stays so
  pub record Calm (x y : CpuView R) : Type 0 where
    pub grows : x.size ≤ y.size
    pub settled : y.size ≡ x.size → IsSettled firing.view x → IsSettled firing.view y

  abbrev pub Calms : ℕ → CpusView R → CpusView R → Type 0
  Calms n v w = (x : CpuView R) → IsCpu n x v → (y : CpuView R) × IsCpu n y w × Calm x y

  calm_none : (x : CpuView R) → Calm x x
  calm_none x = record { grows = omega arith; settled = λ e h. h }

  pub calms_same : (n : ℕ) (v w : CpusView R) → w.cpus ≡ v.cpus → Calms n v w
  calms_same n v w e x at = (x, ap (λ xs. slice_get xs n) e ∙ at, calm_none x)

  calm_on : (x y z : CpuView R) → Calm x y → Calm y z → Calm x z
  calm_on x y z a b = record {
    grows = (let p = a.grows in let q = b.grows in omega (arith, p, q));
    settled = λ e h. (let p = a.grows in let q = b.grows in
        b.settled (omega (arith, p, q, e)) (a.settled (omega (arith, p, q, e)) h));
  }

  pub calms_then : (n : ℕ) (u v w : CpusView R) → Calms n u v → Calms n v w → Calms n u w
  calms_then n u v w a b x at = (let (y, there, f) = a x at in let (z, last, g) = b y there in (z, last, calm_on x y z f g))

  calms_at : (n m : ℕ) (D : CpuView R → CpuView R → Type 0) (v w : CpusView R) (c : ChangesAt m D v w)
      → (n ≡ m → Calm c.before c.after) → Calms n v w
  calms_at n m D v w c calm x at = dite (ℕ_discrete n m)
      (λ e. (
        c.after,
        subst (λ k. IsCpu k c.after w) (sym e)
            (subst (λ u. IsCpu m c.after u) (sym c.rest) (cpu_there m c.before c.after v c.here)),
        subst (λ z. Calm z c.after) (one_cpu m c.before x v c.here (subst (λ k. IsCpu k x v) e at)) (calm e),
      ))
      (λ ne. (x, cpu_after m n D x v w ne c at, calm_none x))

  pub parts_calm : (n : ℕ) (way : List CpusCall) (v w : CpusView R) → FoldsTo (DoesPart firing) v way w → Calms n v w
  parts_calm n [] v w e = calms_same n v w (ap (λ (u : CpusView R). u.cpus) (sym e))
  parts_calm n (OnCpu c ∷ way) v w (u, d, rest) = calms_then n v u w
      (calms_at n c.cpu _ v u d (λ e. record {
        grows =
            (changes_still firing d.before d.after c.call d.change).grows;
        settled = quiet_settled d.before d.after c.call
            d.change;
      })) (parts_calm n way u w rest)
  parts_calm n (SetOnline m online ∷ way) v w (u, e, rest) = calms_then n v u w
      (calms_same n v u (ap (λ (z : CpusView R). z.cpus) e)) (parts_calm n way u w rest)

module _ {C R : Type 0} (handler : Calls C) (firing : Raise R)
    (interrupts : Soft → ℕ → Result Ran SoftRefused → Running C R → Running C R → Type 0)
    (serves : (s t : Running C R) (level : Soft) (budget : ℕ) (answer : Result Ran SoftRefused)
    → interrupts level budget answer s t → Calm firing s.cpu t.cpu) (n : ℕ) where
  abbrev Call : RunningSystem C R → SystemCall → RunningSystem C R → Type 0
  Call = Does handler firing interrupts

  abbrev Keeps : RunningSystem C R → RunningSystem C R → Type 0
  Keeps s t = Calms firing n s.system.cpus t.system.cpus

  quietly : (s t : RunningSystem C R) (call : SystemCall) → Changes firing s.system call t.system → Keeps s t
  quietly s t call d = let m = made_of firing s.system t.system call d in
      parts_calm firing n m.way s.system.cpus t.system.cpus m.works

  call_calms : (s t : RunningSystem C R) (call : SystemCall) → FiresNot n call → Call s call t → Keeps s t
  call_calms s t (FireOne m now answer) not (inl (e, why, is, same)) = calms_same firing n s.system.cpus t.system.cpus
      (ap (λ (x : RunningSystem C R). x.system.cpus.cpus) same)
  call_calms s t (FireOne m now answer) not
      (inr (clear, (runs, records, last))) = calms_at firing n m _ s.system.cpus t.system.cpus runs
      (λ e. absurd (not (sym e)))
  call_calms s t (SoftInterrupt m level budget answer) not
      (inl (e, why, is, same)) = calms_same firing n s.system.cpus t.system.cpus
      (ap (λ (x : RunningSystem C R). x.system.cpus.cpus) same)
  call_calms s t (SoftInterrupt m level budget answer) not (inr (clear, (own, is, runs, records, last))) =
      calms_at firing n m _ s.system.cpus t.system.cpus runs
      (λ e. serves (running s.calls runs.before) (running t.calls runs.after) level budget own runs.change)
  call_calms s t (Add level when now answer) not d = quietly s t (Add level when now answer) d.0
  call_calms s t (AddOmni level when skew now answer) not d = quietly s t (AddOmni level when skew now answer) d.0
  call_calms s t (Bind own cpu answer) not d = quietly s t (Bind own cpu answer) d.0
  call_calms s t (BeginRemove own answer) not d = quietly s t (BeginRemove own answer) d.0
  call_calms s t (PollRemove own answer) not d = quietly s t (PollRemove own answer) d.0
  call_calms s t (AskTotals own answer) not d = quietly s t (AskTotals own answer) d.0
  call_calms s t (Suspend answer) not d = quietly s t (Suspend answer) d.0
  call_calms s t (Resume answer) not d = quietly s t (Resume answer) d.0
  call_calms s t (Reprogram own moment answer) not d = quietly s t (Reprogram own moment answer) d.0
  call_calms s t (ReprogramOn own m moment answer) not d = quietly s t (ReprogramOn own m moment answer) d.0
  call_calms s t (Juggle m answer) not d = quietly s t (Juggle m answer) d.0
  call_calms s t (Offline m answer) not d = quietly s t (Offline m answer) d.0
  call_calms s t (Online m now answer) not d = quietly s t (Online m now answer) d.0

  pub run_calms : (s t : RunningSystem C R) (way : List SystemCall) → All (FiresNot n) way → FoldsTo Call s way t → Keeps s t
  run_calms s t [] not run = calms_same firing n s.system.cpus t.system.cpus
      (ap (λ (x : RunningSystem C R). x.system.cpus.cpus) (sym run))
  run_calms s t (call ∷ way) not (u, d, rest) =
      calms_then firing n s.system.cpus u.system.cpus t.system.cpus (call_calms s u call (not 0 call (omega arith)) d)
      (run_calms u t way (λ k e low. not (suc k) e (omega (arith, low))) rest)

  pub run_settled : (x y : CpuView R) (s t : RunningSystem C R) (way : List SystemCall) → IsCpu n x s.system.cpus
      → IsCpu n y t.system.cpus → IsSettled firing.view x → All (FiresNot n) way → y.size ≡ x.size
      → FoldsTo Call s way t → IsSettled firing.view y
  run_settled x y s t way at there settled not same run =
      let (z, last, calm) = run_calms s t way not run x at in let e = one_cpu n z y t.system.cpus last there in
      subst (IsSettled firing.view) e (calm.settled (ap (λ (c : CpuView R). c.size) e ∙ same) settled)
