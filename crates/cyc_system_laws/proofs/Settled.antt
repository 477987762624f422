-- A CPU that has settled stays settled whatever other CPUs do.
use Rattle.std.proofs.Common.{◌≡◌, ℕ, ◌≤◌, All, List, subst}
use Rattle.std.specs.Prelude.{Result}
use Rattle.std.specs.List.{FoldsTo}
use Rattle.cyc_types.specs.declared.Calls.{Ghosts as Calls}
use Rattle.cyc_types.specs.declared.Raise.{Ghosts as Raise}
use Rattle.cyc_types.specs.declared.level.Soft.{Soft}
use Rattle.cyc_soft.specs.declared.Ran.{Ran}
use Rattle.cyc_soft.specs.declared.SoftRefused.{SoftRefused}
use Rattle.cyc_cpu.specs.Cpu.{CpuView, Running, running}
use Rattle.cyc_cpu.specs.Calls.{CpuCall}
use Rattle.cyc_cpu.specs.Moving.{IsSettled}
use Rattle.cyc_cpu_laws.specs.Settled.{IsNoFire, IsPutOff}
use Rattle.cyc_cpu_laws.proofs.Staying.{KeepSettled, grows, settled_one, steps_grow, steps_settle, never_put_off}
use Rattle.cyc_agreement.specs.Cpus.{IsCpu, OfCpu, CallOn, RunningCpus, RunsAt}
use Rattle.cyc_system_laws.specs.Runs.{calls_on, DoesWithSome}
use Rattle.cyc_agreement.proofs.CpuSpots.{one_cpu}
use Rattle.cyc_system_laws.proofs.Quiet.{some_see}

module _ {C R : Type 0} (firing : Raise R)
    (handler : Calls C)
    (interrupts : Soft → ℕ → Result Ran SoftRefused → Running C R → Running C R → Type 0)
    (keep : KeepSettled firing interrupts) where
  abbrev One : CpuView R → CpuCall → CpuView R → Type 0
  One = DoesWithSome handler firing interrupts

  abbrev Runs : RunningCpus C R → CallOn → RunningCpus C R → Type 0
  Runs = RunsAt handler firing interrupts

  one_grows : (x y : CpuView R) (call : CpuCall) → One x call y → x.size ≤ y.size
  one_grows x y call (a, b, d) = grows firing handler interrupts keep (running a x) (running b y) call d

  one_settles : (x y : CpuView R) (call : CpuCall) → IsSettled firing.view x → IsNoFire call → y.size ≡ x.size
      → One x call y → IsSettled firing.view y
  one_settles x y call h calm same (a, b, d) =
      settled_one firing handler interrupts keep (running a x) (running b y) call h calm same d

  pub settled_there : (n : ℕ) (x y : CpuView R) (s t : RunningCpus C R) (way : List CallOn) → IsCpu n x s.cpus →
      IsCpu n y t.cpus →
      IsSettled firing.view x → All IsNoFire (calls_on n way) → y.size ≡ x.size → FoldsTo Runs s way t → IsSettled firing.view y
  settled_there n x y s t way here there h calm same run =
      let (z, at, fold) = some_see handler firing interrupts n x s way t run here in
      steps_settle firing (λ z. z) One one_grows one_settles x y (calls_on n way) h calm same
      (subst (λ u. FoldsTo One x (calls_on n way) u)
      (one_cpu n z y t.cpus at there) fold)

  pub grows_there : (n : ℕ) (x y : CpuView R) (s t : RunningCpus C R) (way : List CallOn) → IsCpu n x s.cpus → IsCpu n y t.cpus →
      FoldsTo Runs s way t → x.size ≤ y.size
  grows_there n x y s t way here there run =
      let (z, at, fold) = some_see handler firing interrupts n x s way t run here in
      steps_grow firing (λ z. z) One one_grows one_settles x y (calls_on n way)
      (subst (λ u. FoldsTo One x (calls_on n way) u) (one_cpu n z y t.cpus at there) fold)

  pub at_once : (s t : RunningCpus C R) (c : CallOn) → OfCpu c.cpu (IsSettled firing.view) s.cpus → Runs s c t → IsPutOff c.call
      → ⊥
  at_once s t c h d put = never_put_off firing handler interrupts keep (running s.calls d.before)
      (running t.calls d.after) c.call (h d.before d.here) d.change put
