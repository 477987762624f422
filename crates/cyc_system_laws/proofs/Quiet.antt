-- Calls that reach no handler are calls of a run.
use Rattle.std.proofs.Common.{ℕ, List, [], ◌∷◌, refl, ap}
use Rattle.std.specs.Prelude.{Result}
use Rattle.std.specs.List.{FoldsTo}
use Rattle.cyc_types.specs.declared.Calls.{Ghosts as Calls}
use Rattle.cyc_types.specs.declared.Raise.{Ghosts as Raise}
use Rattle.cyc_types.specs.declared.level.Soft.{Soft}
use Rattle.cyc_soft.specs.declared.Ran.{Ran}
use Rattle.cyc_soft.specs.declared.SoftRefused.{SoftRefused}
use Rattle.cyc_cpu.specs.Cpu.{CpuView, Running, running}
use Rattle.cyc_cpu.specs.Calls.{Suspend, Resume}
use Rattle.cyc_cpu.specs.Calls.{CpuCall, CpuChanges, CpuDoes, Fire, SoftInterrupt, Add, Place, Reprogram, AskPending, AskTotals}
use Rattle.cyc_cpu.specs.Calls.{AskRoom, Reserve, Widen, BeginRemove, PollRemove, TakeNow, AskSettled}
use Rattle.cyc_system_laws.specs.Runs.{calls_on, DoesWithSome}
use Rattle.cyc_system_laws.proofs.Seen.{sees}
use Rattle.cyc_agreement.specs.Cpus.{CpusView, IsCpu, CallOn, ChangesAt, DoesAt, Works, RunningCpus, running_cpus, RunsAt}

module _ {C R : Type 0} (handler : Calls C)
    (firing : Raise R) (interrupts : Soft → ℕ → Result Ran SoftRefused →
    Running C R → Running C R → Type 0) (calls : C) where
  quiet_does : (x y : CpuView R) (call : CpuCall) → CpuChanges firing x call y →
      CpuDoes handler firing interrupts (running calls x) call (running calls y)
  quiet_does x y (Fire now answer) d = absurd d
  quiet_does x y (SoftInterrupt soft budget answer) d = absurd d
  quiet_does x y (Add own level when now answer) d = (d, refl)
  quiet_does x y (Place own level interval moment carried) d = (d, refl)
  quiet_does x y (Reprogram j moment answer) d = (d, refl)
  quiet_does x y (AskPending j answer) d = (d, refl)
  quiet_does x y (AskTotals j answer) d = (d, refl)
  quiet_does x y (AskRoom more answer) d = (d, refl)
  quiet_does x y (Reserve more answer) d = (d, refl)
  quiet_does x y (Widen more) d = (d, refl)
  quiet_does x y (BeginRemove j answer) d = (d, refl)
  quiet_does x y (PollRemove answer) d = (d, refl)
  quiet_does x y (TakeNow j answer) d = (d, refl)
  quiet_does x y (AskSettled answer) d = (d, refl)
  quiet_does x y Suspend d = (d, refl)
  quiet_does x y Resume d = (d, refl)

  quiet_at : (v : CpusView R) (c : CallOn) (w : CpusView R) → DoesAt firing v c w →
      RunsAt handler firing interrupts (running_cpus calls v) c (running_cpus calls w)
  quiet_at v c w d = record {
    before = d.before;
    after = d.after;
    here = d.here;
    change =
        quiet_does d.before d.after c.call d.change;
    rest = d.rest;
  }

  pub quiet_run : (v : CpusView R) (way : List CallOn) (w : CpusView R) → Works firing way v w →
      FoldsTo (RunsAt handler firing interrupts) (running_cpus calls v) way (running_cpus calls w)
  quiet_run v [] w run = ap (λ u. running_cpus calls u) run
  quiet_run v (c ∷ way) w (m, d, rest) = (running_cpus calls m, quiet_at v c m d, quiet_run m way w rest)

module _ {C R : Type 0} (handler : Calls C)
    (firing : Raise R) (interrupts : Soft → ℕ → Result Ran SoftRefused →
    Running C R → Running C R → Type 0) where
  -- the handlers before and after a call are some
  pub with_some : (s : RunningCpus C R) (c : CallOn) (t : RunningCpus C R) →
      RunsAt handler firing interrupts s c t →
      ChangesAt c.cpu (λ x y. DoesWithSome handler firing interrupts x c.call y) s.cpus t.cpus
  with_some s c t d = record {
    before = d.before;
    after = d.after;
    here = d.here;
    change = (s.calls, t.calls, d.change);
    rest =
        d.rest;
  }

  pub some_see : (n : ℕ) (x : CpuView R) (s : RunningCpus C R) (way : List CallOn) (t : RunningCpus C R) →
      FoldsTo (RunsAt handler firing interrupts) s way t → IsCpu n x s.cpus →
      (y : CpuView R) × IsCpu n y t.cpus × FoldsTo (DoesWithSome handler firing interrupts) x
      (calls_on n way) y
  some_see = sees (λ u. u.cpus) (RunsAt handler firing interrupts) (DoesWithSome handler firing interrupts) with_some
