-- The expirations of an id in the calls of a system, and those of them that were lost.
use Rattle.std.specs.Prelude.{ℕ, ◌+◌, ◌⊎◌, List, [], ◌∷◌, Some, Result, Ok, Err}
use mathlib.Core.Logic.{inl, inr}
use Rattle.std.specs.List.{slice_get, FoldsTo}
use Rattle.std.specs.Option.{option_map_or}
use Rattle.cyc_types.specs.declared.Calls.{Ghosts as Calls}
use Rattle.cyc_types.specs.declared.Raise.{Ghosts as Raise}
use Rattle.cyc_types.specs.declared.level.Level.TheVariants.{Low, Lock, High}
use Rattle.cyc_types.specs.declared.level.Soft.{Soft}
use Rattle.cyc_types.specs.declared.receipt.Receipt.{Receipt}
use Rattle.cyc_soft.specs.declared.Ran.{Ran}
use Rattle.cyc_soft.specs.declared.SoftRefused.{SoftRefused}
use Rattle.cyc_cpu.specs.Cpu.{Running, running}
use Rattle.cyc_cpu.specs.Calls.{CpuDoes as CpuDoes, Fire}
use Rattle.cyc_types.specs.Runs.{lost_by}
use Rattle.cyc_timers.specs.declared.fire.Fired.{Fired}
use Rattle.cyc_timers.specs.declared.fire.FireRefused.{FireRefused}
use Rattle.cyc_cpu_laws.specs.Accounts.{Account, account_of}
use Rattle.cyc_system.specs.SystemRemoval.TheVariants.{Done}
use Rattle.cyc_system.specs.System.{SystemView, RunningSystem}
use Rattle.cyc_system.specs.Calls.{SystemCall, Changes, Does, FireOne, BeginRemove, PollRemove}
use Rattle.cyc_system_laws.specs.Sound.{IsSound}

-- the expirations of an id at its level, whichever this is
abbrev pub fired_in : Account → ℕ → ℕ
fired_in a id = a.fired Lock id + a.fired Low id + a.fired High id

-- those that a call makes: the id's share in the fire of one CPU
abbrev pub expirations_in : {R : Type 0} → ℕ → SystemCall → SystemView R → ℕ
expirations_in id (FireOne n now answer) s =
    option_map_or (λ cpu. fired_in (account_of (Fire now answer) cpu.cyclics) id) (slice_get s.cpus.cpus n) 0
expirations_in id call s = 0

-- one call of a run: it was made on the system, which is sound after it, as it is between any two calls
abbrev pub Steps : {C R : Type 0} → Calls C → Raise R
    → (Soft → ℕ → Result Ran SoftRefused → Running C R → Running C R → Type 0)
    → RunningSystem C R → SystemCall → RunningSystem C R → Type 0
Steps handler firing interrupts s call t =
    Does handler firing interrupts s call t × IsSound firing.view t.system

-- the expirations of an id over a run, on all CPUs
abbrev pub expirations_along : {C R : Type 0} (D : RunningSystem C R → SystemCall → RunningSystem C R → Type 0) (id : ℕ)
    (s : RunningSystem C R) (way : List SystemCall) (t : RunningSystem C R) → FoldsTo D s way t → ℕ
expirations_along D id s [] t run = 0
expirations_along D id s (call ∷ way) t run = expirations_in id call s.system + expirations_along D id run.0 way t run.2

module _ {C R : Type 0} (handler : Calls C) (firing : Raise R)
    (interrupts : Soft → ℕ → Result Ran SoftRefused → Running C R → Running C R → Type 0) (id : ℕ) where
  -- the raises of an id in a fire of a CPU that its two ends answered as lost at the ceiling
  abbrev pub losses_of_fire : (now : ℕ) (answer : Result Fired FireRefused) (s t : Running C R)
      → CpuDoes handler firing interrupts s (Fire now answer) t → ℕ
  losses_of_fire now (Ok r) s t (early, kept, expired, next, makes) =
      lost_by id makes.acts.lock_way + lost_by id makes.acts.low_way
  losses_of_fire now (Err e) s t (inl never) = 0
  losses_of_fire now (Err e) s t (inr (early, kept, stopped)) =
      lost_by id stopped.makes.acts.lock_way + lost_by id stopped.makes.acts.low_way

  -- those of a call: of the fire of one CPU
  abbrev pub losses_in : (call : SystemCall) (s t : RunningSystem C R)
      → Does handler firing interrupts s call t → ℕ
  losses_in (FireOne n now answer) s t (inl refused) = 0
  losses_in (FireOne n now answer) s t (inr (clear, (runs, records, last))) =
      losses_of_fire now answer (running s.calls runs.before) (running t.calls runs.after) runs.change
  losses_in call s t d = 0

  -- those over a run, on all CPUs
  abbrev pub losses_along : (s : RunningSystem C R) (way : List SystemCall) (t : RunningSystem C R)
      → FoldsTo (Steps handler firing interrupts) s way t → ℕ
  losses_along s [] t run = 0
  losses_along s (call ∷ way) t run = losses_in call s run.0 run.1.0 + losses_along run.0 way t run.2

-- the removal of this id answers with this receipt, as it begins or at a poll
abbrev pub AnswersWith : {R : Type 0} → Raise R → ℕ → Receipt
    → SystemView R → SystemView R → Type 0
AnswersWith firing id receipt s t =
    Changes firing s (BeginRemove id (Ok (Done receipt))) t ⊎ Changes firing s (PollRemove id (Ok (Some receipt))) t
