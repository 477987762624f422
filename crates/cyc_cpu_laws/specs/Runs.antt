-- Runs of calls on a CPU: folds of one call after another.
use Rattle.std.specs.Prelude.{ℕ, Result}
use Rattle.cyc_types.specs.declared.Calls.{Ghosts as Calls}
use Rattle.cyc_types.specs.declared.Raise.{Ghosts as Raise}
use Rattle.cyc_types.specs.declared.level.Soft.{Soft}
use Rattle.cyc_soft.specs.declared.Ran.{Ran}
use Rattle.cyc_soft.specs.declared.SoftRefused.{SoftRefused}
use Rattle.cyc_cpu.specs.Cpu.{Running}
use Rattle.cyc_cpu.specs.Laws.{IsLawful}
use Rattle.cyc_cpu.specs.Calls.{CpuCall, CpuDoes}

-- one call of a run: it was made on the CPU, which is lawful after it, as `Hard::law` says between any two calls
abbrev pub CpuSteps : {C R : Type 0} → Calls C → Raise R
    → (Soft → ℕ → Result Ran SoftRefused → Running C R → Running C R → Type 0)
    → Running C R → CpuCall → Running C R → Type 0
CpuSteps handler firing interrupts s call t =
    CpuDoes handler firing interrupts s call t × IsLawful firing.view t.cpu
