-- What one CPU sees of calls on several.
use Rattle.std.specs.Prelude.{ℕ, ◌==◌, List, map, filter, Result}
use Rattle.cyc_types.specs.declared.Calls.{Ghosts as Calls}
use Rattle.cyc_types.specs.declared.Raise.{Ghosts as Raise}
use Rattle.cyc_types.specs.declared.level.Soft.{Soft}
use Rattle.cyc_soft.specs.declared.Ran.{Ran}
use Rattle.cyc_soft.specs.declared.SoftRefused.{SoftRefused}
use Rattle.cyc_cpu.specs.Cpu.{CpuView, Running, running}
use Rattle.cyc_cpu.specs.Calls.{CpuCall, CpuDoes}
use Rattle.cyc_agreement.specs.Cpus.{CallOn}

-- the calls that were made on the CPU of this number, in order
abbrev pub calls_on : ℕ → List CallOn → List CpuCall
calls_on n way = map (λ c. c.call) (filter (λ c. c.cpu == n) way)

-- the call was made on a CPU, with some handlers before and after it: between two calls on one CPU those on others may have
-- changed them
abbrev pub DoesWithSome : {C R : Type 0} → Calls C
    → Raise R → (Soft → ℕ → Result Ran SoftRefused → Running C R → Running C R → Type 0)
    → CpuView R → CpuCall → CpuView R → Type 0
DoesWithSome {C} handler firing interrupts x call y =
    (a b : C) × CpuDoes handler firing interrupts (running a x) call (running b y)
