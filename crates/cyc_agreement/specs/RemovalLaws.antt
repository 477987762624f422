-- What a removal leaves: nothing of its cyclic once it has answered, and every other cyclic as it was.
use Rattle.std.specs.Prelude.{◌≡◌, ℕ, ◌==◌, false, find, Option, Some, None}
use Rattle.std.specs.List.{slice_get}
use Rattle.std.specs.Option.{option_and_then}
use Rattle.cyc_cpu.specs.Rows.{Cyclic}
use Rattle.cyc_cpu.specs.Cpu.{CpuView}
use Rattle.cyc_agreement.specs.Cpus.{CpusView}
use Rattle.cyc_agreement.specs.System.{SystemView, has, removal_on, record_of}

-- the cyclic of this id on a CPU
abbrev pub cyclic_in : {R : Type 0} → ℕ → CpuView R → Option Cyclic
cyclic_in id cpu = find (λ c. c.timer.id == id) cpu.cyclics

-- that on the CPU of this number
abbrev pub cyclic_on : {R : Type 0} → ℕ → ℕ → CpusView R → Option Cyclic
cyclic_on n id v = option_and_then (cyclic_in id) (slice_get v.cpus n)

-- no CPU has the cyclic, and no record names it
pub record IsForgotten {R : Type 0} (id : ℕ) (s : SystemView R) : Type 0 where
  pub nowhere : (n : ℕ) → has n id s.cpus ≡ false
  pub unknown : record_of id s ≡ None

-- on each CPU the cyclic has its level, its interval, its moment and its counts, it has its record, and its removal is open
-- where it was
pub record IsUntouched {R : Type 0} (id : ℕ) (s t : SystemView R) : Type 0 where
  pub cyclics : (n : ℕ) → cyclic_on n id t.cpus ≡ cyclic_on n id s.cpus
  pub own : record_of id t ≡ record_of id s
  pub stays_open : (n : ℕ) → removal_on n s.cpus ≡ Some id → removal_on n t.cpus ≡ Some id
  pub was_open : (n : ℕ) → removal_on n t.cpus ≡ Some id → removal_on n s.cpus ≡ Some id
