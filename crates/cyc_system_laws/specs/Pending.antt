-- The outstanding calls of a cyclic, where no other thread uses the levels.
use Rattle.std.specs.Prelude.{◌≡◌, ℕ, ◌+◌, sum_by, Result}
use Rattle.std.specs.List.{slice_get}
use Rattle.std.specs.Option.{option_map_or}
use Rattle.cyc_types.specs.declared.level.Level.TheVariants.{Low, Lock}
use Rattle.cyc_level.specs.Level.{count}
use Rattle.cyc_core.specs.Tables.{Tables, level_of}
use Rattle.cyc_timers.specs.declared.fire.Fired.{Fired}
use Rattle.cyc_timers.specs.declared.fire.FireRefused.{FireRefused}
use Rattle.cyc_cpu.specs.Cpu.{CpuView}
use Rattle.cyc_cpu.specs.Calls.{Fire}
use Rattle.cyc_cpu_laws.specs.Accounts.{Account, account_of}
use Rattle.cyc_agreement.specs.Cpus.{CpusView}
use Rattle.cyc_system.specs.System.{SystemView}
use Rattle.cyc_system.specs.Calls.{SystemCall, FireOne, SoftInterrupt}

-- the outstanding calls of an id on a CPU, at both of its soft levels: pending, in hand, or kept for its removal (cy_pend)
abbrev pub pending_in : ℕ → CpuView Tables → ℕ
pending_in id cpu = count (level_of cpu.lock) id + count (level_of cpu.low) id

-- those on the CPU of this number
abbrev pub pending_on : ℕ → ℕ → CpusView Tables → ℕ
pending_on n id v = option_map_or (pending_in id) (slice_get v.cpus n) 0

-- those on all CPUs together
abbrev pub all_pending : ℕ → SystemView Tables → ℕ
all_pending id s = sum_by (pending_in id) s.cpus.cpus

-- the expirations of an id for which its end was raised: all of a cyclic of a soft level
abbrev pub raised_in : Account → ℕ → ℕ
raised_in a id = a.fired Lock id + a.fired Low id

-- those in a fire of the CPU of this number
abbrev pub raised_on : ℕ → ℕ → ℕ → Result Fired FireRefused → CpusView Tables → ℕ
raised_on n id now answer v =
    option_map_or (λ cpu. raised_in (account_of (Fire now answer) cpu.cyclics) id) (slice_get v.cpus n) 0

-- the call fires this CPU, or is one of its soft interrupts: the two calls that make or do calls of handlers
abbrev pub ReachesHandlers : ℕ → SystemCall → Type 0
ReachesHandlers n (FireOne m now answer) = m ≡ n
ReachesHandlers n (SoftInterrupt m level budget answer) = m ≡ n
ReachesHandlers n call = ⊥
