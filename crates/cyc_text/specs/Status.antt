-- Why a run stops, and the exit status of the program after a fault. Our own rule.
use Rattle.std.specs.Prelude.{ℕ, ◌≡◌, ◌==◌, Bool, true, false, Result, Ok, Err, if◌then◌else◌}
use Rattle.cyc_input.specs.declared.fault.InputFault.{InputFault}
use Rattle.cyc_input.specs.declared.fault.InputFault.TheVariants as input_fault
use Rattle.cyc_types.specs.declared.refusal.Refusal.{Refusal}
use Rattle.cyc_types.specs.declared.refusal.Refusal.TheVariants as refusal
use Rattle.cyc_types.specs.Refusals.{number_of}
use Rattle.cyc_text.specs.declared.fault.Fault.{Fault}
use Rattle.cyc_text.specs.declared.fault.Fault.TheVariants.{Words, Memory, Read, Script, Run}
use Rattle.cyc_text.specs.declared.fault.RunFault.{RunFault}
use Rattle.cyc_text.specs.declared.fault.RunFault.TheVariants as run_fault

-- whether a run stopped because its sink failed
abbrev pub is_write : {A : Type 0} → Result A RunFault → Bool
is_write (Ok x) = false
is_write (Err (run_fault.Refused why)) = false
is_write (Err run_fault.Write) = true

-- a run is refused for want of memory alone
abbrev pub IsMemoryOrWrite : RunFault → Type 0
IsMemoryOrWrite (run_fault.Refused why) = why ≡ refusal.Memory
IsMemoryOrWrite run_fault.Write = Unit {0}

-- and a step, which reaches no sink, stops for nothing else
abbrev pub IsMemory : RunFault → Type 0
IsMemory e = e ≡ run_fault.Refused refusal.Memory

-- 3 where memory was refused, else 2
abbrev pub script_status : Refusal → ℕ
script_status why = if number_of why == number_of refusal.Memory then 3 else 2

abbrev pub status : Fault → ℕ
status Words = 1
status Memory = 3
status Read = 3
status (Script why) = script_status why
status (Run why) = 3

-- the fault of an input that was not read
abbrev pub reading_fault : InputFault → Fault
reading_fault input_fault.Memory = Memory
reading_fault input_fault.Read = Read
