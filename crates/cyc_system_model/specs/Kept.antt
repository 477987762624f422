-- How a system over plain levels begins, and which calls leave it suspended or not.
use Rattle.std.specs.Prelude.{◌≡◌, ℕ, ⊤, List, [], All}
use Rattle.cyc_level.specs.Level.{empty_level}
use Rattle.cyc_core.specs.Tables.{Tables, level_of}
use Rattle.cyc_system.specs.Cpus.{new_cpus}
use Rattle.cyc_system.specs.System.{SystemView}
use Rattle.cyc_system.specs.Calls.{SystemCall, Suspend, Resume}

-- the lock and the low level of each CPU are new
abbrev pub LevelsAreNew : ℕ → List (Tables × Tables) → Type 0
LevelsAreNew ceiling ends = All (λ e. (level_of e.0 ≡ empty_level ceiling) × (level_of e.1 ≡ empty_level ceiling)) ends

-- a system before its first cyclic, whose id will be 1
abbrev pub new_system : ℕ → List (Tables × Tables) → SystemView Tables
new_system most ends = record { cpus = new_cpus most ends; records = []; last = 0 }

-- the call neither suspends the system nor resumes it
abbrev pub LeavesMark : SystemCall → Type 0
LeavesMark (Suspend answer) = ⊥
LeavesMark (Resume answer) = ⊥
LeavesMark call = ⊤
