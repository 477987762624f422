-- Every CPU is suspended, or every one is resumed (`cyclic_suspend` and `cyclic_resume` go over all CPUs).
use Rattle.std.specs.Prelude.{◌≡◌, ℕ, zero, suc, not, Bool, false, List, [], ◌∷◌, ◌++◌, length, Option, Result, Ok}
use Rattle.std.specs.Option.{option_map_or}
use Rattle.cyc_types.specs.declared.Raise.{Ghosts as Raise}
use Rattle.cyc_types.specs.declared.refusal.Refusal.{Refusal}
use Rattle.cyc_types.specs.declared.refusal.Refusal.TheVariants.{Suspended, NotSuspended}
use Rattle.cyc_types.specs.Reasons.{when}
use Rattle.cyc_cpu.specs.Calls.{CpuCall}
use Rattle.cyc_agreement.specs.Cpus.{CallOn, on}
use Rattle.cyc_agreement.specs.System.{SystemView}
use Rattle.cyc_agreement.specs.Agreement.{suspended_on}
use Rattle.cyc_agreement.specs.Adding.{OnlyWorks}

-- CPU 0 is suspended, and so each one is (`Agrees`)
abbrev pub is_suspended : {R : Type 0} → SystemView R → Bool
is_suspended s = option_map_or (λ suspended. suspended) (suspended_on 0 s.cpus) false

abbrev pub suspended : {R : Type 0} → SystemView R → Option Refusal
suspended s = when (is_suspended s) Suspended

abbrev pub not_suspended : {R : Type 0} → SystemView R → Option Refusal
not_suspended s = when (not (is_suspended s)) NotSuspended

-- this call on each CPU of a number below n, in rising number
abbrev pub on_each : CpuCall → ℕ → List CallOn
on_each call zero = []
on_each call (suc n) = on_each call n ++ on n call ∷ []

-- this call was made on each CPU, offline ones too, and nothing else changed
abbrev pub MarksEach : {R : Type 0} → Raise R → CpuCall → Result (Unit {0}) Refusal → SystemView R → SystemView R → Type 0
MarksEach firing call answer s t = (answer ≡ Ok tt) × OnlyWorks firing (on_each call (length s.cpus.cpus)) s t
