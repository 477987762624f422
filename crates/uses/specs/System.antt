-- What a CPU that goes offline keeps of each cyclic.
use Rattle.std.specs.Prelude.{◌≡◌, ◌≢◌, ℕ, true, false, [], ◌∷◌, Result}
use Rattle.std.specs.List.{FoldsTo}
use Rattle.cyc_types.specs.declared.Calls.{Ghosts as Calls}
use Rattle.cyc_types.specs.declared.level.Soft.TheVariants.{Low, Lock}
use Rattle.cyc_types.specs.declared.refusal.Refusal.{Refusal}
use Rattle.cyc_cpu.specs.Ran.{Ran}
use Rattle.cyc_cpu.specs.Soft.{Interrupts, raise_tables}
use Rattle.cyc_cpu.specs.Tables.{Tables}
use Rattle.cyc_system.specs.Calls.{Does, Offline, SoftInterrupt}
use Rattle.cyc_system.specs.RemovalLaws.{cyclic_on}
use Rattle.cyc_system.specs.System.{RunningSystem, SystemView, is_omnipresent}
use Rattle.cyc_system_laws.specs.Keeping.{SameCounts, SameStays, SameRecord}
use Rattle.cyc_system_laws.specs.SoftFault.{SoftFault}

-- what is kept of the cyclics while the CPU of this number is left
pub record KeepsCyclics {R : Type 0} (n : ℕ) (s t : SystemView R) : Type 0 where
  -- each has its expirations and its losses, over all CPUs and all stays
  pub counts : (id : ℕ) → SameCounts id s t
  -- each that is on one CPU has, wherever it is now, its level, its interval and its next expiration
  pub stays : (id : ℕ) → is_omnipresent id s ≡ false → SameStays id s t
  -- each that is on every CPU has on the others what it had there
  pub components : (id m : ℕ) → is_omnipresent id s ≡ true → m ≢ n → cyclic_on m id t.cpus ≡ cyclic_on m id s.cpus
  -- each has its record, or still has none
  pub records : (id : ℕ) → SameRecord id s t

-- the soft interrupts of both levels of a CPU and then its offline, each with its answer: a run, as the laws over runs take it
abbrev pub ServesThenOffline : {C : Type 0} → Calls C → ℕ → ℕ → Result (Unit {0}) Refusal → RunningSystem C Tables
    → RunningSystem C Tables
    → Type 0
ServesThenOffline handler n budget answer s t = (lock low : Result Ran SoftFault)
    × FoldsTo (Does handler raise_tables (Interrupts handler)) s
    (SoftInterrupt n Lock budget lock ∷ SoftInterrupt n Low budget low ∷ Offline n answer ∷ []) t
