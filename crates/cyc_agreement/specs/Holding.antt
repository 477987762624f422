-- What is true of every system beside the agreement of its CPUs and records.
use Rattle.std.specs.Prelude.{◌≡◌, ℕ, ◌≤◌, true, Some}
use Rattle.cyc_places.specs.declared.record.Record.{Record}
use Rattle.cyc_places.specs.Places.{IsRecord, ended_on}
use Rattle.cyc_agreement.specs.Cpus.{CpusView}
use Rattle.cyc_agreement.specs.System.{SystemView, has, removal_on}
use Rattle.cyc_agreement.specs.Agreement.{Agrees, most_on}

-- where the removal of a cyclic is open, it is open on every CPU that has the cyclic
abbrev pub LeaveWhole : {R : Type 0} → CpusView R → Type 0
LeaveWhole v = (m n id : ℕ) → removal_on m v ≡ Some id → has n id v ≡ true → removal_on n v ≡ Some id

-- a cyclic that comes back to a CPU with what it left there has not expired more often than one there can
abbrev pub EndedWithin : {R : Type 0} → SystemView R → Type 0
EndedWithin s = (k n most : ℕ) (r : Record) → IsRecord s.records k r → most_on n s.cpus ≡ Some most → (ended_on n r).sent ≤ most

-- what is true of every system
pub record Holds {R : Type 0} (s : SystemView R) : Type 0 where
  pub agrees : Agrees s
  pub whole : LeaveWhole s.cpus
  pub within : EndedWithin s
