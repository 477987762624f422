-- What is true of the CPUs and the records while a cyclic leaves its CPUs.
use Rattle.std.specs.Prelude.{◌≡◌, ◌≢◌, ℕ, ◌≤◌, true, false, List, length, slice_set, Some}
use Rattle.std.specs.List.{slice_get}
use Rattle.cyc_types.specs.Counting.{no_counts}
use Rattle.cyc_places.specs.declared.record.Record.{Record}
use Rattle.cyc_places.specs.Places.{IsRecord, ended_on}
use Rattle.cyc_agreement.specs.Cpus.{CpusView}
use Rattle.cyc_agreement.specs.System.{SystemView, has, removal_on}
use Rattle.cyc_agreement.specs.Agreement.{most_on, suspended_on}

-- a system with these parts
abbrev pub system : {R : Type 0} → CpusView R → List Record → ℕ → SystemView R
system cpus records last = record { cpus = cpus; records = records; last = last }

-- the cyclic has the record at this position, and no stay of it has ended on a CPU that has it
pub record Owns {R : Type 0} (id position : ℕ) (v : CpusView R) (rs : List Record) : Type 0 where
  pub own : Record
  pub here : IsRecord rs position own
  pub named : own.id ≡ id
  pub fresh : (n : ℕ) → has n id v ≡ true → ended_on n own ≡ no_counts

-- the cyclic has left some of its CPUs: nothing changes of the others and their removals, nor of the records but its own counts
-- on the CPUs that it has left
pub record Withdraws {R : Type 0} (id position : ℕ) (v w : CpusView R) (rs rs' : List Record) : Type 0 where
  pub others : (n q : ℕ) → q ≢ id → has n q w ≡ has n q v
  pub fewer : (n : ℕ) → has n id w ≡ true → has n id v ≡ true
  pub stay_open : (n q : ℕ) → q ≢ id → removal_on n v ≡ Some q → removal_on n w ≡ Some q
  pub were_open : (n q : ℕ) → q ≢ id → removal_on n w ≡ Some q → removal_on n v ≡ Some q
  pub online : w.online ≡ v.online
  pub most : (n : ℕ) → most_on n w ≡ most_on n v
  pub suspended : (n : ℕ) → suspended_on n w ≡ suspended_on n v
  pub long : length w.cpus ≡ length v.cpus
  pub before : Record
  pub after : Record
  pub was : IsRecord rs position before
  pub records : rs' ≡ slice_set rs position after
  pub same_id : after.id ≡ before.id
  pub same_placement : after.placement ≡ before.placement
  -- where it still is, and where it never was
  pub kept : (n : ℕ) → has n id w ≡ true → ended_on n after ≡ ended_on n before
  pub beside : (n : ℕ) → has n id v ≡ false → ended_on n after ≡ ended_on n before
  pub bounded : (n most : ℕ) → most_on n v ≡ Some most → (ended_on n before).sent ≤ most → (ended_on n after).sent ≤ most

-- it may have left the CPU of this number, and no other; and if not, its removal is open there
pub record LeavesAt {R : Type 0} (n id : ℕ) (v w : CpusView R) : Type 0 where
  pub leaving : has n id w ≡ true → removal_on n w ≡ Some id
  pub elsewhere : (m : ℕ) → m ≢ n → slice_get w.cpus m ≡ slice_get v.cpus m
