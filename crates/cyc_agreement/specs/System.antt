-- What callers see of a system of CPUs.
use Rattle.std.specs.Prelude.{ℕ, ◌==◌, not, is_some, Bool, false, List, find, Option}
use Rattle.std.specs.List.{list_any}
use Rattle.std.specs.Option.{option_map_or}
use Rattle.cyc_places.specs.declared.record.Record.{Record}
pub use Rattle.cyc_places.specs.Places.{is_everywhere}
pub use Rattle.cyc_agreement.specs.Ids.{ids_of, ids_on, removal_on, is_online, has, is_leaving_here}
use Rattle.cyc_agreement.specs.Cpus.{CpusView}

-- the CPUs, where the cyclics are, and the id that was given last
pub record SystemView (R : Type 0) : Type 0 where
  pub cpus : CpusView R
  -- by rising ids, those that were given and whose removal has not answered
  pub records : List Record
  pub last : ℕ

-- ---- the cyclics

-- the record of an id
abbrev pub record_of : {R : Type 0} → ℕ → SystemView R → Option Record
record_of id s = find (λ r. r.id == id) s.records

-- the id was not given, or its removal has answered
abbrev pub is_unknown : {R : Type 0} → ℕ → SystemView R → Bool
is_unknown id s = not (is_some (record_of id s))

-- the removal of this id is open on some CPU
abbrev pub is_leaving : {R : Type 0} → ℕ → SystemView R → Bool
is_leaving id s = list_any (is_leaving_here id) s.cpus.cpus

-- the cyclic has a component on each online CPU
abbrev pub is_omnipresent : {R : Type 0} → ℕ → SystemView R → Bool
is_omnipresent id s = option_map_or (λ r. is_everywhere r.placement) (record_of id s) false

-- a system and the handlers of its cyclics
pub record RunningSystem (C R : Type 0) : Type 0 where
  pub system : SystemView R
  pub calls : C

abbrev pub running_system : {C R : Type 0} → C → SystemView R → RunningSystem C R
running_system calls s = record { system = s; calls = calls }
