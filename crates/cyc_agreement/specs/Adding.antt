-- How a new cyclic comes to a CPU.
use Rattle.std.specs.Prelude.{◌≡◌, ℕ, ◌+◌, false, List, [], ◌∷◌, ◌++◌, ◌⊎◌, Some, None, Result, Ok, Err}
use Rattle.cyc_types.specs.declared.Raise.{Ghosts as Raise}
use Rattle.cyc_types.specs.Series.{first}
use Rattle.cyc_types.specs.declared.level.Level.{Level}
use Rattle.cyc_types.specs.declared.moment.When.{When}
use Rattle.cyc_types.specs.declared.refusal.Refusal.{Refusal}
use Rattle.cyc_types.specs.declared.refusal.Refusal.TheVariants.{Memory}
use Rattle.cyc_types.specs.Counting.{no_counts}
use Rattle.cyc_cpu.specs.Calls.{Reserve, Widen, Place}
use Rattle.cyc_places.specs.declared.record.Placement.TheVariants.{On}
use Rattle.cyc_places.specs.Places.{new_record}
use Rattle.cyc_agreement.specs.Cpus.{CallOn, on, Works}
use Rattle.cyc_agreement.specs.Destination.{destination}
use Rattle.cyc_agreement.specs.System.{SystemView}

-- this was done on the CPUs, and nothing else changed
abbrev pub OnlyWorks : {R : Type 0} → Raise R
    → List CallOn → SystemView R → SystemView R → Type 0
OnlyWorks firing way s t = Works firing way s.cpus t.cpus × (t.records ≡ s.records) × (t.last ≡ s.last)

-- a CPU grows where it must, and takes a cyclic that has not expired yet (cyclic_add_here)
abbrev pub entering : ℕ → ℕ → Level → ℕ → ℕ → List CallOn
entering n id level interval moment = on n (Widen 1) ∷ on n (Place id level interval moment no_counts) ∷ []

-- what is asked of an add: the level of the calls, when it expires, and the moment of the call
pub record AddRequest : Type 0 where
  pub level : Level
  pub when : When
  pub now : ℕ

abbrev pub add_request : Level → When → ℕ → AddRequest
add_request level when now = record { level = level; when = when; now = now }

-- A new cyclic is on the CPU that has the fewest, and has the next id: its memory was taken before the CPU was switched. Or
-- there is no room on that CPU, or no memory there or for the record; another CPU is not tried (cyclic_add).
abbrev pub Adds : {R : Type 0} → Raise R
    → AddRequest → Result ℕ Refusal → SystemView R → SystemView R → Type 0
Adds firing a (Ok id) s t = (d : ℕ) × (destination None s.cpus ≡ Some d) × (id ≡ s.last + 1)
    × Works firing (on d (Reserve 1 (Ok tt))
    ∷ entering d id a.level a.when.interval (first a.when.start a.when.interval a.now)) s.cpus t.cpus
    × (t.records ≡ s.records ++ new_record id a.level (On d false) ∷ []) × (t.last ≡ id)
Adds firing a (Err e) s t = (d : ℕ) × (destination None s.cpus ≡ Some d)
    × (OnlyWorks firing (on d (Reserve 1 (Err e)) ∷ []) s t
    ⊎ ((e ≡ Memory) × OnlyWorks firing (on d (Reserve 1 (Ok tt)) ∷ []) s t))
