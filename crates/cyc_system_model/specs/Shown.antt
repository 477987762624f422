-- A system over levels that no other thread uses, as the definition of a script has it.
use Rattle.std.specs.Prelude.{◌≡◌, ℕ, ◌<◌, ◌≤◌, Bool, List, [], ◌∷◌, length, map}
use Rattle.cyc_types.specs.Limits.{most_cpus}
use Rattle.cyc_types.specs.declared.firing.Sent.{Sent}
use Rattle.cyc_types.specs.declared.level.Level.{Level}
use Rattle.cyc_types.specs.Counting.{no_counts}
use Rattle.cyc_core.specs.Tables.{Tables}
use Rattle.cyc_cpu.specs.Cpu.{CpuView}
use Rattle.cyc_places.specs.declared.record.Placement.{Placement as RecordPlacement}
use Rattle.cyc_places.specs.declared.record.Placement.TheVariants as placements
use Rattle.cyc_places.specs.declared.record.Record.{Record}
use Rattle.cyc_places.specs.Places.{IsRecord, HasRisingIds, ended_on}
use Rattle.cyc_system.specs.Cpus.{CpusView, IsCpu}
use Rattle.cyc_system.specs.System.{SystemView}
use Rattle.cyc_system.specs.Agreement.{Agrees}
use Rattle.cyc_model.specs.Cpu.{Cpu}
use Rattle.cyc_model.specs.State.{State, Placement, On, OnAll, Placed, Ended}
use Rattle.cyc_system_model.specs.ShownCpu.{shown_cpu}
use Rattle.cyc_system_model.specs.Tied.{IsTied}

-- the CPUs by number, each with whether it is online
abbrev pub shown_list : List Bool → List (CpuView Tables) → List Cpu
shown_list [] vs = []
shown_list (online ∷ os) [] = []
shown_list (online ∷ os) (v ∷ vs) = shown_cpu online v ∷ shown_list os vs

abbrev pub shown_cpus : CpusView Tables → List Cpu
shown_cpus v = shown_list v.online v.cpus

-- where a cyclic of this level is
abbrev pub shown_placement : Level → RecordPlacement → Placement
shown_placement level (placements.On cpu bound) = On cpu bound
shown_placement level (placements.Everywhere first skew) =
    OnAll (record { level = level; start = first.start; interval = first.interval; skew = skew })

abbrev pub shown_record : Record → Placed
shown_record r = record { id = r.id; placement = shown_placement r.level r.placement }

abbrev pub shown_counts : Sent → Ended
shown_counts counts = record { expired = counts.sent; lost = counts.lost }

-- the machine shows the system: its CPUs, where its cyclics are, what their ended stays left, and the id that was given last
pub record ShowsSystem (s : State) (v : SystemView Tables) : Type 0 where
  pub cpus : s.cpus ≡ shown_cpus v.cpus
  pub placed : s.placed ≡ map shown_record v.records
  pub ended : (k : ℕ) (r : Record) → IsRecord v.records k r → (n : ℕ) → s.ended r.id n ≡ shown_counts (ended_on n r)
  -- no stay of an id that was not given has ended
  pub fresh : (id n : ℕ) → s.last_id < id → s.ended id n ≡ record { expired = 0; lost = 0 }
  pub last : s.last_id ≡ v.last

-- on each CPU the cyclics are tied to the levels
abbrev pub AreTied : CpusView Tables → Type 0
AreTied v = (n : ℕ) (cpu : CpuView Tables) → IsCpu n cpu v → IsTied cpu

-- each of these records has the counts of 16 CPUs, and none of one that isn't among so many
abbrev pub AllFull : ℕ → List Record → Type 0
AllFull cpus rs = (k : ℕ) (r : Record) → IsRecord rs k r
    → (length r.ended ≡ most_cpus) × ((n : ℕ) → cpus ≤ n → ended_on n r ≡ no_counts)

-- what is true of every system over plain levels: its CPUs and its records agree, the ids of these rise, they have ended stays
-- on its CPUs alone, and on each CPU the cyclics are tied to its levels
pub record IsSystem (v : SystemView Tables) : Type 0 where
  pub agrees : Agrees v
  pub rising : HasRisingIds v.records
  pub full : AllFull (length v.cpus.cpus) v.records
  pub tied : AreTied v.cpus
