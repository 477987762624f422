-- The machine that runs a script, and the definition's machine that shows it.
use Rattle.std.specs.Prelude.{◌≡◌, ℕ, ◌-◌, ◌^◌, ◌<◌, ◌≤◌, true, List, length, map, slice_index_or, Option, Some, None}
use Rattle.cyc_types.specs.declared.receipt.Receipt.{Receipt}
use Rattle.cyc_types.specs.Tally.{TallyView, tally_count}
use Rattle.cyc_types.specs.Limits.{most_cpus}
use Rattle.cyc_script.specs.declared.step.Step.{Step}
use Rattle.cyc_script.specs.WellFormed.{names_after}
use Rattle.cyc_model.specs.State.{State}
use Rattle.cyc_model.specs.Places.{is_no_cyclic}
use Rattle.cyc_model.specs.Report.{counts_of}
use Rattle.cyc_model.specs.Script.{run_on}
use Rattle.cyc_core.specs.Tables.{Tables}
use Rattle.cyc_cpu.specs.Cpu.{CpuView}
use Rattle.cyc_system.specs.Cpus.{CpusView, IsCpu}
use Rattle.cyc_agreement.specs.Suspending.{is_suspended}
use Rattle.cyc_words.specs.declared.named.Named.{Named}
use Rattle.cyc_words.specs.declared.named.Named.TheVariants.{Nothing, Cyclic, Leaving, Removed}
use Rattle.cyc_words.specs.Names.{named_at}
use Rattle.cyc_system_model.specs.Room.{HaveRoomFor}
use Rattle.cyc_system_model.specs.Shown.{ShowsSystem, IsSystem}
use Rattle.cyc_system_model.specs.Removal.{told_by_receipt}
use Rattle.cyc_replay.specs.declared.machine.Machine.{Machine}

-- the id that a name has, or had until its removal answered
abbrev pub id_of_named : Named → Option ℕ
id_of_named Nothing = None
id_of_named (Cyclic id) = Some id
id_of_named (Leaving id) = Some id
id_of_named (Removed receipt) = Some receipt.id

-- that of the name of a number
abbrev pub id_at : List Named → ℕ → Option ℕ
id_at names name = id_of_named (named_at names name)

-- the number that the definition has of it: 0 where none was
abbrev pub name_number : Option ℕ → ℕ
name_number None = 0
name_number (Some id) = id

-- those of all names
abbrev pub numbers_of : List Named → List ℕ
numbers_of names = map (λ n. name_number (id_of_named n)) names

-- the number of the name that an id was given to; ids begin at 1
abbrev pub name_at : List ℕ → ℕ → ℕ
name_at named id = slice_index_or named (id - 1) 0

-- the tally counts as many ids as there are names, each up to the greatest count
pub record IsWide (names : ℕ) (t : TallyView) : Type 0 where
  pub first : t.first ≡ 1
  pub len : length t.counts ≡ names
  pub most : t.most ≡ 2 ^ 64 - 1

-- the CPUs have this bound on the expirations of a cyclic: it is too great to be reached
abbrev pub AllMost : CpusView Tables → Type 0
AllMost v = (n : ℕ) (cpu : CpuView Tables) → IsCpu n cpu v → cpu.most ≡ 2 ^ 64 - 1

-- what the machine remembers of each name with an id: the id was given, to this name; and a name has the receipt of its removal
-- just where the definition knows its cyclic no more, of which that is what is left to be told
pub record Remembers (s : State) (m : Machine) : Type 0 where
  pub given : (name id : ℕ) → id_at m.names name ≡ Some id → (0 < id) × (id ≤ s.last_id)
  pub named : (name id : ℕ) → id_at m.names name ≡ Some id → name_at m.named.items id ≡ name
  pub removed : (name : ℕ) (receipt : Receipt) → named_at m.names name ≡ Removed receipt → is_no_cyclic receipt.id s ≡ true
  pub counted : (name id : ℕ) → id_at m.names name ≡ Some id → is_no_cyclic id s ≡ true
      → (receipt : Receipt) × (named_at m.names name ≡ Removed receipt) × (counts_of id s ≡ told_by_receipt receipt (s.called id))
  -- there is room for as many ids as there are names
  pub ids : length m.named.items ≡ length m.names

-- the definition's machine shows this one: its clock, whether it is suspended, its CPUs with their cyclics, the calls of each
-- id, and the id of each name
pub record ShowsMachine (s : State) (m : Machine) : Type 0 where
  pub system : IsSystem m.system
  pub shows : ShowsSystem s m.system
  pub clock : s.clock ≡ m.clock
  pub suspended : s.suspended ≡ is_suspended m.system
  pub called : (id : ℕ) → tally_count m.tally id ≡ s.called id
  pub names : s.names ≡ numbers_of m.names
  pub remembers : Remembers s m
  pub tally : IsWide (length s.names) m.tally
  pub most : AllMost m.system.cpus
  -- each CPU has memory for a cyclic of each name
  pub room : HaveRoomFor (length s.names) m.system.cpus

-- each id was given to a name of its own: no more were given than there are names
abbrev pub IsNamed : State → Type 0
IsNamed s = s.last_id ≤ length s.names

-- so it still is when this step has given an id, if it gives one
abbrev pub HasName : Step → State → Type 0
HasName x s = names_after s.last_id x ≤ length s.names

-- the definition's machine is one that fewer steps than this number led to, on 1 to 16 CPUs, with a name for each id
pub record IsReached (step : ℕ) (s : State) : Type 0 where
  pub indexes : ℕ → ℕ
  pub cpus : ℕ
  pub ceiling : ℕ
  pub texts : List (List ℕ)
  pub steps : List Step
  pub some : 0 < cpus
  pub few : cpus ≤ most_cpus
  pub short : length steps < step
  pub is : s ≡ (run_on indexes cpus ceiling texts steps).state
  pub named : IsNamed s
