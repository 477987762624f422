-- A cyclic whose removal has answered.
use Rattle.std.specs.Prelude.{◌≡◌, ℕ, ◌≤◌}
use Rattle.cyc_level.specs.Lawful.{Lawful}
use Rattle.cyc_cpu.specs.Tables.{Tables, level_of}
use Rattle.cyc_cpu.specs.Cpu.{HasNoCyclic}
use Rattle.cyc_cpu.specs.Laws.{IsLawful}
use Rattle.cyc_cpu.specs.Soft.{firing_at}
use Rattle.cyc_cpu.specs.Gone.{IsGone}
use Rattle.cyc_places.specs.Places.{HasNoRecord}
use Rattle.cyc_agreement.specs.Cpus.{OfCpu}
use Rattle.cyc_system.specs.System.{SystemView, RunningSystem}

-- the id was given, no record has it any more, and no CPU has a cyclic of it
pub record IsOver {R : Type 0} (id : ℕ) (s : SystemView R) : Type 0 where
  pub given : id ≤ s.last
  pub unknown : HasNoRecord id s.records
  pub nowhere : (n : ℕ) → OfCpu n (λ cpu. HasNoCyclic id cpu.cyclics) s.cpus

-- it is still so, and no call of it was made
abbrev pub StaysOver : {C R : Type 0} → (C → ℕ → ℕ) → ℕ → RunningSystem C R → RunningSystem C R → Type 0
StaysOver count id s t = IsOver id t.system × (count t.calls id ≡ count s.calls id)

-- where no other thread uses the levels: and it is at none of them
pub record IsOverWhole (id : ℕ) (s : SystemView Tables) : Type 0 where
  pub is_over : IsOver id s
  pub gone : (n : ℕ) → OfCpu n (IsGone id) s.cpus

abbrev pub StaysOverWhole : {C : Type 0} → (C → ℕ → ℕ) → ℕ → RunningSystem C Tables → RunningSystem C Tables → Type 0
StaysOverWhole count id s t = IsOverWhole id t.system × (count t.calls id ≡ count s.calls id)

-- every CPU is lawful, and so are its two levels, as they are between any two calls
abbrev pub AreLevelsLawful : SystemView Tables → Type 0
AreLevelsLawful s = (n : ℕ) → OfCpu n (λ cpu. IsLawful firing_at cpu × Lawful (level_of cpu.lock)
    × Lawful (level_of cpu.low)) s.cpus
