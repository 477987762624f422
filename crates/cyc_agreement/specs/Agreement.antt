-- What is true of every system: its CPUs and its records agree.
use Rattle.std.specs.Prelude.{◌≡◌, ℕ, ◌≤◌, ◌⊎◌, Bool, true, false, length, Option, Some}
use Rattle.std.specs.List.{slice_get}
use Rattle.std.specs.Option.{option_map}
use Rattle.cyc_types.specs.Limits.{most_cpus}
use Rattle.cyc_types.specs.Counting.{no_counts}
use Rattle.cyc_places.specs.declared.record.Placement.{Placement}
use Rattle.cyc_places.specs.declared.record.Placement.TheVariants.{On, Everywhere}
use Rattle.cyc_places.specs.declared.record.Record.{Record}
use Rattle.cyc_places.specs.Places.{IsRecord, ended_on}
use Rattle.cyc_agreement.specs.Cpus.{CpusView}
use Rattle.cyc_agreement.specs.System.{SystemView, has, removal_on, is_online, is_everywhere}

-- the most expirations of a cyclic of the CPU of this number
abbrev pub most_on : {R : Type 0} → ℕ → CpusView R → Option ℕ
most_on n v = option_map (λ cpu. cpu.most) (slice_get v.cpus n)

-- whether the CPU of this number is suspended
abbrev pub suspended_on : {R : Type 0} → ℕ → CpusView R → Option Bool
suspended_on n v = option_map (λ cpu. cpu.suspended) (slice_get v.cpus n)

-- a cyclic with this placement has one on the CPU of this number, or may have
abbrev pub Stands : ℕ → Placement → Type 0
Stands n (On m bound) = m ≡ n
Stands n (Everywhere first skew) = Unit {0}

-- each cyclic stands where its record says, and nowhere else
pub record Agrees {R : Type 0} (s : SystemView R) : Type 0 where
  -- a cyclic on a CPU has a record that speaks of this CPU, which is online
  pub known : (n id : ℕ) → has n id s.cpus ≡ true
      → (k : ℕ) × (r : Record) × IsRecord s.records k r × (r.id ≡ id) × Stands n r.placement × (is_online n s.cpus ≡ true)
  -- one that is on a CPU is there
  pub home : (k n : ℕ) (bound : Bool) (r : Record) → IsRecord s.records k r → r.placement ≡ On n bound → has n r.id s.cpus ≡ true
  -- an omnipresent one has a component on each online CPU, unless its removal is open
  pub everywhere : (k n : ℕ) (r : Record) → IsRecord s.records k r → is_everywhere r.placement ≡ true → is_online n s.cpus ≡ true
      → (has n r.id s.cpus ≡ true) ⊎ ((m : ℕ) × (removal_on m s.cpus ≡ Some r.id))
  -- where a cyclic is, what earlier stays left is among its own counts
  pub ended : (k n : ℕ) (r : Record) → IsRecord s.records k r → has n r.id s.cpus ≡ true → ended_on n r ≡ no_counts
  -- so it is, on every CPU, of one that is on a single one
  pub single : (k n : ℕ) (r : Record) → IsRecord s.records k r → is_everywhere r.placement ≡ false → ended_on n r ≡ no_counts
  -- no id is above the last
  pub given : (k : ℕ) (r : Record) → IsRecord s.records k r → r.id ≤ s.last
  -- there are few CPUs, and of each it is known whether it is online
  pub few : length s.cpus.cpus ≤ most_cpus
  pub long : length s.cpus.online ≡ length s.cpus.cpus
  -- a CPU is online
  pub some : (n : ℕ) × (is_online n s.cpus ≡ true)
  -- all CPUs have one bound on the expirations of a cyclic
  pub most : (n m a b : ℕ) → most_on n s.cpus ≡ Some a → most_on m s.cpus ≡ Some b → a ≡ b
  -- all CPUs are suspended, offline ones too, or none is
  pub suspended : (n m : ℕ) (a b : Bool) → suspended_on n s.cpus ≡ Some a → suspended_on m s.cpus ≡ Some b → a ≡ b
