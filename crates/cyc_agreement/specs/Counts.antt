-- All that a cyclic has expired, over all CPUs and all of its stays.
use Rattle.std.specs.Prelude.{◌≡◌, ℕ, ◌+◌, ◌≤◌, length, sum_by}
use Rattle.std.specs.Option.{option_map_or}
use Rattle.cyc_types.specs.Limits.{most_cpus}
use Rattle.cyc_types.specs.Firing.{FiringView}
use Rattle.cyc_cpu.specs.Cpu.{CpuView}
use Rattle.cyc_cpu.specs.Laws.{IsLawful}
use Rattle.cyc_places.specs.declared.record.Record.{Record}
use Rattle.cyc_places.specs.Places.{IsRecord, HasRisingIds}
use Rattle.cyc_agreement.specs.Cpus.{IsCpu}
use Rattle.cyc_agreement.specs.System.{SystemView, record_of}
use Rattle.cyc_agreement.specs.RemovalLaws.{cyclic_in}

-- the stays that go on, and those that have ended
abbrev pub all_expired : {R : Type 0} → ℕ → SystemView R → ℕ
all_expired id s = sum_by (λ cpu. option_map_or (λ c. c.timer.expired) (cyclic_in id cpu) 0) s.cpus.cpus
    + option_map_or (λ r. sum_by (λ e. e.sent) r.ended) (record_of id s) 0

-- those of them that were lost at the ceiling
abbrev pub all_lost : {R : Type 0} → ℕ → SystemView R → ℕ
all_lost id s = sum_by (λ cpu. option_map_or (λ c. c.lost) (cyclic_in id cpu) 0) s.cpus.cpus
    + option_map_or (λ r. sum_by (λ e. e.lost) r.ended) (record_of id s) 0

-- the records' ids rise, each has the counts of as many CPUs as there can be, and there are no more
pub record IsFit {R : Type 0} (s : SystemView R) : Type 0 where
  pub rising : HasRisingIds s.records
  pub sixteen : (k : ℕ) (r : Record) → IsRecord s.records k r → length r.ended ≡ most_cpus
  pub few : length s.cpus.cpus ≤ most_cpus

abbrev pub AreLawful : {R : Type 0} → (R → FiringView) → SystemView R → Type 0
AreLawful {R} view s = (n : ℕ) (cpu : CpuView R) → IsCpu n cpu s.cpus → IsLawful view cpu
