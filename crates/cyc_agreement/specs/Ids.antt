-- Which cyclics a CPU of a system has, and which of them is being removed.
use Rattle.std.specs.Prelude.{ℕ, ◌==◌, Bool, false, List, [], map, Option}
use Rattle.std.specs.List.{slice_get, list_any}
use Rattle.std.specs.Option.{option_map_or, option_and_then}
use Rattle.cyc_cpu.specs.Cpu.{CpuView}
use Rattle.cyc_agreement.specs.Cpus.{CpusView}

-- the ids of a CPU's cyclics, rising
abbrev pub ids_of : {R : Type 0} → CpuView R → List ℕ
ids_of cpu = map (λ c. c.timer.id) cpu.cyclics

-- the ids on the CPU of this number
abbrev pub ids_on : {R : Type 0} → ℕ → CpusView R → List ℕ
ids_on n v = option_map_or ids_of (slice_get v.cpus n) []

-- the id whose removal is open on the CPU of this number
abbrev pub removal_on : {R : Type 0} → ℕ → CpusView R → Option ℕ
removal_on n v = option_and_then (λ cpu. cpu.removal) (slice_get v.cpus n)

abbrev pub is_online : {R : Type 0} → ℕ → CpusView R → Bool
is_online n v = option_map_or (λ online. online) (slice_get v.online n) false

-- the CPU of this number has a cyclic of this id
abbrev pub has : {R : Type 0} → ℕ → ℕ → CpusView R → Bool
has n id v = list_any (λ own. own == id) (ids_on n v)

-- the removal of this id is open on the CPU
abbrev pub is_leaving_here : {R : Type 0} → ℕ → CpuView R → Bool
is_leaving_here id cpu = option_map_or (λ own. own == id) cpu.removal false
