-- How an omnipresent cyclic comes to all online CPUs (`cyclic_add_omni`; the skew is our own rule).
use Rattle.std.specs.Prelude.{◌≡◌, ℕ, ◌+◌, ◌*◌, min, List, [], ◌∷◌, ◌++◌, ◌⊎◌, Result, Ok, Err}
use Rattle.cyc_types.specs.declared.Raise.{Ghosts as Raise}
use Rattle.cyc_types.specs.Series.{never, first}
use Rattle.cyc_types.specs.declared.level.Level.{Level}
use Rattle.cyc_types.specs.declared.moment.When.{When}
use Rattle.cyc_types.specs.declared.refusal.Refusal.{Refusal}
use Rattle.cyc_types.specs.declared.refusal.Refusal.TheVariants.{Memory}
use Rattle.cyc_places.specs.declared.record.Placement.TheVariants.{Everywhere}
use Rattle.cyc_places.specs.Places.{new_record}
use Rattle.cyc_agreement.specs.Cpus.{CpusView, CallOn, online_cpus, Works}
use Rattle.cyc_agreement.specs.Reserving.{ReservesEach}
use Rattle.cyc_agreement.specs.System.{SystemView}
use Rattle.cyc_agreement.specs.Adding.{AddRequest, entering}

-- the start of the component on the CPU of this number
abbrev pub component_start : ℕ → When → ℕ → ℕ
component_start n when skew = min (when.start + n * skew) never

-- its first expiration, where it comes there at this moment
abbrev pub component_first : ℕ → When → ℕ → ℕ → ℕ
component_first n when skew now = first (component_start n when skew) when.interval now

-- each of these CPUs grows where it must, and takes its component, which has not expired yet
abbrev pub entering_each : List ℕ → ℕ → Level → When → ℕ → ℕ → List CallOn
entering_each [] id level when skew now = []
entering_each (n ∷ ns) id level when skew now =
    entering n id level when.interval (component_first n when skew now) ++ entering_each ns id level when skew now

-- The cyclic has a component on each online CPU, and the next id: all memory was taken before the first CPU was switched. Or
-- a CPU has no room, or there is no memory on one of them or for the record.
abbrev pub AddsOmni : {R : Type 0} → Raise R
    → AddRequest → ℕ → Result ℕ Refusal → SystemView R → SystemView R → Type 0
AddsOmni {R} firing a skew (Ok id) s t = (id ≡ s.last + 1)
    × ((reserved : CpusView R) × ReservesEach firing 1 (Ok tt) s.cpus reserved
    × Works firing (entering_each (online_cpus s.cpus) id a.level a.when skew a.now) reserved t.cpus)
    × (t.records ≡ s.records ++ new_record id a.level (Everywhere a.when skew) ∷ []) × (t.last ≡ id)
AddsOmni firing a skew (Err e) s t =
    (ReservesEach firing 1 (Err e) s.cpus t.cpus ⊎ ((e ≡ Memory) × ReservesEach firing 1 (Ok tt) s.cpus t.cpus))
    × (t.records ≡ s.records) × (t.last ≡ s.last)

-- the id that was given last, after a call with this answer
abbrev pub last_after : ℕ → Result ℕ Refusal → ℕ
last_after last (Ok id) = id
last_after last (Err e) = last
