-- How a cyclic is bound to a CPU.
use Rattle.std.specs.Prelude.{◌≡◌, ◌≢◌, ℕ, ◌⊎◌, Bool, true, false, slice_set, Result, Ok, Err}
use Rattle.cyc_types.specs.declared.Raise.{Ghosts as Raise}
use Rattle.cyc_types.specs.declared.refusal.Refusal.{Refusal}
use Rattle.cyc_places.specs.declared.record.Placement.{Placement}
use Rattle.cyc_places.specs.declared.record.Placement.TheVariants.{On}
use Rattle.cyc_places.specs.declared.record.Record.{Record}
use Rattle.cyc_places.specs.Places.{IsRecord, with_placement}
use Rattle.cyc_agreement.specs.Cpus.{CpusView}
use Rattle.cyc_agreement.specs.Shifting.{Move, move_of, Shifts}
use Rattle.cyc_agreement.specs.System.{SystemView}

-- the cyclic, which is on one CPU, is there now
abbrev pub Records : {R : Type 0} → ℕ → Placement → SystemView R → SystemView R → Type 0
Records id placement s t = (k : ℕ) × (r : Record) × IsRecord s.records k r × (r.id ≡ id)
    × (t.records ≡ slice_set s.records k (with_placement placement r)) × (t.last ≡ s.last)

-- the cyclic is on this one CPU, and may be bound to it
abbrev pub HasPlacement : {R : Type 0} → ℕ → ℕ → Bool → SystemView R → Type 0
HasPlacement id n bound s = (k : ℕ) × (r : Record) × IsRecord s.records k r × (r.id ≡ id) × (r.placement ≡ On n bound)

abbrev pub HasHome : {R : Type 0} → ℕ → ℕ → SystemView R → Type 0
HasHome id n s = (bound : Bool) × HasPlacement id n bound s

-- the cyclic may be moved from now on (cyclic_bind with no CPU)
abbrev pub Unbinds : {R : Type 0} → ℕ → Result (Unit {0}) Refusal → SystemView R → SystemView R → Type 0
Unbinds id answer s t = (answer ≡ Ok tt) × (n : ℕ) × HasHome id n s × (t.cpus ≡ s.cpus) × Records id (On n false) s t

-- the cyclic goes to the target, where it is not there
abbrev pub GoesTo : {R : Type 0} → Raise R → Move → Result (Unit {0}) Refusal → CpusView R → CpusView R → Type 0
GoesTo firing m answer v w =
    ((m.source ≡ m.target) × (answer ≡ Ok tt) × (w ≡ v)) ⊎ ((m.source ≢ m.target) × Shifts firing m answer v w)

-- The cyclic is bound to this CPU. Where it is not there it moves there first, or it is not bound (cyclic_bind_cpu).
abbrev pub Binds : {R : Type 0} → Raise R
    → ℕ → ℕ → Result (Unit {0}) Refusal → SystemView R → SystemView R → Type 0
Binds firing id target (Ok done) s t = (home : ℕ) × HasHome id home s
    × GoesTo firing (move_of id home target) (Ok tt) s.cpus t.cpus × Records id (On target true) s t
Binds firing id target (Err e) s t = (home : ℕ) × HasHome id home s
    × GoesTo firing (move_of id home target) (Err e) s.cpus t.cpus × (t.records ≡ s.records) × (t.last ≡ s.last)
