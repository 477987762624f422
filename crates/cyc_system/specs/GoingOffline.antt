-- How a CPU goes offline (cyclic_offline).
use Rattle.std.specs.Prelude.{◌≡◌, ◌≢◌, ℕ, ◌<◌, ◌⊎◌, false, slice_set, List, [], ◌∷◌, ◌++◌, map, Some, Result, Ok, Err}
use Rattle.std.specs.List.{FoldsTo}
use Rattle.cyc_types.specs.declared.Raise.{Ghosts as Raise}
use Rattle.cyc_types.specs.declared.refusal.JuggleReport.{JuggleReport}
use Rattle.cyc_types.specs.declared.refusal.Refusal.{Refusal}
use Rattle.cyc_types.specs.declared.refusal.Refusal.TheVariants.{Pending, Left}
use Rattle.cyc_cpu.specs.declared.moving.Taken.{Taken}
use Rattle.cyc_cpu.specs.Calls.{AskPending, TakeNow}
use Rattle.cyc_places.specs.declared.record.Record.{Record}
use Rattle.cyc_places.specs.Places.{IsRecord, ended_on, summed, with_ended}
use Rattle.cyc_agreement.specs.Cpus.{CallOn, on, DoesAt}
use Rattle.cyc_agreement.specs.Reserving.{StandsAfter}
use Rattle.cyc_agreement.specs.System.{SystemView, ids_on}
use Rattle.cyc_agreement.specs.Refusals.{Unless}
use Rattle.cyc_agreement.specs.Adding.{OnlyWorks}
use Rattle.cyc_system.specs.Juggling.{MovesAway, single_ids, juggle_refusals}

-- the CPU was asked for each of these, and no call of any is outstanding
abbrev pub quiet : ℕ → List ℕ → List CallOn
quiet n ids = map (λ id. on n (AskPending id (Some 0))) ids

-- it was asked for them up to the first with calls outstanding
abbrev pub FindsPending : {R : Type 0} → Raise R → ℕ
    → SystemView R → SystemView R → Type 0
FindsPending firing n s t = (before : List ℕ) × (id : ℕ) × StandsAfter before id (ids_on n s.cpus)
    × (found : ℕ) × (0 < found) × OnlyWorks firing (quiet n before ++ on n (AskPending id (Some found)) ∷ []) s t

-- a component leaves the CPU, and its record keeps the counts that it had there
abbrev pub Retires : {R : Type 0} → Raise R → ℕ
    → SystemView R → ℕ → SystemView R → Type 0
Retires firing n s id t = (taken : Taken) × DoesAt firing s.cpus (on n (TakeNow id (Ok taken))) t.cpus
    × (k : ℕ) × (r : Record) × IsRecord s.records k r × (r.id ≡ id)
    × (t.records ≡ slice_set s.records k (with_ended n (summed (ended_on n r) taken.sent) r)) × (t.last ≡ s.last)

-- the CPU takes no further part
abbrev pub offline_at : {R : Type 0} → ℕ → SystemView R → SystemView R
offline_at n s = record s { cpus = record s.cpus { online = slice_set s.cpus.online n false } }

-- all components leave, by rising ids, after all were asked for; then the CPU is offline
abbrev pub RetiresAll : {R : Type 0} → Raise R → ℕ
    → SystemView R → SystemView R → Type 0
RetiresAll {R} firing n s t = (asked : SystemView R) × OnlyWorks firing (quiet n (ids_on n s.cpus)) s asked
    × (empty : SystemView R) × FoldsTo (Retires firing n) asked (ids_on n s.cpus) empty × (t ≡ offline_at n empty)

-- what follows the turns: cyclics that aren't omnipresent are left, or a component has calls outstanding, or all leave
abbrev pub EndsOffline : {R : Type 0} → Raise R → ℕ → JuggleReport
    → Result (Unit {0}) Refusal → SystemView R → SystemView R → Type 0
EndsOffline firing n report answer s t = ((single_ids n s ≢ []) × (answer ≡ Err (Left report)) × (t ≡ s))
    ⊎ ((single_ids n s ≡ []) × (answer ≡ Err Pending) × FindsPending firing n s t)
    ⊎ ((single_ids n s ≡ []) × (answer ≡ Ok tt) × RetiresAll firing n s t)

-- A CPU goes offline: it is refused, or its cyclics have their turns. Where one is left that is not omnipresent, or where a
-- component has calls outstanding, the CPU stays online, and what moved stays moved.
abbrev pub GoesOffline : {R : Type 0} → Raise R
    → ℕ → Result (Unit {0}) Refusal → SystemView R → SystemView R → Type 0
GoesOffline {R} firing n answer s t = Unless (juggle_refusals n s) (λ e. Err e) answer s t
    ((report : JuggleReport) × (moved : SystemView R) × MovesAway firing n report s moved
    × EndsOffline firing n report answer moved t)
