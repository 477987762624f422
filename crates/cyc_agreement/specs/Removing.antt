-- How the removal of a cyclic begins on every CPU that has it (cyclic_remove).
use Rattle.std.specs.Prelude.{◌≡◌, ◌≢◌, ℕ, ◌==◌, List, [], ◌∷◌, map, slice_set, remove, sum_by, Option, Result, Ok, Err}
use Rattle.std.specs.List.{FoldsTo, list_any}
use Rattle.cyc_types.specs.declared.Raise.{Ghosts as Raise}
use Rattle.cyc_types.specs.declared.firing.Sent.{Sent}
use Rattle.cyc_types.specs.declared.receipt.Receipt.{Receipt}
use Rattle.cyc_types.specs.declared.refusal.Refusal.{Refusal}
use Rattle.cyc_types.specs.declared.refusal.Refusal.TheVariants.{NoCyclic}
use Rattle.cyc_types.specs.Reasons.{when, busy}
use Rattle.cyc_cpu.specs.declared.removing.Removal.{Removal}
use Rattle.cyc_cpu.specs.declared.removing.Removal.TheVariants.{Done, Kept}
use Rattle.cyc_cpu.specs.Calls.{CpuCall, BeginRemove}
use Rattle.cyc_places.specs.declared.record.Record.{Record}
use Rattle.cyc_places.specs.Places.{IsRecord, IsReceiptOf, ended_on, summed, with_ended}
use Rattle.cyc_agreement.specs.Cpus.{CpusView, CallOn, on, numbers_from, DoesAt}
use Rattle.cyc_agreement.specs.System.{SystemView, ids_of, removal_on, is_unknown}
use Rattle.cyc_agreement.specs.Refusals.{Unless}
use Rattle.cyc_agreement.specs.declared.removing.SystemRemoval.{SystemRemoval}
use Rattle.cyc_agreement.specs.declared.removing.SystemRemoval.TheVariants as system

-- the numbers of the CPUs that have the cyclic, rising
abbrev pub cpus_with : {R : Type 0} → ℕ → CpusView R → List ℕ
cpus_with id v = numbers_from 0 (map (λ cpu. list_any (λ own. own == id) (ids_of cpu)) v.cpus)

-- ---- one CPU

-- this was done on the CPU, and nothing else changed
abbrev pub OnlyDoes : {R : Type 0} → Raise R
    → ℕ → CpuCall → SystemView R → SystemView R → Type 0
OnlyDoes firing n call s t = DoesAt firing s.cpus (on n call) t.cpus × (t.records ≡ s.records) × (t.last ≡ s.last)

-- the counts of the stay that the receipt is of
abbrev pub counts_of_receipt : Receipt → Sent
counts_of_receipt receipt = record { sent = receipt.sent; lost = receipt.lost }

-- this call on a CPU ended the cyclic's stay there, whose counts are kept beside those of earlier stays there
abbrev pub EndsStay : {R : Type 0} → Raise R
    → ℕ → Receipt → CallOn → SystemView R → SystemView R → Type 0
EndsStay firing id receipt it s t = DoesAt firing s.cpus it t.cpus
    × (k : ℕ) × (r : Record) × IsRecord s.records k r × (r.id ≡ id)
    × (t.records ≡ slice_set s.records k (with_ended it.cpu (summed (ended_on it.cpu r) (counts_of_receipt receipt)) r))
    × (t.last ≡ s.last)

-- the removal begins on the CPU, and ends there at once where no call is outstanding (cyclic_remove_here)
abbrev pub BeginsOn : {R : Type 0} → Raise R
    → ℕ → ℕ → Removal → SystemView R → SystemView R → Type 0
BeginsOn firing id n (Done receipt) s t = EndsStay firing id receipt (on n (BeginRemove id (Ok (Done receipt)))) s t
BeginsOn firing id n (Kept kept) s t = OnlyDoes firing n (BeginRemove id (Ok (Kept kept))) s t

-- ---- all CPUs

-- what a removal found on a CPU as it began there
pub record Begun : Type 0 where
  pub cpu : ℕ
  pub found : Removal

-- it began on these CPUs, in order, and was done on no other
abbrev pub BeginsEach : {R : Type 0} → Raise R
    → ℕ → List Begun → SystemView R → SystemView R → Type 0
BeginsEach firing id way s t = FoldsTo (λ u b w. BeginsOn firing id b.cpu b.found u w) s way t

-- the calls that are kept there
abbrev pub kept_in : Removal → ℕ
kept_in (Done receipt) = 0
kept_in (Kept kept) = kept

-- the removal is over: no CPU has the cyclic any more, its record goes, and the receipt has the counts of all its stays
pub record AnswersRemoval {R : Type 0} (id : ℕ) (receipt : Receipt) (s t : SystemView R) : Type 0 where
  pub nowhere : cpus_with id s.cpus ≡ []
  pub position : ℕ
  pub own : Record
  pub here : IsRecord s.records position own
  pub named : own.id ≡ id
  pub counts : IsReceiptOf receipt own
  pub cpus : t.cpus ≡ s.cpus
  pub records : t.records ≡ remove s.records position
  pub last : t.last ≡ s.last

-- The removal began on every CPU that has the cyclic. It is over at once where each of them found no call outstanding; else
-- it stays open, with the calls that all of them keep.
abbrev pub Removes : {R : Type 0} → Raise R
    → ℕ → Result SystemRemoval Refusal → SystemView R → SystemView R → Type 0
Removes {R} firing id (Ok (system.Done receipt)) s t = (way : List Begun) × (u : SystemView R)
    × (map (λ b. b.cpu) way ≡ cpus_with id s.cpus) × BeginsEach firing id way s u × AnswersRemoval id receipt u t
Removes firing id (Ok (system.Kept kept)) s t = (way : List Begun) × (map (λ b. b.cpu) way ≡ cpus_with id s.cpus)
    × BeginsEach firing id way s t × (cpus_with id t.cpus ≢ []) × (kept ≡ sum_by (λ b. kept_in b.found) way)
Removes firing id (Err e) s t = ⊥

-- no cyclic has the id, or its removal has answered
abbrev pub unknown_cyclic : {R : Type 0} → ℕ → SystemView R → Option Refusal
unknown_cyclic id s = when (is_unknown id s) NoCyclic

-- a removal is open on one of the CPUs that have the cyclic, in their order: its own too
abbrev pub busy_on_each : {R : Type 0} → ℕ → SystemView R → List (Option Refusal)
busy_on_each id s = map (λ n. busy (removal_on n s.cpus)) (cpus_with id s.cpus)

-- the beginning of a removal, with the reasons for which it is refused
abbrev pub BeginsRemoval : {R : Type 0} → Raise R
    → ℕ → Result SystemRemoval Refusal → SystemView R → SystemView R → Type 0
BeginsRemoval firing id answer s t =
    Unless (unknown_cyclic id s ∷ busy_on_each id s) (λ e. Err e) answer s t (Removes firing id answer s t)
