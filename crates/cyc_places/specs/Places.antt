-- What a system keeps of its cyclics beside what its CPUs have of them.
use Rattle.std.specs.Prelude.{Bool, true, false, length, sum_by, ◌≤◌, ◌≡◌, ◌≢◌, ℕ, ◌+◌, ◌<◌, List, All, replicate, slice_set}
use Rattle.std.specs.Prelude.{slice_index_or, Some}
use Rattle.std.specs.List.{slice_get}
use Rattle.cyc_types.specs.Limits.{most_cpus}
use Rattle.cyc_types.specs.declared.firing.Sent.{Sent}
use Rattle.cyc_types.specs.declared.level.Level.{Level}
use Rattle.cyc_types.specs.declared.receipt.Receipt.{Receipt}
use Rattle.cyc_types.specs.Counting.{no_counts}
use Rattle.cyc_places.specs.declared.record.Placement.TheVariants.{On, Everywhere}
use Rattle.cyc_places.specs.declared.record.Placement.{Placement}
use Rattle.cyc_places.specs.declared.record.Record.{Record}

-- the records by rising ids, and the number for which memory was taken
pub record RecordsView : Type 0 where
  pub list : List Record
  pub room : ℕ

-- the record at a position
abbrev pub IsRecord : List Record → ℕ → Record → Type 0
IsRecord rs k r = slice_get rs k ≡ Some r

-- no record has this id
abbrev pub HasNoRecord : ℕ → List Record → Type 0
HasNoRecord id rs = All (λ r. r.id ≢ id) rs

-- the ids of the records rise
abbrev pub HasRisingIds : List Record → Type 0
HasRisingIds rs = (i j : ℕ) (r s : Record) → i < j → IsRecord rs i r → IsRecord rs j s → r.id < s.id

-- in each of these counts no more is lost than was sent
abbrev pub AreCounts : List Sent → Type 0
AreCounts counts = All (λ s. s.lost ≤ s.sent) counts

abbrev pub HaveCounts : List Record → Type 0
HaveCounts rs = (k : ℕ) (r : Record) → IsRecord rs k r → AreCounts r.ended

-- each record has the counts of as many CPUs as a system can have
abbrev pub HaveAllCounts : List Record → Type 0
HaveAllCounts rs = (k : ℕ) (r : Record) → IsRecord rs k r → length r.ended ≡ most_cpus

-- the cyclic has a component on each online CPU
abbrev pub is_everywhere : Placement → Bool
is_everywhere (On n bound) = false
is_everywhere (Everywhere first skew) = true

-- the counts of all stays, which have ended
pub record IsReceiptOf (receipt : Receipt) (r : Record) : Type 0 where
  pub id : receipt.id ≡ r.id
  pub sent : receipt.sent ≡ sum_by (λ s. s.sent) r.ended
  pub lost : receipt.lost ≡ sum_by (λ s. s.lost) r.ended

-- the counts of two stays together
abbrev pub summed : Sent → Sent → Sent
summed a b = record { sent = a.sent + b.sent; lost = a.lost + b.lost }

-- the record of an id that was just given
abbrev pub new_record : ℕ → Level → Placement → Record
new_record id level placement = record { id = id; level = level; placement = placement; ended = replicate most_cpus no_counts }

-- the record of a cyclic that is now there
abbrev pub with_placement : Placement → Record → Record
with_placement placement r = record r { placement = placement }

-- what the stays that have ended on a CPU left
abbrev pub ended_on : ℕ → Record → Sent
ended_on n r = slice_index_or r.ended n no_counts

-- the record with other counts of a CPU's ended stays
abbrev pub with_ended : ℕ → Sent → Record → Record
with_ended n counts r = record r { ended = slice_set r.ended n counts }
