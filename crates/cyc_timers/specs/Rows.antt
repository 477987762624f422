-- The cyclics of one CPU in the order of their ids, with the index and the counts of each.
use Rattle.std.specs.Prelude.{◌≡◌, ◌≢◌, ℕ, ◌<◌, ◌≤◌, List, [], map, length, count_by, slice_index_or, All, true, Option, Some}
use Rattle.std.specs.Prelude.{None, is_some}
use Rattle.cyc_types.specs.Series.{never}
use Rattle.cyc_types.specs.declared.firing.Sent.{Sent}
use Rattle.cyc_types.specs.declared.level.Level.TheVariants.{Low}
use Rattle.cyc_types.specs.Expirations.{Expiration, is_before, next_of}
use Rattle.cyc_types.specs.Timers.{Timer}
use Rattle.cyc_types.specs.Counting.{no_counts}
use Rattle.cyc_finder.specs.Indexes.{Entry, id_in}
pub use Rattle.cyc_finder.specs.Sorted.{Rises, IsAt, IsPassed, ComesAfter, IsNextAfter}
use Rattle.cyc_timers.specs.declared.table.Record.{Record}

-- a cyclic with its index
pub record Row : Type 0 where
  pub timer : Timer
  pub lost : ℕ
  pub carried : Sent
  pub index : ℕ

-- a cyclic, those of its expirations that were lost at the ceiling, and the counts that it carried in from another CPU
pub record Cyclic : Type 0 where
  pub timer : Timer
  pub lost : ℕ
  pub carried : Sent

-- the timers of these cyclics
abbrev pub timers : List Cyclic → List Timer
timers cs = map (λ c. c.timer) cs

-- a row without its index
abbrev pub cyclic_of : Row → Cyclic
cyclic_of r = record { timer = r.timer; lost = r.lost; carried = r.carried }

-- the cyclics of the rows
abbrev pub cyclics_of : List Row → List Cyclic
cyclics_of rows = map cyclic_of rows

-- the timers of the rows
abbrev pub timers_of : List Row → List Timer
timers_of rows = timers (cyclics_of rows)

-- what callers see of a table: its rows by rising ids, the number of indexes, and the number for which memory was taken
pub record TableView : Type 0 where
  pub rows : List Row
  -- the index whose cyclic expires first
  pub root : Option ℕ
  pub size : ℕ
  pub room : ℕ

-- what is read where there is no record
abbrev pub no_record : Record
no_record = record { level = Low; interval = 1; expired = 0; lost = 0; carried = no_counts }

-- the moment of an expiration, where there is one
abbrev pub moment_in : Option Expiration → ℕ
moment_in None = never
moment_in (Some e) = e.moment

-- what the heap and the record of an index are together, for the cyclic of this id
abbrev pub joined : ℕ → ℕ → Option Expiration → Record → Row
joined id index e r = record {
  timer = record {
    id = id;
    level = r.level;
    interval = r.interval;
    moment = moment_in e;
    expired =
        r.expired;
  };
  lost = r.lost;
  carried = r.carried;
  index = index;
}

-- the table at first: no cyclic, and one index
abbrev pub new_table : TableView
new_table = record { rows = []; root = None; size = 1; room = 1 }

-- the row at a position
abbrev pub IsRow : List Row → ℕ → Row → Type 0
IsRow rows k r = (k < length rows) × (slice_index_or rows k r ≡ r)

-- no row has this id
abbrev pub HasNo : ℕ → List Row → Type 0
HasNo id rows = All (λ r. r.timer.id ≢ id) rows

-- the row with another moment and the counts of this record
abbrev pub with_record : ℕ → Record → Row → Row
with_record m rec r = record {
  timer = record {
    id = r.timer.id;
    level = rec.level;
    interval = rec.interval;
    moment = m;
    expired =
        rec.expired;
  };
  lost = rec.lost;
  carried = rec.carried;
  index = r.index;
}

-- the row with another moment and these counts
abbrev pub with_counts : ℕ → ℕ → ℕ → Row → Row
with_counts m expired lost r = record r { timer = record r.timer { moment = m; expired = expired }; lost = lost }

-- the row with another moment
abbrev pub at_moment : ℕ → Row → Row
at_moment m r = record r { timer = record r.timer { moment = m } }

-- the row of an id and an index before anything is known of it
abbrev pub vacant_row : ℕ → ℕ → Row
vacant_row id index = joined id index None no_record

-- no two rows have one index
abbrev pub HasDistinctIndexes : List Row → Type 0
HasDistinctIndexes rows = (i j : ℕ) (d : Row) → i < length rows → j < length rows
    → (slice_index_or rows i d).index ≡ (slice_index_or rows j d).index → i ≡ j

-- what is kept of the row beside its id, index and moment
abbrev pub IsRecordOf : Record → Row → Type 0
IsRecordOf rec r = (rec.level ≡ r.timer.level) × (rec.interval ≡ r.timer.interval) × (rec.expired ≡ r.timer.expired)
    × (rec.lost ≡ r.lost) × (rec.carried ≡ r.carried)

-- the row at this position expires no later than any
abbrev pub IsFirstAt : List Row → ℕ → Type 0
IsFirstAt rows i = (k : ℕ) (d : Timer) → k < length (timers_of rows)
    → is_before (next_of (slice_index_or (timers_of rows) i d)) (next_of (slice_index_or (timers_of rows) k d)) ≡ true

-- the row of an entry
abbrev pub row_of : List (Option Expiration) → List Record → Entry → Row
row_of slots records p = joined p.id p.index (slice_index_or slots p.index None) (slice_index_or records p.index no_record)

-- the rows by rising ids
abbrev pub rows_of : List (Option Expiration) → List Record → List Entry → List Row
rows_of slots records entries = map (row_of slots records) entries

-- the ids of the rows rise
abbrev pub IsRising : List Row → Type 0
IsRising rows = Rises (λ r. r.timer.id) rows

-- entries, records and heap speak of the same cyclics
pub record IsTable (slots : List (Option Expiration)) (records : List Record) (entries : List Entry) : Type 0 where
  pub rising : Rises id_in entries
  -- each entry names an index that has the cyclic's expiration
  pub named : (k : ℕ) (d : Entry) → k < length entries → (m : ℕ)
      × (slice_index_or slots (slice_index_or entries k d).index None
      ≡ Some (record { moment = m; id = (slice_index_or entries k d).id }))
  -- each index in use has its entry
  pub covered : (i : ℕ) (e : Expiration) → slice_index_or slots i None ≡ Some e → (k : ℕ) × (k < length entries)
      × ((d : Entry) → (slice_index_or entries k d).index ≡ i)
  pub long : length records ≡ length slots
  pub len : count_by is_some slots ≡ length entries
  pub moments : (i : ℕ) (e : Expiration) → slice_index_or slots i None ≡ Some e → e.moment ≤ never
  pub intervals : (i : ℕ) (d : Record) → i < length records → (0 < (slice_index_or records i d).interval)
      × ((slice_index_or records i d).interval ≤ never)
