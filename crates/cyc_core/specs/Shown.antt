-- What the fields of a `LevelCore` show, and what holds of them at all times.
use Rattle.std.specs.Prelude.{◌≡◌, ◌↔◌, ℕ, ◌+◌, ◌-◌, ◌/◌, ◌%◌, ◌<◌, ◌≤◌, ◌==◌, ◌&&◌, if◌then◌else◌, Bool, false}
use Rattle.std.specs.Prelude.{Option, Some, List, map, length, slice_index_or, vec_capacity}
use Rattle.std.specs.Bool.{then_some}
use Rattle.std.specs.VecDeque.{deque_capacity}
use Rattle.cyc_types.specs.Limits.{cyclics, last_id}
use Rattle.cyc_finder.specs.Sorted.{Rises}
use Rattle.cyc_finder.specs.Indexes as finder
use Rattle.cyc_finder.specs.Indexes.{Entry, index_of}
use Rattle.cyc_level.specs.Level.{times_in}
use Rattle.cyc_core.specs.Tables.{Tables, level_of}
use Rattle.cyc_core.specs.Reached.{LevelIsReached}
use Rattle.cyc_core.specs.declared.admitted.Admitted.{Admitted}
use Rattle.cyc_core.specs.declared.admitted.Kept.{Kept}
use Rattle.cyc_core.specs.declared.level_core.LevelCore.TheInside.{Inside}

-- what is read at a position to which no cyclic was admitted yet
abbrev pub nothing_kept : Kept
nothing_kept = record { id = last_id; sent = 0; lost = 0; count = 0; index = 0; here = false }

-- the id of the cyclic that is admitted, where one is
abbrev pub kept_id : Kept → Option ℕ
kept_id k = then_some k.here k.id

-- whether a cyclic of this index is admitted
abbrev pub has_index : ℕ → Kept → Bool
has_index index k = k.here && (k.index == index)

-- the cyclic of this id with what is kept of it: what is neither outstanding nor lost of its expirations is done
abbrev pub read_as : ℕ → ℕ → Kept → Admitted
read_as id position k = record {
  id = id;
  index = k.index;
  position = position;
  sent = k.sent;
  done = k.sent - k.count - k.lost;
  lost = k.lost;
  count =
      k.count;
}

-- each id that the finder names, with what is kept at its position
abbrev pub table_of : List Kept → List Entry → List Admitted
table_of kept entries = map (λ e. read_as e.id e.index (slice_index_or kept e.index nothing_kept)) entries

abbrev pub shown_core : Inside → Tables
shown_core a = record {
  ceiling = a.ceiling;
  hard_bank = a.hard_bank;
  soft_bank = a.soft_bank;
  table = table_of a.kept.items a.ids.entries;
  marked =
      a.marked;
  firer_hand = a.firer_hand;
  old_list = a.old_list.items;
  new_list = a.new_list.items;
  drainer_hand = a.drainer_hand;
}

-- where the hint of an id stands, among as many as there may be cyclics
abbrev pub level_hint : ℕ → ℕ
level_hint id = (id + id / cyclics) % cyclics

-- the ids rise, and a cyclic is kept at a position exactly where the finder names this for its id
pub record AreKept (kept : List Kept) (entries : List Entry) : Type 0 where
  pub ordered : Rises finder.id_in entries
  pub named : (id position : ℕ) → (kept_id (slice_index_or kept position nothing_kept) ≡ Some id)
      ↔ (index_of id entries ≡ Some position)

-- each position at which no cyclic is kept is listed once, and no other is
pub record FreePositions (kept : List Kept) (free : List ℕ) : Type 0 where
  pub low : (p : ℕ) → 0 < times_in p free → p < length kept
  pub once : (p : ℕ) → p < length kept → times_in p free ≡ (if (slice_index_or kept p nothing_kept).here then 0 else 1)
  pub few : length kept ≤ cyclics

-- the level is reached by enabled events, each cyclic is kept at its position, and all memory and all hints are there
pub record IsSoundCore (a : Inside) : Type 0 where
  pub reached : LevelIsReached (level_of (shown_core a))
  pub cyclics_kept : AreKept a.kept.items a.ids.entries
  pub positions_free : FreePositions a.kept.items a.free.items
  pub some_ceiling : 0 < a.ceiling
  pub kept_room : cyclics ≤ vec_capacity a.kept
  pub free_room : cyclics ≤ vec_capacity a.free
  pub ids_room : cyclics ≤ a.ids.room
  pub old_room : cyclics ≤ deque_capacity a.old_list
  pub new_room : cyclics ≤ deque_capacity a.new_list
  pub hints_long : length a.hints.items ≡ cyclics
