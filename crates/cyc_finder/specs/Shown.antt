-- What holds of the fields of a `Finder` at all times.
use Rattle.std.specs.Prelude.{◌*◌, ◌≤◌, map, vec_capacity}
use Rattle.cyc_finder.specs.Sorted.{Rises}
use Rattle.cyc_finder.specs.Indexes.{index_in, AreDistinct}
use Rattle.cyc_finder.specs.Slots.{slot_id, entries_of, IsFirst}
use Rattle.cyc_finder.specs.declared.finder.Finder.TheInside.{Inside}

-- the ids rise, no index stands twice, as many can be gone as can be here, and the first that is here is known
pub record IsFinder (f : Inside) : Type 0 where
  pub rises : Rises slot_id f.slots.items
  pub distinct : AreDistinct f.room (map index_in (entries_of f.slots.items))
  pub room : 2 * f.room ≤ vec_capacity f.slots
  pub first : IsFirst f.slots.items f.first
