-- What `books` and `place` show of a level.
use Rattle.std.specs.Prelude.{◌≡◌, ℕ, ◌<◌, if◌then◌else◌, Option, Some, Bool}
use Rattle.std.specs.Option.{option_map}
use Rattle.cyc_level.specs.Level.{AdmittedCyclic, SoftLevel, times_in}
use Rattle.cyc_core.specs.declared.books.Books.{Books}
use Rattle.cyc_core.specs.declared.books.Place.{Place}
use Rattle.cyc_core.specs.declared.books.Place.TheVariants.{FirerHand, OldBank, NewBank, DrainerHand}
use Rattle.cyc_core.specs.DrainingSide.{is_marked}

-- the outstanding calls are pending, or kept where the cyclic is marked
abbrev pub books_in : Bool → AdmittedCyclic → Books
books_in marked c = record {
  sent = c.sent;
  done = c.done;
  pending = (if marked then 0 else c.count);
  kept =
      (if marked then c.count else 0);
  lost = c.lost;
}

-- the books of an admitted id
abbrev pub books_of : SoftLevel → ℕ → Option Books
books_of l id = option_map (books_in (is_marked l.marked id)) (l.cyclics id)

-- the id stands at this place
abbrev pub StandsAt : SoftLevel → ℕ → Place → Type 0
StandsAt l id FirerHand = l.firer_hand ≡ Some id
StandsAt l id OldBank = 0 < times_in id l.old_list
StandsAt l id NewBank = 0 < times_in id l.new_list
StandsAt l id DrainerHand = l.drainer_hand ≡ Some id
