-- What a `LevelCore` keeps, as data, and the level that it shows.
use Rattle.std.specs.Prelude.{ℕ, Option, List}
use Rattle.std.specs.Option.{option_map}
use Rattle.cyc_finder.specs.Sorted.{look_up}
use Rattle.cyc_level.specs.Level.{AdmittedCyclic, Cyclics, SoftLevel}
use Rattle.cyc_core.specs.declared.admitted.Admitted.{Admitted}

-- the level's state, with its admitted cyclics in a table
pub record Tables : Type 0 where
  pub ceiling : ℕ
  pub hard_bank : ℕ
  pub soft_bank : ℕ
  pub table : List Admitted
  pub marked : Option ℕ
  pub firer_hand : Option ℕ
  pub old_list : List ℕ
  pub new_list : List ℕ
  pub drainer_hand : Option ℕ

-- the id of an entry, which rises along the table
abbrev pub id_of_entry : Admitted → ℕ
id_of_entry entry = entry.id

-- the entry of an id
abbrev pub lookup : ℕ → List Admitted → Option Admitted
lookup id table = look_up id_of_entry id table

-- the cyclic that an entry stands for
abbrev pub cyclic_of_entry : Admitted → AdmittedCyclic
cyclic_of_entry entry = record {
  index = entry.index;
  sent = entry.sent;
  done = entry.done;
  lost = entry.lost;
  count =
      entry.count;
}

-- the finite map that a table stands for
abbrev pub cyclics_of_table : List Admitted → Cyclics
cyclics_of_table table = λ id. option_map cyclic_of_entry (lookup id table)

-- the level that the tables show
abbrev pub level_of : Tables → SoftLevel
level_of t = record {
  ceiling = t.ceiling;
  hard_bank = t.hard_bank;
  soft_bank = t.soft_bank;
  cyclics =
      cyclics_of_table t.table;
  marked = t.marked;
  firer_hand = t.firer_hand;
  old_list = t.old_list;
  new_list = t.new_list;
  drainer_hand =
      t.drainer_hand;
}
