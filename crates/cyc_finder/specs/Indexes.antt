-- The map from ids to indexes, as its entries by rising id.
use Rattle.std.specs.Prelude.{◌≡◌, ℕ, ◌+◌, ◌/◌, ◌%◌, ◌<◌, ◌≤◌, eqb, cond, Option, Some, List, [], ◌∷◌}
use Rattle.std.specs.Option.{option_map}
use Rattle.cyc_finder.specs.Sorted.{look_up}

-- an id with its index: on its CPU (`cyp_heap` of sys/cyclic_impl.h holds indexes), or at its level
pub record Entry : Type 0 where
  pub id : ℕ
  pub index : ℕ

-- what callers see of a finder: its entries by rising id, and the number of cyclics for which memory was taken
pub record FinderView : Type 0 where
  pub entries : List Entry
  pub room : ℕ

-- the finder at first: no id has an index
abbrev pub new_finder : FinderView
new_finder = record { entries = []; room = 1 }

-- the id of an entry
abbrev pub id_in : Entry → ℕ
id_in entry = entry.id

abbrev pub index_in : Entry → ℕ
index_in entry = entry.index

-- the index of the id
abbrev pub index_of : ℕ → List Entry → Option ℕ
index_of id entries = option_map index_in (look_up id_in id entries)

-- some id has the index
abbrev pub IsIndexed : ℕ → List Entry → Type 0
IsIndexed index entries = (id : ℕ) × (index_of id entries ≡ Some index)

-- how often the number stands in the list
abbrev pub stands_in : ℕ → List ℕ → ℕ
stands_in n [] = 0
stands_in n (x ∷ xs) = cond (eqb n x) 1 0 + stands_in n xs

-- no number stands twice, and each is below the limit
abbrev pub AreDistinct : ℕ → List ℕ → Type 0
AreDistinct limit xs = (n : ℕ) → (stands_in n xs ≤ 1) × (0 < stands_in n xs → n < limit)

-- how many hints there are (our own rule)
abbrev pub hints : ℕ
hints = 256

-- where the hint of an id stands: so many ids in a row mostly have each their own, and so have as many that are 16 apart, as
-- those of one of 16 CPUs are that get new cyclics in turn (our own rule)
unfoldable pub hint_at : ℕ → ℕ
hint_at id = (id + id / hints) % hints
