-- What callers see of a heap of expirations.
use Rattle.std.specs.Prelude.{◌≡◌, ℕ, true, List, [], ◌∷◌, length, count_by, slice_index_or, slice_set, Option, Some, None}
use Rattle.std.specs.Prelude.{is_some, option_map}
use Rattle.cyc_types.specs.Expirations.{Expiration, is_before}

-- for each index below the size the expiration of its cyclic, none where the index is free;
-- the index with the least expiration; and the size up to which no call takes memory
pub record HeapView : Type 0 where
  pub slots : List (Option Expiration)
  pub root : Option ℕ
  pub room : ℕ

-- the heap at first: one index, which is free
abbrev pub new_heap : HeapView
new_heap = record { slots = None ∷ []; root = None; room = 1 }

-- the number of indexes (`cyp_size` of sys/cyclic_impl.h)
abbrev pub size_of : HeapView → ℕ
size_of heap = length heap.slots

-- the number of indexes in use (`cyp_nelems` of sys/cyclic_impl.h)
abbrev pub used_count : HeapView → ℕ
used_count heap = count_by is_some heap.slots

-- the expiration of an index, none where the index is free or not below the size
abbrev pub expiration_at : HeapView → ℕ → Option Expiration
expiration_at heap i = slice_index_or heap.slots i None

-- the same cyclic's expiration at another moment
abbrev pub expiration_moved : ℕ → Expiration → Expiration
expiration_moved m e = record e { moment = m }

-- the slots with another moment for this index
abbrev pub slots_moved : List (Option Expiration) → ℕ → ℕ → List (Option Expiration)
slots_moved slots i m = slice_set slots i (option_map (expiration_moved m) (slice_index_or slots i None))

-- an expiration as its moment and its id
abbrev pub pair_of : Expiration → ℕ × ℕ
pair_of e = (e.moment, e.id)

-- the index is of the cyclic of this id
abbrev pub IsOf : HeapView → ℕ → ℕ → Type 0
IsOf heap id i = (e : Expiration) × (expiration_at heap i ≡ Some e) × (e.id ≡ id)

-- no index is in use
abbrev pub IsEmptyHeap : HeapView → Type 0
IsEmptyHeap heap = (i : ℕ) → expiration_at heap i ≡ None

-- the index has this expiration, and no index has one that comes before it
pub record IsLeast (heap : HeapView) (i : ℕ) (e : Expiration) : Type 0 where
  pub holds : expiration_at heap i ≡ Some e
  pub least : (k : ℕ) (other : Expiration) → expiration_at heap k ≡ Some other → is_before e other ≡ true
