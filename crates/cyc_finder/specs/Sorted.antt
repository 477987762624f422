-- Things by rising id, and where an id stands among them.
use Rattle.std.specs.Prelude.{◌≡◌, ℕ, ◌<◌, ◌≤◌, ◌==◌, ⊤, Option, Some, None, List, length, find, slice_index_or}

-- the thing of an id: the finite map that such a list stands for
abbrev pub look_up : {T : Type 0} → (T → ℕ) → ℕ → List T → Option T
look_up id_of id things = find (λ thing. id_of thing == id) things

-- each id is above the one before it
abbrev pub Rises : {T : Type 0} → (T → ℕ) → List T → Type 0
Rises {T} id_of things = (i j : ℕ) (d : T) → i < j → j < length things
    → id_of (slice_index_or things i d) < id_of (slice_index_or things j d)

-- the thing of the id stands at this position
pub record IsAt {T : Type 0} (id_of : T → ℕ) (things : List T) (id position : ℕ) : Type 0 where
  pub in_range : position < length things
  pub has_id : (d : T) → id_of (slice_index_or things position d) ≡ id

-- nothing has the id, and it would stand at this position
pub record IsGap {T : Type 0} (id_of : T → ℕ) (things : List T) (id position : ℕ) : Type 0 where
  pub in_range : position ≤ length things
  pub smaller_before : (j : ℕ) (d : T) → j < position → id_of (slice_index_or things j d) < id
  pub greater_after : (j : ℕ) (d : T) → position ≤ j → j < length things → id < id_of (slice_index_or things j d)

-- a walk by rising id, which has come to one id or to none yet, has passed this id
abbrev pub IsPassed : Option ℕ → ℕ → Type 0
IsPassed None id = ⊥
IsPassed (Some passed) id = id ≤ passed

-- the walk comes to this id later
abbrev pub ComesAfter : Option ℕ → ℕ → Type 0
ComesAfter None id = ⊤
ComesAfter (Some passed) id = passed < id

-- the walk comes to the thing at this position next
pub record IsNextAfter {T : Type 0} (id_of : T → ℕ) (things : List T) (passed : Option ℕ) (position : ℕ) : Type 0 where
  pub in_range : position < length things
  pub passed_before : (j : ℕ) (d : T) → j < position → IsPassed passed (id_of (slice_index_or things j d))
  pub after_from : (j : ℕ) (d : T) → position ≤ j → j < length things → ComesAfter passed (id_of (slice_index_or things j d))
