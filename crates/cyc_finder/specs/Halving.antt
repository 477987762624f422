-- A run of things by rising id to which a look-up has come.
use Rattle.std.specs.Prelude.{ℕ, ◌+◌, ◌<◌, ◌≤◌, List, length, slice_index_or}

-- the thing of the id stands in this run, which has one thing at least, if it stands anywhere (our own rule)
pub record IsIn {T : Type 0} (id_of : T → ℕ) (things : List T) (id base size : ℕ) : Type 0 where
  pub filled : 0 < size
  pub in_range : base + size ≤ length things
  pub smaller_before : (j : ℕ) (d : T) → j < base → id_of (slice_index_or things j d) < id
  pub greater_after : (j : ℕ) (d : T) → base + size ≤ j → j < length things → id < id_of (slice_index_or things j d)

-- the thing at this position has at most the id
abbrev pub IsUpTo : {T : Type 0} → (T → ℕ) → List T → ℕ → ℕ → Type 0
IsUpTo {T} id_of things id position = (d : T) → id_of (slice_index_or things position d) ≤ id

-- the thing at this position has a greater id
abbrev pub IsAbove : {T : Type 0} → (T → ℕ) → List T → ℕ → ℕ → Type 0
IsAbove {T} id_of things id position = (d : T) → id < id_of (slice_index_or things position d)
