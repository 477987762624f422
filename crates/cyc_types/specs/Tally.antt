-- What a tally counts, and how a call changes it.
use Rattle.std.specs.Prelude.{◌≡◌, ℕ, ◌+◌, ◌-◌, ◌<◌, ◌≤◌, List, Option, None, cond, nat_lt, slice_get, slice_set, slice_index}
use Rattle.std.specs.Prelude.{length, replicate, ◌⊎◌}
use Rattle.cyc_types.specs.declared.level.Level.{Level}

-- the counts of the ids from the first on
pub record TallyView : Type 0 where
  pub first : ℕ
  pub most : ℕ
  pub counts : List ℕ

abbrev pub tally_made : ℕ → ℕ → ℕ → TallyView
tally_made first len most = record { first = first; most = most; counts = replicate len 0 }

-- the count of an id, if it is in the range
abbrev pub tally_get : TallyView → ℕ → Option ℕ
tally_get t id = cond (nat_lt id t.first) None (slice_get t.counts (id - t.first))

-- the count of an id, 0 out of the range
abbrev pub tally_count : TallyView → ℕ → ℕ
tally_count t id = cond (nat_lt id t.first) 0 (slice_index t.counts (id - t.first))

-- the id is out of range, or its count is the greatest
abbrev pub TallyRefuses : TallyView → ℕ → Type 0
TallyRefuses t id = (id < t.first) ⊎ (length t.counts ≤ id - t.first) ⊎ (t.most ≤ tally_count t id)

-- the count of the id is one more
abbrev pub tally_counted : TallyView → ℕ → TallyView → Type 0
tally_counted t id u = u ≡ record t { counts = slice_set t.counts (id - t.first) (slice_index t.counts (id - t.first) + 1) }

-- a call counts the same at each level
abbrev pub tally_called : TallyView → ℕ → Level → TallyView → Type 0
tally_called t id level u = tally_counted t id u
