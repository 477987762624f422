-- The cyclics of one CPU, as a fire sees them.
use Rattle.std.specs.Prelude.{◌≡◌, ℕ, ◌<◌, ◌≤◌, List, [], ◌∷◌, length, min, slice_index_or}
use Rattle.cyc_types.specs.Series.{never}
use Rattle.cyc_types.specs.declared.level.Level.{Level}

-- a cyclic of a CPU: its level, the interval of its series, its next expiration, and how often it has expired (`cyclic_t`)
pub record Timer : Type 0 where
  pub id : ℕ
  pub level : Level
  pub interval : ℕ
  pub moment : ℕ
  pub expired : ℕ

-- no two cyclics have one id
abbrev pub HasDistinctIds : List Timer → Type 0
HasDistinctIds ts = (i j : ℕ) (d : Timer) → i < length ts → j < length ts
    → (slice_index_or ts i d).id ≡ (slice_index_or ts j d).id → i ≡ j

-- a cyclic's moment is a moment, and its interval an interval
pub record IsSoundTimer (t : Timer) : Type 0 where
  pub moment : t.moment ≤ never
  pub some : 0 < t.interval
  pub most : t.interval ≤ never

-- the least moment of the cyclics, never where there is none (what `cyclic_fire` gives to `cyb_reprogram`)
abbrev pub earliest : List Timer → ℕ
earliest [] = never
earliest (t ∷ ts) = min t.moment (earliest ts)
