-- The handlers of a program in C, as the calls that it has said to have made.
use Rattle.std.specs.Prelude.{◌≡◌, ◌≢◌, ℕ, [], ◌∷◌}
use Rattle.cyc_types.specs.Counting.{times}
use Rattle.cyc_types.specs.declared.Calls.{Ghosts as Calls}
use Rattle.cyc_types.specs.declared.level.Level.{Level}
use Rattle.cyc_border.specs.declared.granted.Granted.{Granted}
use Rattle.cyc_border.specs.declared.granted.Granted.TheVariants.{Nothing, One, Counted}

-- the calls of an id that were counted
abbrev pub granted_count : Granted → ℕ → ℕ
granted_count Nothing q = 0
granted_count (One id) q = 0
granted_count (Counted id) q = times q (id ∷ [])

-- the call that was granted is counted; its level is the caller's business
abbrev pub granted_called : Granted → ℕ → Level → Granted → Type 0
granted_called g id level h = (g ≡ One id) × (h ≡ Counted id)

-- every other call is refused
abbrev pub GrantedRefuses : Granted → ℕ → Type 0
GrantedRefuses g id = g ≢ One id

-- what these handlers do: the members of their `Calls`
abbrev pub granted_calls : Calls Granted
granted_calls = record { count = granted_count; called = granted_called; may_refuse = GrantedRefuses }
