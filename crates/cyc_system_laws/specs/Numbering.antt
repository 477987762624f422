-- The ids that calls give.
use Rattle.std.specs.Prelude.{ℕ, ◌<◌, ◌≤◌, List, [], ◌∷◌, ◌++◌, Ok}
use Rattle.cyc_system.specs.Calls.{SystemCall, Add, AddOmni}

-- the id that a call gives, if any
abbrev pub id_given_by : SystemCall → List ℕ
id_given_by (Add level when now (Ok id)) = id ∷ []
id_given_by (AddOmni level when skew now (Ok id)) = id ∷ []
id_given_by call = []

-- those that the calls of a run give, in order
abbrev pub ids_given : List SystemCall → List ℕ
ids_given [] = []
ids_given (call ∷ way) = id_given_by call ++ ids_given way

-- each of these ids is above the one before it, the first of them above `before`, and none is above `after`
abbrev pub Rise : ℕ → List ℕ → ℕ → Type 0
Rise before [] after = before ≤ after
Rise before (id ∷ ids) after = (before < id) × Rise id ids after
