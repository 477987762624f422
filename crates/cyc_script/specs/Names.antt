-- The names that a script's steps introduce, and their numbers (our own format).
use Rattle.std.specs.Prelude.{◌≡◌, ℕ, ◌<◌, List, [], ◌∷◌, ◌++◌, length, get_or, All, true, Option, Some, is_some, ok_or, position}
use Rattle.std.specs.Prelude.{Result, Ok, Err, bytes_eq, if◌then◌else◌}
use Rattle.std.specs.List.{AllPairs}
use Rattle.cyc_script.specs.declared.cause.Cause.{Cause}
use Rattle.cyc_script.specs.declared.cause.Cause.TheVariants.{NameTwice, NoName}
use Rattle.cyc_script.specs.Parameters.{is_name}

-- the number of a name, if it was introduced: its position in the order of introduction
abbrev pub number_of_name : List ℕ → List (List ℕ) → Option ℕ
number_of_name text names = position (bytes_eq text) names

-- the number of a new name, and the names with it
abbrev pub introduced : List ℕ → List (List ℕ) → Result (ℕ × List (List ℕ)) Cause
introduced text names = if is_some (number_of_name text names) then Err NameTwice else Ok (length names, names ++ text ∷ [])

-- the number of a name that was introduced before
abbrev pub referred : List ℕ → List (List ℕ) → Result ℕ Cause
referred text names = ok_or (number_of_name text names) NoName

-- each name has its own position as its number, so no two are equal
abbrev pub IsNumbered : List (List ℕ) → Type 0
IsNumbered names = (i : ℕ) → i < length names → number_of_name (get_or names i []) names ≡ Some i

-- the names of a script: each has 1 to 32 bytes of those that a name may have, and no two are equal
pub record AreNames (names : List (List ℕ)) : Type 0 where
  pub valid : All (λ text. is_name text ≡ true) names
  pub distinct : AllPairs (λ earlier later. ¬ (earlier ≡ later)) names
