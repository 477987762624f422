-- What a write of a text does to the bytes that a sink holds, where those are known.
use Rattle.std.specs.Prelude.{◌≡◌, ℕ, List, ◌++◌, Option, Result, Ok, Err}
use Rattle.std.specs.Io.KnownBytes.{Appends}

-- known bytes grow by a prefix of the text
abbrev pub AppendsPrefix : Option (List ℕ) → Option (List ℕ) → List ℕ → Type 0
AppendsPrefix old new text = (prefix : List ℕ) × (rest : List ℕ) × (text ≡ prefix ++ rest) × Appends old new prefix

-- the whole text at Ok, and a prefix of it at an error
abbrev pub Puts : {A E : Type 0} → Option (List ℕ) → Option (List ℕ) → Result A E → List ℕ → Type 0
Puts old new (Ok x) text = Appends old new text
Puts old new (Err e) text = AppendsPrefix old new text
