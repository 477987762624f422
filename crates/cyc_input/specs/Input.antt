-- What a reading of a whole input does to the bytes that the reader has left, where those are known. Our own rule.
use Rattle.std.specs.Prelude.{◌≡◌, ◌<◌, ◌≤◌, ◌⊎◌, ◌++◌, ℕ, List, length, Bool, true, false, Option, Result, Ok, Err}
use Rattle.std.specs.Io.KnownBytes.{Consumes, IsAtEnd}
use Rattle.cyc_input.specs.declared.fault.InputFault.{InputFault}
use Rattle.cyc_input.specs.declared.fault.InputFault.TheVariants.{Memory, Read}

-- the most bytes that are read: one more than a script may have
abbrev pub most_input_bytes : ℕ
most_input_bytes = 16777217

-- it stopped with the most bytes, or with fewer at the reader's end
abbrev pub IsComplete : Option (List ℕ) → List ℕ → Type 0
IsComplete rest bytes = (length bytes ≡ most_input_bytes) ⊎ ((length bytes < most_input_bytes) × IsAtEnd rest)

-- the reader lost some bytes from the front, at most so many
abbrev pub LosesAtMost : ℕ → Option (List ℕ) → Option (List ℕ) → Type 0
LosesAtMost most old new = (bytes : List ℕ) × (length bytes ≤ most) × Consumes old new bytes

-- a turn put the bytes that it gave behind those before; true where the reader was at its end
abbrev pub GrowsBy : Option (List ℕ) → Option (List ℕ) → List ℕ → List ℕ → Result Bool InputFault → Type 0
GrowsBy old new before after (Ok ended) =
    (given : List ℕ) × (after ≡ before ++ given) × (length after ≤ most_input_bytes) × Consumes old new given
    × (ended ≡ true → IsAtEnd new)
GrowsBy old new before after (Err e) = (given : List ℕ) × (length (before ++ given) ≤ most_input_bytes) × Consumes old new given

-- whether a reading stopped because the reader was not read
abbrev pub is_read_fault : {A : Type 0} → Result A InputFault → Bool
is_read_fault (Ok x) = false
is_read_fault (Err Memory) = false
is_read_fault (Err Read) = true
