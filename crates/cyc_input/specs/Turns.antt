-- The turns of a reading. Our own rule.
use Rattle.std.specs.Prelude.{◌≡◌, ◌<◌, ◌≤◌, ℕ, ◌+◌, min, List, length, take, Option, Result, Ok, Err}
use Rattle.std.specs.Io.KnownBytes.{Consumes, IsAtEnd, Keeps}
use Rattle.cyc_input.specs.declared.bounded.Turn.{Turn}
use Rattle.cyc_input.specs.declared.bounded.Turn.TheVariants.{Bytes, Interrupted}

-- the most turns of a reading: 2^25
abbrev pub most_turns : ℕ
most_turns = 33554432

-- the turns taken, one read later: none is taken past the last
abbrev pub turn_after : ℕ → ℕ
turn_after turns = min (turns + 1) most_turns

-- the bytes of a turn stand within the buffer; the second part follows from the first, and spares proofs
abbrev pub IsWithin : {E : Type 0} → Result Turn E → List ℕ → Type 0
IsWithin (Ok (Bytes n)) buffer = (n ≤ length buffer) × (n ≡ length (take n buffer))
IsWithin (Ok Interrupted) buffer = Unit {0}
IsWithin (Err e) buffer = Unit {0}

-- a turn gave the reader's next bytes, none only at its end or with no room; an interrupted or failed one left them all
abbrev pub GivesBytes : {E : Type 0} → Option (List ℕ) → Option (List ℕ) → Result Turn E → List ℕ → Type 0
GivesBytes old new (Ok (Bytes n)) buffer = Consumes old new (take n buffer) × (n ≡ 0 → 0 < length buffer → IsAtEnd new)
GivesBytes old new (Ok Interrupted) buffer = Keeps old new
GivesBytes old new (Err e) buffer = Keeps old new
