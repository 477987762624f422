-- The limits of a script, each in one place (our own format).
use Rattle.std.specs.Prelude.{ℕ}

-- bytes
abbrev pub most_bytes : ℕ
most_bytes = 16777216

-- steps
abbrev pub most_steps : ℕ
most_steps = 65536

-- bytes of a name
abbrev pub longest_name : ℕ
longest_name = 32
