-- How often a writer is asked. Our own rule.
use Rattle.std.specs.Prelude.{ℕ, ◌+◌, min}

-- the most turns of a writing: twice 2^24
abbrev pub most_write_turns : ℕ
most_write_turns = 33554432

-- the turns taken, one write later: none is taken past the last
abbrev pub write_turn_after : ℕ → ℕ
write_turn_after turns = min (turns + 1) most_write_turns
