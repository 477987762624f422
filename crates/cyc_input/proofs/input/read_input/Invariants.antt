use Rattle.std.proofs.Common.{◌≡◌, ◌≤◌, ◌-◌, length, false}
use Rattle.std.specs.Io.KnownBytes.{Consumes}
use Rattle.cyc_input.specs.Input.{most_input_bytes}
use Rattle.cyc_input.specs.Turns.{most_turns}
use Rattle.cyc_input.proofs.input.read_input.Given as goal

-- the bytes so far are what the reader lost
abbrev pub invariant-loop-buffer : goal.invariant-loop-buffer
invariant-loop-buffer g l =
    (length l.bytes.items ≤ most_input_bytes)
    × Consumes (g.R.Read.remaining l.initial.reader.reader) (g.R.Read.remaining l.reader.reader) l.bytes.items
    × (l.reader.failed ≡ false)

-- the turns left
abbrev pub decreases-loop-buffer : goal.decreases-loop-buffer
decreases-loop-buffer g l = most_turns - l.reader.turns
