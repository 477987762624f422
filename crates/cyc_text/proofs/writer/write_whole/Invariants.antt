use Rattle.std.proofs.Common.{◌≡◌, ℕ, List, ◌++◌}
use Rattle.std.specs.Io.KnownBytes.{Appends}
use Rattle.cyc_text.proofs.writer.write_whole.Given as goal

-- what was taken so far, and what is left of the bytes
abbrev pub invariant-loop : goal.invariant-loop
invariant-loop g l = (taken : List ℕ) × (l.bytes ≡ taken ++ l.rest)
    × Appends (g.W.Write.contents l.initial.writer) (g.W.Write.contents l.writer) taken
