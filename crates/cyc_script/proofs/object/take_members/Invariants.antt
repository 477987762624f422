use Rattle.std.proofs.Common.{◌≡◌, ℕ, ◌≤◌, length}
use Rattle.serde_json.specs.Data.{Members, no_members}
use Rattle.cyc_script.specs.Tokens.{IsObject, members_on}
use Rattle.cyc_script.proofs.object.take_members.Given as goal

abbrev pub invariant-loop-key : goal.invariant-loop-key
invariant-loop-key l =
    (n : ℕ) × (ms : Members) × (length l.reader ≤ n)
    × (members_on 126 (length l.initial.reader) l.initial.reader no_members ≡ members_on 126 n l.reader ms)
    × IsObject l.object ms

abbrev pub decreases-loop-key : goal.decreases-loop-key
decreases-loop-key l = length l.reader
