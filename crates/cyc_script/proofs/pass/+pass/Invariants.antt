use Rattle.std.proofs.Common.{◌≡◌, ℕ, ◌+◌, ◌*◌, ◌≤◌, length}
use Rattle.json.specs.Json.{items, value}
use Rattle.serde_json.specs.Data.{Members, no_members}
use Rattle.serde_json.specs.Read.{of_items, converted}
use Rattle.cyc_script.specs.Tokens.{members_on}
use Rattle.cyc_script.proofs.Rest.{Counts, counted}
use Rattle.cyc_script.proofs.pass.+pass.Given as goal

abbrev pub decreases-pass_from : goal.decreases-pass_from
decreases-pass_from l = 3 * l.depth

abbrev pub decreases-pass_value : goal.decreases-pass_value
decreases-pass_value l = 3 * l.depth + 1

abbrev pub decreases-pass_items : goal.decreases-pass_items
decreases-pass_items l = 3 * l.depth + 2

abbrev pub decreases-pass_members : goal.decreases-pass_members
decreases-pass_members l = 3 * l.depth + 2

abbrev pub invariant-pass_items-loop-reader : goal.invariant-pass_items-loop-reader
invariant-pass_items-loop-reader l =
    (count : ℕ) × Counts l.most l.few l.left count
    × ((m : ℕ) → length l.initial.reader ≤ m → (n : ℕ) × (length l.reader ≤ n)
    × (counted 0 (converted of_items (items (value l.depth) m l.initial.reader))
    ≡ counted count (converted of_items (items (value l.depth) n l.reader))))

abbrev pub decreases-pass_items-loop-reader : goal.decreases-pass_items-loop-reader
decreases-pass_items-loop-reader l = length l.reader

abbrev pub invariant-pass_members-loop-reader : goal.invariant-pass_members-loop-reader
invariant-pass_members-loop-reader l =
    (n : ℕ) × (before : Members) × (length l.reader ≤ n)
    × (members_on l.depth (length l.initial.reader) l.initial.reader no_members ≡ members_on l.depth n l.reader before)

abbrev pub decreases-pass_members-loop-reader : goal.decreases-pass_members-loop-reader
decreases-pass_members-loop-reader l = length l.reader
