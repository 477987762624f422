use Rattle.std.proofs.Common.{◌≡◌, ℕ, ◌≤◌, [], length}
use Rattle.json.specs.Json.{items, value}
use Rattle.serde_json.specs.Read.{of_items, converted}
use Rattle.cyc_script.specs.Limits.{most_steps}
use Rattle.cyc_script.specs.Steps.{first_context}
use Rattle.cyc_script.proofs.Taken.{Keeps, taken}
use Rattle.cyc_script.proofs.tokens.take_steps.Given as goal

abbrev pub invariant-loop-alloc : goal.invariant-loop-alloc
invariant-loop-alloc l =
    (n : ℕ) × (length l.reader ≤ n)
    × (taken [] first_context (converted of_items (items (value 125) (length l.initial.reader) l.initial.reader))
    ≡ taken l.steps.items l.context (converted of_items (items (value 125) n l.reader)))
    × (length l.steps.items ≤ most_steps)
    × Keeps l.steps.items l.context

abbrev pub decreases-loop-alloc : goal.decreases-loop-alloc
decreases-loop-alloc l = length l.reader
