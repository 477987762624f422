use Rattle.std.proofs.Common.{◌≡◌, ℕ, ◌<◌, length, get_or}
use mathlib.Core.Option.{some}
use lib.ListN.{get_elem?}
use Rattle.std.specs.Slots.{slots_items}
use Rattle.cyc_types.specs.Limits.{cyclics}
use Rattle.ring_rule.specs.Words.{pend_word}
use Rattle.ring_steps.proofs.words.Words.close.Given as goal

abbrev pub invariant-loop-i : goal.invariant-loop-i
invariant-loop-i l = (length l.pends ≡ cyclics)
    × ((k : ℕ) → k < l.i → get_elem? (slots_items l.closed.words) (pend_word k) ≡ some (get_or l.pends k 0))
