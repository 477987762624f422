use Rattle.std.proofs.Common.{◌≡◌, ℕ, ◌<◌, length, get_or}
use Rattle.ring_rule.specs.Words.{first_word}
use Rattle.ring_steps.proofs.words.first_words.Given as goal

abbrev pub invariant-loop-j : goal.invariant-loop-j
invariant-loop-j l = (length l.words.items ≡ l.j) × ((k : ℕ) → k < l.j → get_or l.words.items k 0 ≡ first_word l.start k)
