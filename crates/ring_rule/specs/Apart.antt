-- No two uses of a ring share a word, and no word of a bank or of the pend words is unused.
use Rattle.std.specs.Prelude.{◌≡◌, ◌≢◌, ℕ, ◌+◌, ◌-◌, ◌%◌, ◌<◌, ◌≤◌, ◌↔◌}
use Rattle.cyc_level.specs.Limits.{greatest_bank, cyclics}
use Rattle.cyc_level.specs.Level.{bank_size}
use Rattle.ring_rule.specs.Words.{pend_word, slot_word, producer_word}

-- each index has a pend word of its own, and each of the first words is the pend word of an index
abbrev pub PendsAreApart : Type 0
PendsAreApart = ((i j : ℕ) → i < cyclics → j < cyclics → pend_word i ≡ pend_word j → i ≡ j)
    × ((i : ℕ) → i < cyclics → pend_word i < cyclics)
    × ((word : ℕ) → word < cyclics → (i : ℕ) × (i < cyclics) × (pend_word i ≡ word))

-- two indexes share a buffer word of their bank exactly where they are equal modulo its size, and each of the bank's words is one
-- of some index
abbrev pub PlacesAreApart : Type 0
PlacesAreApart = (bank : ℕ) → bank ≤ greatest_bank
    → ((i j : ℕ) → (slot_word bank i ≡ slot_word bank j) ↔ (i % bank_size bank ≡ j % bank_size bank))
    × ((word : ℕ) → word < bank_size bank → (i : ℕ) × (i < bank_size bank)
    × (slot_word bank i ≡ cyclics - 1 + bank_size bank + word))

-- the buffer words of two banks differ, and they lie behind the pend words and before the producer words
abbrev pub BanksAreApart : Type 0
BanksAreApart = (low high i j : ℕ) → low < high → high ≤ greatest_bank
    → (slot_word low i ≢ slot_word high j) × (cyclics ≤ slot_word low i) × (slot_word high j < producer_word 0)

abbrev pub WordsAreApart : Type 0
WordsAreApart = PendsAreApart × PlacesAreApart × BanksAreApart
