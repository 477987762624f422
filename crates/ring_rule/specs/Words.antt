-- The words of a ring: one table of 64-bit words for each CPU and soft level, and where each of them lies in it.
use Rattle.std.specs.Prelude.{ℕ, ◌+◌, ◌-◌, ◌*◌, ◌/◌, ◌%◌, ◌^◌, nat_lt, if◌then◌else◌}
use Rattle.cyc_level.specs.Limits.{greatest_bank, cyclics}
use Rattle.cyc_level.specs.Level.{bank_size}

-- which of so many words, a power of two, an index has. Nine is odd, so each word is some index's. Neighbours lie nine words
-- apart, and so from 32 words on never on one cache line of eight: one side writes at the one while the other side is at the
-- other (our own rule)
abbrev pub spread_index : ℕ → ℕ → ℕ
spread_index size index = index * 9 % size

-- the pend words come first, one for each index (cy_pend)
abbrev pub pend_word : ℕ → ℕ
pend_word index = spread_index cyclics index

-- bits 0 to 31 of a pend word are the calls outstanding, and bit 32 is the mark of a removal
abbrev pub mark_bit : ℕ
mark_bit = 2 ^ 32

-- indexes of a bank and its producer word run modulo this (cypc_prodndx and cypc_consndx are 32 bits wide)
abbrev pub index_range : ℕ
index_range = 2 ^ 32

-- the buffer word of an index of a bank, which is taken modulo the bank's size (cypc_sizemask). The banks stand one
-- after another, the smallest first
abbrev pub slot_word : ℕ → ℕ → ℕ
slot_word bank i = cyclics - 1 + bank_size bank + spread_index (bank_size bank) i

-- the next index that the firing side fills in a bank (cypc_prodndx)
abbrev pub producer_word : ℕ → ℕ
producer_word bank = 3 * cyclics - 1 + bank

-- the bank that the firing side fills (cys_hard)
abbrev pub hard_word : ℕ
hard_word = 3 * cyclics + greatest_bank

-- the bank that the soft side drains (cys_soft)
abbrev pub soft_word : ℕ
soft_word = hard_word + 1

abbrev pub word_count : ℕ
word_count = soft_word + 1

-- what a buffer word holds: the cyclic's id and its index in one number (cypc_buf holds the index; the id is our own)
abbrev pub entry : ℕ → ℕ → ℕ
entry id index = id * cyclics + index

abbrev pub entry_id : ℕ → ℕ
entry_id e = e / cyclics

abbrev pub entry_index : ℕ → ℕ
entry_index e = e % cyclics

-- the words of a ring that is opened: producer words hold the first index, all others 0
abbrev pub first_word : ℕ → ℕ → ℕ
first_word start word = if nat_lt word (producer_word 0) then 0 else (if nat_lt word hard_word then start else 0)
