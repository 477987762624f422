-- Which bank a level needs for so many cyclics.
use Rattle.std.specs.Prelude.{ℕ, zero, suc, ◌+◌, ◌^◌, nat_le, cond}
use Rattle.cyc_types.specs.Limits.{greatest_bank}

-- the least bank from k on that has n slots, among so many more
abbrev pub least_bank : ℕ → ℕ → ℕ → ℕ
least_bank zero k n = k
least_bank (suc more) k n = cond (nat_le n (2 ^ k)) k (least_bank more (k + 1) n)

-- the least bank that has n slots
abbrev pub bank_for : ℕ → ℕ
bank_for n = least_bank greatest_bank 0 n
