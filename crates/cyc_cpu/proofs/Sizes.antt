-- The size that a CPU needs, over any least bank.
use Rattle.std.proofs.Common.{◌≡◌, ℕ, ◌<◌, ◌≤◌, ◌^◌, cond, arith}
use Rattle.std.specs.Prelude.{nat_le}
use Rattle.std.proofs.lemmas.Bool.Decides.{nat_tests}

pub size_grows : (size n bank : ℕ) → size < n → cond (nat_le n size) size (2 ^ bank) ≡ 2 ^ bank
size_grows size n bank less = grind (arith, nat_tests)

pub size_stays : (size n bank : ℕ) → n ≤ size → cond (nat_le n size) size (2 ^ bank) ≡ size
size_stays size n bank few = grind (arith, nat_tests)
