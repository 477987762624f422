use Rattle.std.proofs.Common.{ℕ, ◌-◌, ap, arith}
use Rattle.std.proofs.lemmas.Nat.{leading_le}
use lib.Count.{count_leading_zeros}
use Rattle.cyc_cpu.proofs.Banks.{zeros_bank}
use Rattle.cyc_cpu.proofs.ends.least_bank.Goals as goal

pub returns : goal.returns
returns c =
    let less : ℕ = c.saturating_sub.result in
    let same = ap (count_leading_zeros 64) c.saturating_sub.ensures in
    let most = leading_le 64 less in
    let b = zeros_bank c.args.slots (64 - count_leading_zeros 64 less) c.requires (omega (arith, same, most)) in
    record { least = b.least; enough = b.enough; greatest = b.greatest; few = b.few }
