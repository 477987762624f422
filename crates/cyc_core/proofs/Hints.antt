-- Ids near each other have hints of their own.
use Rattle.std.proofs.Common.{◌≢◌, ℕ, ◌+◌, ◌/◌, ◌<◌, arith}
use Rattle.std.proofs.Math.Nat.{div-add-mod, mod-lt}
use Rattle.cyc_types.specs.Limits.{cyclics}
use Rattle.cyc_core.specs.Shown.{level_hint}

-- two numbers that are less than 4,096 apart leave other remainders
pub apart : (low high : ℕ) → low < high → high + 1 < low + cyclics → level_hint low ≢ level_hint high
apart low high less near same =
    let some : 0 < cyclics = omega arith in
    let l = div-add-mod low cyclics in
    let h = div-add-mod high cyclics in
    let l_rest = mod-lt low some in
    let h_rest = mod-lt high some in
    let l_hint = div-add-mod (low + low / cyclics) cyclics in
    let h_hint = div-add-mod (high + high / cyclics) cyclics in
    let wrong : ⊥ = omega (arith, less, near, same, l, h, l_rest, h_rest, l_hint, h_hint) in wrong
