use Rattle.std.proofs.Common.{◌≡◌, ℕ, ◌+◌, ◌-◌, ◌<◌, ◌≤◌, List, [], ◌∷◌, length, cond, nat_lt, get_or, arith}
use Rattle.std.proofs.Math.ListN.{set}
use Rattle.std.proofs.lemmas.Grind.{common_steps}
use Rattle.std.proofs.lemmas.Bool.Decides.{nat_tests}
use Rattle.std.proofs.lemmas.List.{get_or_default}
use Rattle.cyc_types.specs.Counting.{times}

-- after one more at an id's position each count is as before, and one more at the id
pub count_set : (xs : List ℕ) (first id q x : ℕ) → first ≤ id → id - first < length xs → x ≡ get_or xs (id - first) x →
    cond (nat_lt q first) 0 (get_or (set xs (id - first) (x + 1)) (q - first) 0)
    ≡ cond (nat_lt q first) 0 (get_or xs (q - first) 0) + times q (id ∷ [])
count_set xs first id q x low high is =
    let same : get_or xs (id - first) x ≡ get_or xs (id - first) 0 = get_or_default xs (id - first) x 0 high in
    grind (arith, nat_tests, common_steps)
