-- The next expiration, from an expiration and from the one after it.
use Rattle.std.proofs.Common.{◌≡◌, ℕ, ◌+◌, ◌-◌, ◌*◌, ◌/◌, ◌<◌, ◌≤◌, min, sym, ap, ◌∙◌, arith, inl, inr}
use Rattle.std.proofs.Math.Nat.{add-div_left}
use Rattle.std.proofs.lemmas.Nat.{div_below}
use Rattle.std.proofs.lemmas.Bool.{cases_lt}
use Rattle.std.proofs.lemmas.Bool.Decides.{nat_tests}
use Rattle.cyc_types.specs.Series.{next, never}

pub next_step : (e t now m : ℕ) → e ≤ now → now < never → 0 < t → m ≡ min (e + t) never → next e t now ≡ next m t now
next_step e t now m h last some is = elim (cases_lt now (e + t)) [
  | inl before ↦
      let below = div_below (now - e) t 1 some (omega arith) in
      let q : (now - e) / t ≡ 0 = omega (arith, below) in
      let far : now < m = omega (arith, is) in
      grind (arith, nat_tests)
  | inr within ↦
      let split : now - e ≡ t + (now - (e + t)) = omega arith in
      let q : (now - e) / t ≡ (now - (e + t)) / t + 1 = ap (λ n. n / t) split ∙ add-div_left (now - (e + t)) some in
      let same : m ≡ e + t = omega (arith, is) in
      let far : e + ((now - e) / t + 1) * t ≡ m + ((now - m) / t + 1) * t =
      ap (λ n. e + (n + 1) * t) q ∙ (let p : e + ((now - (e + t)) / t + 1 + 1) * t ≡ (e + t) + ((now - (e + t)) / t + 1) * t =
      omega arith in p) ∙ ap (λ x. x + ((now - x) / t + 1) * t) (sym same) in
      grind (arith, nat_tests)
]
