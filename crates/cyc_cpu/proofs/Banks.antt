-- The least bank for so many cyclics, by the leading zeros of a number.
use Rattle.std.proofs.Common.{◌≡◌, ℕ, zero, suc, ◌+◌, ◌-◌, ◌*◌, ◌^◌, ◌<◌, ◌≤◌, inl, inr, cond, sym, ap, arith, pow_mono, pow_pos}
use Rattle.std.specs.Prelude.{nat_le}
use Rattle.std.proofs.lemmas.Bool.{cases_lt}
use Rattle.std.proofs.lemmas.Bool.Decides.{nat_tests}
use Rattle.std.proofs.lemmas.Nat.{leading_length}
use lib.Count.{count_leading_zeros}
use native.Mathlib.Nat.{pow-suc}
use Rattle.cyc_types.specs.Limits.{greatest_bank, cyclics}
use Rattle.cyc_cpu.specs.Cpu.{least_bank, bank_for}

takes_it : (n size bank rest is : ℕ) → n ≤ size → bank ≡ is → cond (nat_le n size) bank rest ≡ is
takes_it n size bank rest is enough same = grind (arith, nat_tests)

passes_it : (n size bank rest is : ℕ) → size < n → rest ≡ is → cond (nat_le n size) bank rest ≡ is
passes_it n size bank rest is less same = grind (arith, nat_tests)

-- it is the first that is wide enough
first_wide : (more k n bank : ℕ) → k ≤ bank → bank ≤ k + more → n ≤ 2 ^ bank
    → ((j : ℕ) → k ≤ j → j < bank → 2 ^ j < n) → least_bank more k n ≡ bank
first_wide zero k n bank low high enough less = omega (arith, low, high)
first_wide (suc more) k n bank low high enough less = elim (cases_lt k bank) [
  | inl before ↦ passes_it n (2 ^ k) k (least_bank more (k + 1) n) bank (less k (omega arith) before)
      (first_wide more (k + 1) n bank (omega (arith, before)) (omega (arith, high)) enough
      (λ j from to. less j (omega (arith, from)) to))
  | inr after ↦ takes_it n (2 ^ k) k (least_bank more (k + 1) n) bank
      (let same : bank ≡ k = omega (arith, low, after) in let e : 2 ^ bank ≡ 2 ^ k = ap (λ (x : ℕ). 2 ^ x) same in
      omega (arith, enough, e))
      (omega (arith, low, after))
]

-- what the leading zeros of one less than the slots say of their bank
pub record IsBankOf (slots bank : ℕ) : Type 0 where
  pub least : bank ≡ bank_for slots
  pub enough : slots ≤ 2 ^ bank
  pub greatest : bank ≤ greatest_bank
  pub few : 2 ^ bank ≤ cyclics

pub zeros_bank : (slots bank : ℕ) → slots ≤ cyclics → count_leading_zeros 64 (slots - 1) + bank ≡ 64 → IsBankOf slots bank
zeros_bank slots bank fits zeros = by (leading_length 64 (slots - 1) (omega (arith, fits)))
  where
    by : (m : ℕ) × (count_leading_zeros 64 (slots - 1) + m ≡ 64) × (slots - 1 < 2 ^ m) × (2 ^ m ≤ 2 * (slots - 1) + 1)
        → IsBankOf slots bank
    by (m, sum, above, below) =
        let same : m ≡ bank = omega (arith, sum, zeros) in
        let power : 2 ^ m ≡ 2 ^ bank = ap (λ (x : ℕ). 2 ^ x) same in
        let wide : slots ≤ 2 ^ bank = omega (arith, above, power) in
        let most : bank ≤ greatest_bank = elim (cases_lt greatest_bank bank) [
          | inl past ↦ (let p : 2 ^ suc greatest_bank ≤ 2 ^ bank = pow_mono {i = suc greatest_bank} {j = bank} past in
              absurd (omega (arith, p, power, below, fits)))
          | inr within ↦ within
        ] in
        let less : (j : ℕ) → 0 ≤ j → j < bank → 2 ^ j < slots = (λ j from to.
        let p : 2 ^ suc j ≤ 2 ^ bank = pow_mono {i = suc j} {j = bank} to in
        let q : 2 ^ suc j ≡ 2 ^ j * 2 = pow-suc 2 j in
        let r : 0 < 2 ^ j = pow_pos j in omega (arith, p, q, r, power, below)) in
        record {
          least = sym (first_wide greatest_bank 0 slots bank (omega arith) (omega (arith, most)) wide less);
          enough = wide;
          greatest = most;
          few = pow_mono {i = bank} {j = greatest_bank} most;
        }
