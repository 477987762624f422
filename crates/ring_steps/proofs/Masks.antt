-- Where the next index of a bank lies.
use Rattle.std.proofs.Common.{◌≡◌, ℕ, ◌+◌, ◌-◌, ◌*◌, ◌%◌, ◌^◌, ◌<◌, ◌≤◌, refl, sym, ap, ◌∙◌, subst, arith, pow_mono, pow_pos}
use Rattle.std.proofs.Common.{mod-lt}
use native.Mathlib.Nat.{mod-mod_of_dvd, dvd-mul_right}
use Prim.Native.Nat.{◌∣◌}
use lib.Pow.{pow-add}
use lib.Bits.{bit_and}
use Rattle.std.proofs.lemmas.Nat.{and_mask, mul-mod_first}
use Rattle.cyc_types.specs.Limits.{greatest_bank, cyclics}
use Rattle.ring_rule.specs.Words.{slot_word, word_count}

same_mod : (bank i : ℕ) → bank ≤ greatest_bank → i % 2 ^ 32 % 2 ^ bank ≡ i % 2 ^ bank
same_mod bank i most = let e : bank + (32 - bank) ≡ 32 = omega arith in mod-mod_of_dvd (2 ^ bank) i
    (subst (λ (x : ℕ). 2 ^ bank ∣ x) (sym (pow-add 2 bank (32 - bank)) ∙ ap (λ (x : ℕ). 2 ^ x) e)
    (dvd-mul_right (2 ^ bank) (2 ^ (32 - bank))))

pub place_masked : (bank mask next i : ℕ) → bank ≤ greatest_bank → mask + 1 ≡ 2 ^ bank → next ≡ i % 2 ^ 32
    → cyclics + mask + bit_and (next * 9) mask ≡ slot_word bank i
place_masked bank mask next i most size at = let m : mask ≡ 2 ^ bank - 1 = omega (arith, size) in
    let low : bit_and (next * 9) mask ≡ i * 9 % 2 ^ bank = ap (bit_and (next * 9)) m ∙ (and_mask (next * 9) bank
    ∙ (ap (λ (n : ℕ). n * 9 % 2 ^ bank) at ∙ (sym (mul-mod_first (i % 2 ^ 32) 9 (2 ^ bank))
    ∙ (ap (λ (n : ℕ). n * 9 % 2 ^ bank) (same_mod bank i most) ∙ mul-mod_first i 9 (2 ^ bank))))) in omega (arith, size, low)

pub place_inside : (bank mask next i : ℕ) → bank ≤ greatest_bank → mask + 1 ≡ 2 ^ bank → next ≡ i % 2 ^ 32
    → cyclics + mask + bit_and (next * 9) mask < word_count
place_inside bank mask next i most size at = let e = place_masked bank mask next i most size at in
    let p : 0 < 2 ^ bank = pow_pos bank in
    let q : 2 ^ bank ≤ 2 ^ greatest_bank = pow_mono {i = bank} {j = greatest_bank} most in
    let r : i * 9 % 2 ^ bank < 2 ^ bank = mod-lt (i * 9) p in let z : 2 ^ greatest_bank ≡ cyclics = refl in
    omega (arith, e, p, q, r, z)

pub mask_low : (mask bank : ℕ) → bank ≤ greatest_bank → mask + 1 ≡ 2 ^ bank → mask < cyclics
mask_low mask bank most size =
    let p : 2 ^ bank ≤ 2 ^ greatest_bank = pow_mono {i = bank} {j = greatest_bank} most in
    let z : 2 ^ greatest_bank ≡ cyclics = refl in omega (arith, size, p, z)
