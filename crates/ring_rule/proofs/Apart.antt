-- The layout of a ring's words is one to one.
use Rattle.std.proofs.Common.{◌≡◌, ◌≢◌, ℕ, suc, ◌+◌, ◌-◌, ◌*◌, ◌%◌, ◌^◌, ◌<◌, ◌≤◌, sym, ap, ◌∙◌, pow_mono, pow_pos, mod-lt}
use Rattle.std.proofs.Common.{mod-eq_of_lt, arith}
use Rattle.std.proofs.lemmas.Nat.{mul-mod_first}
use native.Mathlib.Nat.{pow-suc}
use Rattle.cyc_level.specs.Limits.{greatest_bank, cyclics}
use Rattle.ring_rule.specs.Words.{spread_index, slot_word}
use Rattle.ring_rule.specs.Apart.{PendsAreApart, PlacesAreApart, BanksAreApart, WordsAreApart}
use Rattle.ring_rule.proofs.Words.{pend_low, pend_distinct, slot_high, slot_low, turned_back, same_turn}

-- equal indexes modulo a size have equal positions
pub same_spread : (n i j : ℕ) → i % n ≡ j % n → spread_index n i ≡ spread_index n j
same_spread n i j e = sym (mul-mod_first i 9 n) ∙ (ap (λ (x : ℕ). x * 9 % n) e ∙ mul-mod_first j 9 n)

-- the index of a word
pub word_index : (bank word : ℕ) → bank ≤ 33 → word < 2 ^ bank → spread_index (2 ^ bank) (word * 954437177 % 2 ^ bank) ≡ word
word_index bank word most less = mul-mod_first (word * 954437177) 9 (2 ^ bank)
    ∙ (ap (λ (x : ℕ). x % 2 ^ bank) (let e : word * 954437177 * 9 ≡ word * 9 * 954437177 = omega arith in e)
    ∙ (sym (mul-mod_first (word * 9) 954437177 (2 ^ bank)) ∙ (turned_back bank word most ∙ mod-eq_of_lt less)))

pub lower_bank : (low high i j : ℕ) → low < high → slot_word low i ≢ slot_word high j
lower_bank low high i j less e = let p : 0 < 2 ^ low = pow_pos low in let m : i * 9 % 2 ^ low < 2 ^ low = mod-lt (i * 9) p in
    let q : 2 ^ suc low ≤ 2 ^ high = pow_mono {i = suc low} {j = high} (omega arith) in
    let r : 2 ^ suc low ≡ 2 ^ low * 2 = pow-suc 2 low in omega (arith, m, q, r, e)

pends : PendsAreApart
pends = (
  pend_distinct,
  pend_low,
  λ word less. (
    word * 954437177 % 2 ^ greatest_bank,
    mod-lt (word * 954437177) (pow_pos greatest_bank),
    word_index greatest_bank word (omega arith) less,
  ),
)

positions : PlacesAreApart
positions bank most = (
  (λ i j. (
    (λ e. same_turn bank i j (omega (arith, most)) (omega (arith, e))),
    (λ e. ap (λ (x : ℕ). cyclics - 1 + 2 ^ bank + x) (same_spread (2 ^ bank) i j e)),
  )),
  (λ word less. (
    word * 954437177 % 2 ^ bank,
    mod-lt (word * 954437177) (pow_pos bank),
    ap (λ (x : ℕ). cyclics - 1 + 2 ^ bank + x)
        (word_index bank word (omega (arith, most)) less),
  )),
)

banks : BanksAreApart
banks low high i j less most = (lower_bank low high i j less, slot_high low i, slot_low high j most)

pub apart : WordsAreApart
apart = (pends, positions, banks)
