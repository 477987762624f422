-- Where the words of a ring lie, and which of them a write leaves as they were.
use Rattle.std.proofs.Common.{◌≡◌, ◌≢◌, subst, ℕ, ◌+◌, ◌-◌, ◌*◌, ◌%◌, ◌^◌, ◌<◌, ◌≤◌, List, [], ◌∷◌, length, get_or, sym, refl, ap}
use Rattle.std.proofs.Common.{◌∙◌, pow_mono, pow_pos, mod-lt, arith}
use Rattle.std.proofs.lemmas.Nat.{mul-mod_first}
use Rattle.std.proofs.Math.Nat.{add-mul-mod_self_left, mul_assoc}
use lib.Pow.{pow-add}
use Rattle.std.specs.Prelude.{Option, Some, None}
use Rattle.std.specs.Option.{option_map}
use Rattle.cyc_level.specs.Level.{AdmittedCyclic, Cyclics}
use Rattle.cyc_level.specs.Events.{changed_at, first_of}
use Rattle.cyc_level.proofs.Maps.{some_same, at_cases}
use Rattle.cyc_level.specs.Limits.{greatest_bank, cyclics}
use Rattle.ring_rule.specs.Words.{spread_index, pend_word, slot_word, producer_word, entry}
use Rattle.ring_rule.specs.Shown.{HoldsEntry, BankHolds, IsHandStored}

pub pend_low : (i : ℕ) → i < cyclics → pend_word i < cyclics
pend_low i h = omega arith

-- two indexes have two pend words
pub pend_distinct : (i j : ℕ) → i < cyclics → j < cyclics → pend_word i ≡ pend_word j → i ≡ j
pend_distinct i j a b e = omega (arith, a, b, e)

pub slot_high : (bank i : ℕ) → cyclics ≤ slot_word bank i
slot_high bank i = let p : 0 < 2 ^ bank = pow_pos bank in omega (arith, p)

pub slot_low : (bank i : ℕ) → bank ≤ greatest_bank → slot_word bank i < producer_word 0
slot_low bank i h = let p : 0 < 2 ^ bank = pow_pos bank in let q : 2 ^ bank ≤ 2 ^ greatest_bank =
    pow_mono {i = bank} {j = greatest_bank} h in
    let r : i * 9 % 2 ^ bank < 2 ^ bank = mod-lt (i * 9) p in let e : 2 ^ greatest_bank ≡ cyclics = refl in
    omega (arith, p, q, r, e)

-- nine has an inverse, so that the position shows the index
pub turned_back : (bank i : ℕ) → bank ≤ 33 → spread_index (2 ^ bank) i * 954437177 % 2 ^ bank ≡ i % 2 ^ bank
turned_back bank i most = let q : 2 ^ 33 ≡ 2 ^ bank * 2 ^ (33 - bank) =
    sym (sym (pow-add 2 bank (33 - bank)) ∙ ap (λ (x : ℕ). 2 ^ x) (let e : bank + (33 - bank) ≡ 33 = omega arith in e)) in
    let e : i * 9 * 954437177 ≡ i + 2 ^ 33 * i = omega arith in
    mul-mod_first (i * 9) 954437177 (2 ^ bank)
    ∙ (ap (λ (x : ℕ). x % 2 ^ bank) (e ∙ (ap (λ (x : ℕ). i + x * i) q
    ∙ ap (λ (x : ℕ). i + x) (mul_assoc (2 ^ bank) (2 ^ (33 - bank)) i)))
    ∙ add-mul-mod_self_left i (2 ^ bank) (2 ^ (33 - bank) * i))

pub same_turn : (bank i j : ℕ) → bank ≤ 33 → spread_index (2 ^ bank) i ≡ spread_index (2 ^ bank) j → i % 2 ^ bank ≡ j % 2 ^ bank
same_turn bank i j most e = sym (turned_back bank i most) ∙ (ap (λ (x : ℕ). x * 954437177 % 2 ^ bank) e ∙ turned_back bank j most)

-- each map has the ids of the first, with their indexes
abbrev pub Keeps : Cyclics → Cyclics → Type 0
Keeps m m' = (id : ℕ) (c : AdmittedCyclic) → m id ≡ Some c → (d : AdmittedCyclic) × (m' id ≡ Some d) × (d.index ≡ c.index)

pub keeps_all : (m : Cyclics) → Keeps m m
keeps_all m id c e = (c, e, refl)

pub keeps_option_map : (m : Cyclics) (id : ℕ) (f : AdmittedCyclic → AdmittedCyclic)
    → ((c : AdmittedCyclic) → (f c).index ≡ c.index)
    → Keeps m (changed_at m id (option_map f))
keeps_option_map m id f same j c e = at_cases m id (option_map f) (λ k o. m k ≡ Some c → (d : AdmittedCyclic) × (o ≡ Some d)
    × (d.index ≡ c.index))
    (λ h. (f c, ap (option_map f) h, same c)) (λ k _ h. (c, h, refl)) j e

module _ (ws ws' : List ℕ) (m m' : Cyclics) (keeps : Keeps m m') where
  pub entry_kept : (bank i id : ℕ) → get_or ws' (slot_word bank i) 0 ≡ get_or ws (slot_word bank i) 0 → HoldsEntry ws m bank i id
      → HoldsEntry ws' m' bank i id
  entry_kept bank i id same h = let d = keeps id h.0 h.1 in (d.0, d.1, same ∙ (h.2 ∙ ap (entry id) (sym d.2)))

  pub holds_kept : (bank : ℕ) (xs : List ℕ) (i : ℕ)
      → ((j : ℕ) → i ≤ j → j < i + length xs → get_or ws' (slot_word bank j) 0 ≡ get_or ws (slot_word bank j) 0)
      → get_or ws' (producer_word bank) 0 ≡ get_or ws (producer_word bank) 0 → BankHolds ws m bank i xs
      → BankHolds ws' m' bank i xs
  holds_kept bank [] i same end h = end ∙ h
  holds_kept bank (x ∷ xs) i same end h = (
    entry_kept bank i x (same i (omega arith) (omega arith)) h.0,
    holds_kept bank xs (i + 1) (λ j a b. same j (omega arith) (omega arith)) end h.1,
  )

  pub stored_kept : (bank i : ℕ) (e h : Option ℕ) → get_or ws' (slot_word bank i) 0 ≡ get_or ws (slot_word bank i) 0
      → IsHandStored ws m bank i e h → IsHandStored ws' m' bank i e h
  stored_kept bank i None h same k = tt
  stored_kept bank i (Some e) None same k = k
  stored_kept bank i (Some e) (Some id) same k = entry_kept bank i id same k

  -- the words behind the pend words stay as they were
  module _ (high : (j : ℕ) → cyclics ≤ j → get_or ws' j 0 ≡ get_or ws j 0) where
    pub holds_high : (bank : ℕ) (xs : List ℕ) (i : ℕ) → BankHolds ws m bank i xs → BankHolds ws' m' bank i xs
    holds_high bank xs i = holds_kept bank xs i (λ j _ _. high (slot_word bank j) (slot_high bank j))
        (high (producer_word bank) (omega arith))

    pub stored_high : (bank i : ℕ) (e h : Option ℕ) → IsHandStored ws m bank i e h → IsHandStored ws' m' bank i e h
    stored_high bank i e h = stored_kept bank i e h (high (slot_word bank i) (slot_high bank i))

-- a bank that holds a list ends behind it, and begins with its first id
pub holds_end : (ws : List ℕ) (m : Cyclics) (bank : ℕ) (xs : List ℕ) (i : ℕ) → BankHolds ws m bank i xs
    → get_or ws (producer_word bank) 0 ≡ (i + length xs) % 2 ^ 32
holds_end ws m bank [] i h = h ∙ ap (λ (j : ℕ). j % 2 ^ 32) (let e : i ≡ i + 0 = omega arith in e)
holds_end ws m bank (x ∷ xs) i h = holds_end ws m bank xs (i + 1) h.1
    ∙ ap (λ (j : ℕ). j % 2 ^ 32) (let e : i + 1 + length xs ≡ i + length (x ∷ xs) = omega arith in e)

pub first_some : (xs : List ℕ) → xs ≢ [] → (id : ℕ) × (first_of xs ≡ Some id)
first_some [] ne = absurd (ne refl)
first_some (x ∷ xs) ne = (x, refl)

pub first_held : (ws : List ℕ) (m : Cyclics) (bank id : ℕ) (xs : List ℕ) (i : ℕ) → first_of xs ≡ Some id
    → BankHolds ws m bank i xs → HoldsEntry ws m bank i id
first_held ws m bank id [] i e h = absurd (cc)
first_held ws m bank id (x ∷ xs) i e h = subst (HoldsEntry ws m bank i) (some_same x id e) h.0
