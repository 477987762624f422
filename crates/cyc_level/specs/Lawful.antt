-- What holds of every level that is reached by enabled events.
use Rattle.std.specs.Prelude.{◌≡◌, ℕ, zero, suc, ◌+◌, ◌<◌, ◌≤◌, Some, IsSome, []}
use Rattle.cyc_types.specs.Limits.{greatest_bank, last_id}
use Rattle.cyc_level.specs.Level.{AdmittedCyclic, SoftLevel, bank_size, count, times_in, place_count}

-- a number that a cyclic can have
abbrev pub IsId : ℕ → Type 0
IsId id = (0 < id) × (id ≤ last_id)

-- 1 where any call is outstanding
abbrev pub one_if_any : ℕ → ℕ
one_if_any zero = 0
one_if_any (suc n) = 1

-- the laws of a level (the theory statement of cyclic.c: a cyclic with a pend stands in its producer-consumer buffer
-- once, so no buffer overflows)
pub record Lawful (l : SoftLevel) : Type 0 where
  -- each expiration is done, outstanding or lost
  pub conserved : (id : ℕ) (c : AdmittedCyclic) → l.cyclics id ≡ Some c → c.sent ≡ c.done + c.count + c.lost
  pub below_ceiling : (id : ℕ) (c : AdmittedCyclic) → l.cyclics id ≡ Some c → c.count ≤ l.ceiling
  -- an id with calls outstanding stands once in the four places together, and no other stands in any
  pub one_place : (id : ℕ) → place_count l id ≡ one_if_any (count l id)
  pub distinct_indexes : (a b : ℕ) (c d : AdmittedCyclic) → l.cyclics a ≡ Some c → l.cyclics b ≡ Some d → c.index ≡ d.index
      → a ≡ b
  pub in_hard_bank : (id : ℕ) (c : AdmittedCyclic) → l.cyclics id ≡ Some c → c.index < bank_size l.hard_bank
  pub in_soft_bank : (id : ℕ) (c : AdmittedCyclic) → l.cyclics id ≡ Some c → 0 < times_in id l.old_list
      → c.index < bank_size l.soft_bank
  pub soft_behind : l.soft_bank ≤ l.hard_bank
  pub old_empty : l.hard_bank ≡ l.soft_bank → l.old_list ≡ []
  pub bank_bound : l.hard_bank ≤ greatest_bank
  pub marked_admitted : (id : ℕ) → l.marked ≡ Some id → IsSome (l.cyclics id)
  pub ids : (id : ℕ) (c : AdmittedCyclic) → l.cyclics id ≡ Some c → IsId id
