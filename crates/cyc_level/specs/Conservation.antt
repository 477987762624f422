-- What the conservation theorem says of one level.
use Rattle.std.specs.Prelude.{◌≡◌, ℕ, ◌+◌, ◌<◌, ◌≤◌, Some, length}
use Rattle.cyc_level.specs.Level.{AdmittedCyclic, SoftLevel, bank_size, count, place_count}
use Rattle.cyc_level.specs.Events.{as_list}

-- no expiration is forgotten, and no list outgrows its bank
pub record IsConserved (l : SoftLevel) : Type 0 where
  -- the expirations of each admitted cyclic are its finished calls, its outstanding ones and those lost
  pub expirations : (id : ℕ) (c : AdmittedCyclic) → l.cyclics id ≡ Some c → c.sent ≡ c.done + c.count + c.lost
  -- an id with calls outstanding stands in exactly one place, and an id with none in no place
  pub outstanding : (id : ℕ) → 0 < count l id → place_count l id ≡ 1
  pub nothing_outstanding : (id : ℕ) → count l id ≡ 0 → place_count l id ≡ 0
  -- the new list fits its bank with the firer's hand, and the old list the soft side's bank
  pub new_list_fits : length (l.new_list) + length (as_list l.firer_hand) ≤ bank_size l.hard_bank
  pub old_list_fits : length l.old_list ≤ bank_size l.soft_bank
