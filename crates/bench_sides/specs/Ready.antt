-- A firing side whose cyclics may be raised in turn.
use Rattle.std.specs.Prelude.{◌≡◌, ℕ, ◌<◌, ◌≤◌, Some, None, true}
use Rattle.cyc_types.specs.Limits.{greatest_bank}
use Rattle.cyc_types.specs.Firing.{FiringView, Stay, IsAdmitted}

-- no id is admitted, and both sides are on the first bank
pub record IsNewLevel (v : FiringView) : Type 0 where
  pub none : (id : ℕ) → v.stays id ≡ None
  pub unmarked : v.marked ≡ None
  pub bank : v.bank ≡ 0
  pub followed : v.followed ≡ true
  pub free : v.hand_free ≡ true

-- the ids up to n are admitted, each with at most this many expirations, and no removal is open
pub record IsReadyLevel (n most : ℕ) (v : FiringView) : Type 0 where
  pub free : v.hand_free ≡ true
  pub unmarked : v.marked ≡ None
  pub stays : (id : ℕ) → 0 < id → id ≤ n → IsAdmitted id v (λ s. s.sent ≤ most)

-- the ids up to n are admitted at the indexes below them, in the greatest bank, and none has expired
pub record IsFilledLevel (n : ℕ) (v : FiringView) : Type 0 where
  pub bank : v.bank ≡ greatest_bank
  pub ready : IsReadyLevel n 0 v
  pub only : (id : ℕ) (s : Stay) → v.stays id ≡ Some s → (id ≤ n) × (s.index < n)
