-- What a test keeps, as values, of the firing side of a ring.
use Rattle.std.specs.Prelude.{◌≡◌, ◌≢◌, ℕ, ◌<◌, ◌≤◌, Bool, true, Option, Some, None, List, slice_index}
use Rattle.cyc_types.specs.Limits.{cyclics, greatest_bank}
use Rattle.cyc_types.specs.Firing.{FiringView, Stay, Stays}

-- the index of a stay
abbrev pub index_of_stay : Option Stay → Option ℕ
index_of_stay None = None
index_of_stay (Some s) = Some s.index

-- the table has the id of each index, 0 where it is free, and no stay has more raises than these
pub record Lists (ids : List ℕ) (raises : ℕ) (stays : Stays) : Type 0 where
  pub used : (i : ℕ) → i < cyclics → slice_index ids i ≢ 0 → index_of_stay (stays (slice_index ids i)) ≡ Some i
  pub only : (id : ℕ) (s : Stay) → stays id ≡ Some s → (s.index < cyclics) × (slice_index ids s.index ≡ id) × (id ≢ 0)
      × (s.sent ≤ raises)

-- what is kept of the firing side is so
pub record Knows (ids : List ℕ) (raises : ℕ) (marked : Option ℕ) (bank : ℕ) (followed : Bool) (v : FiringView) : Type 0 where
  pub lists : Lists ids raises v.stays
  pub marked_is : v.marked ≡ marked
  pub bank_is : (v.bank ≡ bank) × (bank ≤ greatest_bank)
  pub followed_is : v.followed ≡ followed
  pub free_hand : v.hand_free ≡ true
