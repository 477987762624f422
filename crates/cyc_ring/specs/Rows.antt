-- What the two seats keep beside their trails.
use Rattle.std.specs.Prelude.{◌≡◌, ◌≢◌, ℕ, zero, suc, ◌<◌, ◌≤◌, Option, Some, None, List, slice_index}
use Rattle.cyc_types.specs.Limits.{cyclics}
use Rattle.ring_rule.specs.declared.RaiseStep.{RaiseStep}
use Rattle.cyc_level.specs.Runs.{StayCounts}
use Rattle.ring_rule.specs.Trail.{open_stay}

-- the rows of a raise seat, one for each index, hold the open stays. A row with the id 0 is free
pub record HoldsStays (ids sent lost : List ℕ) (t : List RaiseStep) : Type 0 where
  pub used : (i : ℕ) → i < cyclics → slice_index ids i ≢ 0
      → open_stay (slice_index ids i) t ≡ Some record { index = i; sent = slice_index sent i; lost = slice_index lost i }
  pub only : (id : ℕ) (s : StayCounts) → open_stay id t ≡ Some s → (s.index < cyclics) × (slice_index ids s.index ≡ id) × (id ≢ 0)
  pub less : (i : ℕ) → i < cyclics → slice_index lost i ≤ slice_index sent i

-- the index of an open stay
abbrev pub stay_index : Option StayCounts → Option ℕ
stay_index None = None
stay_index (Some s) = Some s.index

-- the entry that a drain seat keeps of its hand; 0 is an empty hand
abbrev pub entry_in_hand : ℕ → Option ℕ
entry_in_hand zero = None
entry_in_hand (suc n) = Some (suc n)
