-- What a firing side's trail shows to its holder.
use Rattle.std.specs.Prelude.{◌≡◌, ℕ, ◌+◌, ◌<◌, ◌≤◌, Option, Some, None, List, is_none}
use Rattle.cyc_types.specs.Firing.{Stay, FiringView}
use Rattle.cyc_level.specs.Level.{bank_size}
use Rattle.ring_rule.specs.declared.RaiseStep.{RaiseStep}
use Rattle.cyc_level.specs.Runs.{StayCounts, stay_calls}
use Rattle.ring_rule.specs.Trail.{
  open_stay,
  ended_calls,
  raises_of,
  losses_on_trail,
  seen_pend,
  marked_of,
  firer_hand_of,
  hard_bank_of,
}
use Rattle.ring_rule.specs.Trail.{has_followed}

-- an open stay, with the pend that was seen
abbrev pub stay_with : ℕ → Option StayCounts → Option Stay
stay_with seen None = None
stay_with seen (Some s) = Some record { index = s.index; sent = s.sent; lost = s.lost; seen = seen }

-- what the holder of a firing side with this trail knows
abbrev pub trail_view : ℕ → List RaiseStep → FiringView
trail_view ceiling t = record {
  stays = λ id. stay_with (seen_pend id t) (open_stay id t);
  marked = marked_of t;
  bank = hard_bank_of t;
  ceiling = ceiling;
  followed = has_followed t;
  hand_free = is_none (firer_hand_of t);
}

-- what was seen of a stay is at most the ceiling and what was sent and not lost, and its index is a slot of the bank
abbrev pub IsSeenSound : ℕ → List RaiseStep → Type 0
IsSeenSound ceiling t = (id : ℕ) (s : StayCounts) → open_stay id t ≡ Some s
    → (seen_pend id t ≤ ceiling) × (seen_pend id t + s.lost ≤ s.sent) × (s.index < bank_size (hard_bank_of t))

-- for each id the calls of its ended stays and of its open one are its raises less its losses
abbrev pub IsBalanced : List RaiseStep → Type 0
IsBalanced t = (id : ℕ) → ended_calls id t + stay_calls (open_stay id t) + losses_on_trail id t ≡ raises_of id t
