-- The moves of a ring's table that are no steps of a side: it is opened, its seat is split, the two seats are joined,
-- and it is closed.
use Rattle.std.specs.Prelude.{◌≡◌, ℕ, ◌<◌, List, [], length, slice_index}
use Rattle.atomic_table.specs.Table.{Splits, Joins, opening, Final, Seen}
use Rattle.ring_rule.specs.declared.Role.TheVariants.{Joint, Raise, Drain}
use Rattle.ring_rule.specs.declared.SeatView.{SeatView}
use Rattle.ring_rule.specs.declared.Setting.{Setting}
use Rattle.ring_rule.specs.Words.{mark_bit, index_range, word_count, first_word}
use Rattle.ring_rule.specs.Rule.{opening_view, raise_view, drain_view, joint_view, spent_view, HasItsTrail, MeetsRule}
use Rattle.ring_rule.specs.Log.{RingStep, replay}
use Rattle.ring_rule.specs.Conservation.{AllStood}

-- a table of the first words keeps the rule
abbrev pub OpeningMeetsRule : Type 0
OpeningMeetsRule = (k : Setting) (words : List ℕ)
    → length words ≡ word_count
    → ((j : ℕ) → j < word_count → slice_index words j ≡ first_word k.start j)
    → k.start < index_range
    → k.ceiling < mark_bit
    → MeetsRule k (opening words [] opening_view)

-- the seat of both sides may be split into the raise seat and the drain seat
abbrev pub SplitIsAllowed : Type 0
SplitIsAllowed = (k : Setting) (seat : ℕ) (v : SeatView) → v.role ≡ Joint
    → Splits (MeetsRule k) seat v (raise_view v) (drain_view v)

-- the raise seat may take in the drain seat
abbrev pub JoinIsAllowed : Type 0
JoinIsAllowed = (k : Setting) (seat : ℕ) (v : SeatView) (other : ℕ) (w : SeatView) → v.role ≡ Raise → w.role ≡ Drain
    → Joins (MeetsRule k) seat v other w (joint_view v w) spent_view

-- the words of a table that was closed with the seat of both sides are what the log leaves whose sides are the trails of this
-- seat, and a level stood before and after each of its steps
abbrev pub ClosingStands : Type 0
ClosingStands = (k : Setting) (seat : ℕ) (v : SeatView) → v.role ≡ Joint → (words : List ℕ) (values : List (Unit {0}))
    → Final (Seen (MeetsRule k) seat v) words values
    → (log : List RingStep) × (words ≡ replay k.start log) × HasItsTrail log v Joint × AllStood k log
