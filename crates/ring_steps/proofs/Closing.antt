-- What a table that is closed leaves.
use Rattle.std.proofs.Common.{◌≡◌, ℕ, zero, suc, List, [], ◌∷◌, get_or, sym, subst}
use mathlib.Core.Option.{some, some-injective, some-ne-none}
use lib.ListN.{get_elem?}
use Rattle.atomic_table.specs.Table.{Final, Seen}
use Rattle.ring_rule.specs.declared.Role.TheVariants.{Joint}
use Rattle.ring_rule.specs.declared.SeatView.{SeatView}
use Rattle.ring_rule.specs.declared.Setting.{Setting}
use Rattle.ring_rule.specs.Log.{RingStep, replay}
use Rattle.ring_rule.specs.Rule.{HasItsTrail, MeetsRule}
use Rattle.ring_rule.specs.Conservation.{AllStood}
use Rattle.ring_rule.specs.Moves.{ClosingStands}

-- a ring that was closed with these words and the view of its one seat
abbrev pub Ended : Setting → List ℕ → SeatView → Type 0
Ended k ws v = (log : List RingStep) × (ws ≡ replay k.start log) × HasItsTrail log v Joint × AllStood k log

pub ended : ClosingStands → (x k : Setting) → x ≡ k → (seat : ℕ) (v : SeatView) → v.role ≡ Joint
    → (ws : List ℕ) (values : List (Unit {0})) → Final (Seen (MeetsRule x) seat v) ws values → Ended k ws v
ended closes x k same seat v role ws values f = subst (λ (y : Setting). Ended y ws v) same (closes x seat v role ws values f)

pub or_elem : (l : List ℕ) (i a : ℕ) → get_elem? l i ≡ some a → get_or l i 0 ≡ a
or_elem [] i a e = absurd (some-ne-none a (sym e))
or_elem (x ∷ xs) zero a e = some-injective x a e
or_elem (x ∷ xs) (suc i) a e = or_elem xs i a e
