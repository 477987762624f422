-- What a level that stands says of the rows of a raise seat.
use Rattle.std.proofs.Common.{◌≡◌, ◌≢◌, ℕ, ◌+◌, ◌*◌, ◌%◌, ◌^◌, ◌<◌, ◌≤◌, List, get_or, refl, sym, ap, ◌∙◌, subst, arith, eq-eqb}
use Rattle.std.proofs.Common.{cond}
use Rattle.std.specs.Prelude.{Option, Some}
use Rattle.cyc_types.specs.Limits.{cyclics, last_id}
use Rattle.cyc_level.specs.Level.{AdmittedCyclic, SoftLevel, in_hand}
use Rattle.cyc_level.proofs.Keeps.{same_ceiling}
use Rattle.ring_rule.specs.declared.RaiseStep.{RaiseStep}
use Rattle.ring_rule.specs.declared.DrainStep.{DrainStep}
use Rattle.ring_rule.specs.declared.Role.TheVariants.{Joint}
use Rattle.ring_rule.specs.declared.SeatView.{SeatView}
use Rattle.ring_rule.specs.declared.Setting.{Setting}
use Rattle.ring_rule.specs.Words.{pend_word, mark_bit}
use Rattle.ring_rule.specs.Trail.{open_stay, marked_of, made_calls, ended_calls}
use Rattle.ring_rule.specs.Log.{RingStep, raise_side, drain_side, events_of, level_after_steps, replay}
use Rattle.ring_rule.specs.Rule.{joint_view, HasRaises, HasDrains, HasItsTrail}
use Rattle.ring_rule.specs.Conservation.{LevelStands, AllStood}
use Rattle.ring_rule.proofs.Stays.{behind, not_held}
use Rattle.cyc_ring.specs.Rows.{HoldsStays}

module _ (k : Setting) (small : k.ceiling < 2 ^ 32) (log : List RingStep) (L : LevelStands k log)
    (ids sent lost pends : List ℕ) (rows : HoldsStays ids sent lost (raise_side log)) (read : (i : ℕ) → i < cyclics
    → get_or (replay k.start log) (pend_word i) 0 ≡ get_or pends i 0) (i : ℕ) (low : i < cyclics)
    (used : get_or ids i 0 ≢ 0) where
  abbrev id : ℕ
  id = get_or ids i 0

  abbrev l : SoftLevel
  l = level_after_steps k.ceiling log

  abbrev words : List ℕ
  words = replay k.start log

  abbrev rs : List RaiseStep
  rs = raise_side log

  abbrev ds : List DrainStep
  ds = drain_side log

  book : (done : ℕ) × (get_or sent i 0 ≡ done + get_or words (pend_word i) 0 % mark_bit + get_or lost i 0)
      × (made_calls id ds ≡ done + ended_calls id rs)
  book = L.booked id record { index = i; sent = get_or sent i 0; lost = get_or lost i 0 } (rows.used i low used)

  pub counted_row : get_or lost i 0 + get_or pends i 0 % mark_bit ≤ get_or sent i 0
  counted_row = let b = book.1 in let r = read i low in omega (arith, b, r)

  pub finished_row : made_calls id ds + get_or lost i 0 + get_or pends i 0 % mark_bit ≡ get_or sent i 0 + ended_calls id rs
  finished_row = let b = book.1 in let m = book.2 in let r = read i low in omega (arith, b, m, r)

  cyclic : (c : AdmittedCyclic) × (l.cyclics id ≡ Some c) × (i ≡ c.index)
  cyclic = let b = behind (made_calls id ds) (ended_calls id rs) (open_stay id rs)
      (l.cyclics id) record { index = i; sent = get_or sent i 0; lost = get_or lost i 0 } (rows.used i low used)
      (L.shows.stays id) in (b.0, b.1, b.2)

  pub named_row : id ≤ last_id
  named_row = (L.lawful.ids id cyclic.0 cyclic.1).1

  pend : get_or pends i 0 ≡ (cyclic.0).count + mark_bit * in_hand id (marked_of rs)
  pend = sym (read i low) ∙ (ap (λ (j : ℕ). get_or words (pend_word j) 0) cyclic.2
      ∙ (L.shows.pends id cyclic.0 cyclic.1 ∙ ap
      (λ (m : Option ℕ). (cyclic.0).count + mark_bit * in_hand id m) L.shows.marked_is))

  pub marked_row : marked_of rs ≡ Some id → mark_bit ≤ get_or pends i 0
  marked_row is = let p = pend in let h : in_hand id (marked_of rs) ≡ 1 = ap (in_hand id) is
      ∙ ap (λ b. cond {A = ℕ} b 1 0) (eq-eqb id id refl) in omega (arith, p, h)

  pub unmarked_row : marked_of rs ≢ Some id → get_or pends i 0 < mark_bit
  unmarked_row not = let p = pend in let h = not_held id (marked_of rs) not in let c = L.lawful.below_ceiling id cyclic.0 cyclic.1
      in let e = same_ceiling k.ceiling (events_of log) in omega (arith, p, h, c, e, small)

-- a ring that was closed with these pend words and the views of its two seats
abbrev pub Ended : Setting → List ℕ → SeatView → SeatView → Type 0
Ended k pends v w = (log : List RingStep) × (HasRaises log v × HasDrains log w) × AllStood k log
    × ((i : ℕ) → i < cyclics → get_or pends i 0 ≡ get_or (replay k.start log) (pend_word i) 0)

-- what the words give when they are closed with this view of both sides
abbrev pub Given : Setting → List ℕ → SeatView → Type 0
Given k pends u = (log : List RingStep) × HasItsTrail log u Joint × AllStood k log
    × ((i : ℕ) → i < cyclics → get_or pends i 0 ≡ get_or (replay k.start log) (pend_word i) 0)

pub ended : (x k : Setting) → x ≡ k → (pends : List ℕ) (u v w : SeatView) → u ≡ joint_view v w → Given x pends u
    → Ended k pends v w
ended x k same pends u v w is c = subst (λ (y : Setting). Ended y pends v w) same
    (c.0, subst (λ (y : SeatView). HasRaises c.0 y × HasDrains c.0 y) is c.1, c.2, c.3)
