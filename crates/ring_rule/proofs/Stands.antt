-- The conservation theorem in every state, at every step, and at the closing.
use Rattle.std.proofs.Common.{◌≡◌, ℕ, ◌+◌, ◌^◌, ◌<◌, List, [], ◌∷◌, length, sym, ap, ◌∙◌, subst, arith}
use mathlib.Core.Option.{some}
use lib.ListN.{get_elem?}
use Rattle.atomic_table.specs.Table.{keeps}
use Rattle.cyc_level.specs.Events.{AllEnabled}
use Rattle.cyc_level.proofs.Room.{conserved_level}
use Rattle.ring_rule.specs.declared.Role.{Role}
use Rattle.ring_rule.specs.declared.Role.TheVariants.{Joint, Raise, Drain, Spent}
use Rattle.ring_rule.specs.declared.SeatView.{SeatView}
use Rattle.ring_rule.specs.declared.Setting.{Setting}
use Rattle.ring_rule.specs.Log.{
  RingStep,
  of_raise,
  of_drain,
  raise_side,
  drain_side,
  step_event,
  events_of,
  level_after_steps,
  replay,
}
use Rattle.ring_rule.specs.Log.{AllTrue}
use Rattle.ring_rule.specs.Rule.{RingState, HasItsTrail, IsSeat, AllShown, MeetsRule}
use Rattle.ring_rule.specs.Conservation.{LevelStands, AllStood, EndsWithIts, StandsFor, Conserves}
use Rattle.ring_rule.specs.Steps.{
  ThisSeat,
  Operation,
  with_raise_step,
  with_drain_step,
  IsAllowed,
  IsRaiseStep,
  IsDrainStep,
  IsFiringStep,
}
use Rattle.ring_rule.specs.Steps.{IsSoftStep}
use Rattle.ring_rule.specs.Moves.{ClosingStands}
use Rattle.ring_rule.proofs.Log.{rest_enabled}
use Rattle.ring_rule.proofs.Seats.{at_here}
use Rattle.ring_rule.proofs.Now.{log_now}
use Rattle.ring_rule.proofs.Books.{booked, accounted, finished_stays}

has_its_trail : (log : List RingStep) (raise_seat drain_seat j : ℕ) (v : SeatView) (r : Role)
    → IsSeat log raise_seat drain_seat j v r → HasItsTrail log v r
has_its_trail log a b j v Joint h = (h.2, h.3)
has_its_trail log a b j v Raise h = h.1
has_its_trail log a b j v Drain h = h.1
has_its_trail log a b j v Spent h = tt

level_stands : (k : Setting) (log : List RingStep) → k.ceiling < 2 ^ 32 → AllTrue k.start log
    → AllEnabled k.ceiling (events_of log) → AllShown k log → LevelStands k log
level_stands k log small true on shown = let N = log_now k log small on shown in record {
  all_true = true;
  enabled = on;
  shows = N.shows;
  still = N.still;
  lawful = N.law;
  conserved = conserved_level (level_after_steps k.ceiling log) N.law;
  booked = booked k (replay k.start log) (raise_side log) (drain_side log) (level_after_steps k.ceiling log) N;
  accounted = accounted k log on N;
  finished = finished_stays k log on N;
}

all_stood : (k : Setting) (log : List RingStep) → k.ceiling < 2 ^ 32 → AllTrue k.start log → AllEnabled k.ceiling (events_of log)
    → AllShown k log → AllStood k log
all_stood k [] small true on shown = level_stands k [] small true on shown
all_stood k (x ∷ log) small true on shown = (
  level_stands k (x ∷ log) small true on shown,
  all_stood k log small true.1 (rest_enabled k.ceiling (step_event x) (events_of log) on) shown.1,
)

module _ (k : Setting) (s : RingState) (R : MeetsRule k s) where
  pub stood : AllStood k R.log
  stood = all_stood k R.log R.fits.0 R.all_true R.enabled R.shown

  pub conserves : Conserves k s
  conserves = record {
    log = R.log;
    words = R.words;
    trails =
        λ j v at. has_its_trail R.log R.raise_seat R.drain_seat j v v.role (R.seats j v at);
    stood = stood;
  }

-- such a level stands for the seat j, which has the log's last step
stands_for : (k : Setting) (s : RingState) (R : MeetsRule k s) (j : ℕ) (v : SeatView) → get_elem? s.views j ≡ some v
    → EndsWithIts R.log v v.role → StandsFor k v
stands_for k s R j v at ends = (
  R.log,
  has_its_trail R.log R.raise_seat R.drain_seat j v v.role (R.seats j v at),
  ends,
  stood k s R,
)

one_longer : (m : List RingStep) (x : RingStep) (log : List RingStep) → m ≡ x ∷ log → length m ≡ length log + 1
one_longer m x log is = let e = ap length is in omega (arith, e)

abbrev pub operation : (slots seat : ℕ) (me : ThisSeat) (i : ℕ) (f : ℕ → ℕ) → Operation
operation slots seat me i f = record { slots = slots; seat = seat; me = me; word = i; leaves = f }

-- a step that extends the log is allowed, and tells that such a level stands at its position
raise_allowed : (k : Setting) (slots seat : ℕ) (me : ThisSeat) (i : ℕ) (f : ℕ → ℕ) (tells : ℕ → ThisSeat → Type 0)
    → me.0.role ≡ Raise → IsRaiseStep k (operation slots seat me i f) tells → IsAllowed k (operation slots seat me i f) tells
raise_allowed k slots seat me i f tells role A s R homes at small = let x = A s R homes at small in let w : SeatView =
    with_raise_step (length R.log) x.0 me.0 in
    let ends = subst (λ (r : Role). EndsWithIts x.1.0.log w r) (sym role) (one_longer x.1.0.log (of_raise x.0) R.log x.1.1) in
    (w, keeps, tt, x.1.0, (x.2, stands_for k _ x.1.0 seat w (at_here s.views seat me.0 w at) ends))

drain_allowed : (k : Setting) (slots seat : ℕ) (me : ThisSeat) (i : ℕ) (f : ℕ → ℕ) (tells : ℕ → ThisSeat → Type 0)
    → me.0.role ≡ Drain → IsDrainStep k (operation slots seat me i f) tells → IsAllowed k (operation slots seat me i f) tells
drain_allowed k slots seat me i f tells role A s R homes at small = let x = A s R homes at small in let w : SeatView =
    with_drain_step (length R.log) x.0 me.0 in
    let ends = subst (λ (r : Role). EndsWithIts x.1.0.log w r) (sym role) (one_longer x.1.0.log (of_drain x.0) R.log x.1.1) in
    (w, keeps, tt, x.1.0, (x.2, stands_for k _ x.1.0 seat w (at_here s.views seat me.0 w at) ends))

pub firing_step : (k : Setting) (slots seat : ℕ) (me : ThisSeat) (i : ℕ) (f : ℕ → ℕ) (tells : ℕ → ThisSeat → Type 0)
    → me.0.role ≡ Raise → IsRaiseStep k (operation slots seat me i f) tells → IsFiringStep k (operation slots seat me i f) tells
firing_step k slots seat me i f tells role A = (A, raise_allowed k slots seat me i f tells role A)

pub soft_step : (k : Setting) (slots seat : ℕ) (me : ThisSeat) (i : ℕ) (f : ℕ → ℕ) (tells : ℕ → ThisSeat → Type 0)
    → me.0.role ≡ Drain → IsDrainStep k (operation slots seat me i f) tells → IsSoftStep k (operation slots seat me i f) tells
soft_step k slots seat me i f tells role A = (A, drain_allowed k slots seat me i f tells role A)

-- a ring that was closed with the seat of both sides
pub closes : ClosingStands
closes k id v role ws xs f = let s : RingState = f.0 in let R : MeetsRule k s = f.1.0 in
    let knows = subst (λ (r : Role). IsSeat R.log R.raise_seat R.drain_seat id v r) role (R.seats id v f.1.1) in
    (R.log, sym f.2 ∙ R.words, (knows.2, knows.3), stood k s R)
