-- What a step of one side leaves of the rule: only what it shows is to be given.
use Rattle.std.proofs.Common.{◌≡◌, ℕ, zero, suc, ◌≢◌, List, [], ◌∷◌, ◌++◌, length, get_or, set, sym, refl, ap, ◌∙◌, subst, ⊎_elim}
use Rattle.std.proofs.Common.{length-set}
use Rattle.std.proofs.lemmas.List.FromFn.{length-map-range_with_len}
use Rattle.atomic_table.proofs.Lists.{at_set}
use mathlib.Core.Option.{some, some-injective, some-ne-none}
use lib.ListN.{get_elem?}
use Rattle.atomic_table.specs.Table.{keeps, stepped}
use Rattle.cyc_level.specs.Level.{SoftLevel}
use Rattle.cyc_level.specs.Events.{AllEnabled, reached}
use Rattle.ring_rule.specs.declared.Role.{Role}
use Rattle.ring_rule.specs.declared.Role.TheVariants.{Joint, Raise, Drain, Spent}
use Rattle.ring_rule.specs.declared.RaiseStep.{RaiseStep}
use Rattle.ring_rule.specs.declared.DrainStep.{DrainStep}
use Rattle.ring_rule.specs.declared.SeatView.{SeatView}
use Rattle.ring_rule.specs.declared.Setting.{Setting}
use Rattle.ring_rule.specs.Words.{word_count, first_word}
use Rattle.ring_rule.specs.Trail.{raise_event, drain_event}
use Rattle.ring_rule.specs.Log.{
  RingStep,
  of_raise,
  of_drain,
  raise_side,
  drain_side,
  events_of,
  level_after_steps,
  word_of,
  left_by_step,
}
use Rattle.ring_rule.specs.Log.{FoundIs, raise_word, drain_word, raise_leaves, drain_leaves, RaiseFound, DrainFound, replay}
use Rattle.ring_rule.specs.Shown.{TrailsShow, StillHolds}
use Rattle.ring_rule.specs.Rule.{RingState, HasRaises, HasDrains, IsSeat, IsFiring, IsSoft, MeetsRule}
use Rattle.ring_rule.specs.Steps.{with_raise_step, with_drain_step, ExtendsByRaise, ExtendsByDrain}

abbrev pub level : (k : Setting) (s : RingState) → MeetsRule k s → SoftLevel
level k s R = level_after_steps k.ceiling R.log

pub length_set : {A : Type 0} (l : List A) (i : ℕ) (a : A) → length (set l i a) ≡ length l
length_set [] i a = refl
length_set (x ∷ xs) zero a = refl
length_set (x ∷ xs) (suc i) a = ap suc (length_set xs i a)

-- where a seat's view stands after one of them was set, or one was added
pub at_here : (l : List SeatView) (i : ℕ) (v w : SeatView) → get_elem? l i ≡ some v → get_elem? (set l i w) i ≡ some w
at_here [] i v w e = absurd (some-ne-none v (sym e))
at_here (x ∷ xs) zero v w e = refl
at_here (x ∷ xs) (suc i) v w e = at_here xs i v w e

pub other_stays : (l : List SeatView) (i j : ℕ) (u w : SeatView) → j ≢ i → get_elem? l j ≡ some w
    → get_elem? (set l i u) j ≡ some w
other_stays [] i j u w ne e = e
other_stays (x ∷ l) zero zero u w ne e = absurd (ne refl)
other_stays (x ∷ l) zero (suc j) u w ne e = e
other_stays (x ∷ l) (suc i) zero u w ne e = e
other_stays (x ∷ l) (suc i) (suc j) u w ne e = other_stays l i j u w (λ z. ne (ap suc z)) e

pub stays_before : (l : List SeatView) (j : ℕ) (u w : SeatView) → get_elem? l j ≡ some w → get_elem? (l ++ u ∷ []) j ≡ some w
stays_before [] j u w e = absurd (some-ne-none w (sym e))
stays_before (x ∷ l) zero u w e = e
stays_before (x ∷ l) (suc j) u w e = stays_before l j u w e

pub at_last : (l : List SeatView) (u : SeatView) → get_elem? (l ++ u ∷ []) (length l) ≡ some u
at_last [] u = refl
at_last (x ∷ l) u = at_last l u

-- the seats of the two sides are two
module _ (l : List SeatView) (i j : ℕ) (v w : SeatView) (a : get_elem? l i ≡ some v) (b : get_elem? l j ≡ some w) where
  same_role : j ≡ i → w.role ≡ v.role
  same_role e = ap (λ (u : SeatView). u.role) (some-injective w v (sym b ∙ (ap (λ (n : ℕ). get_elem? l n) e ∙ a)))

  pub soft_apart : v.role ≡ Raise → IsSoft w.role → j ≢ i
  soft_apart is soft e = subst IsSoft (same_role e ∙ is) soft

  pub firing_apart : v.role ≡ Drain → IsFiring w.role → j ≢ i
  firing_apart is firing e = subst IsFiring (same_role e ∙ is) firing

-- a step changes no word's position
pub as_wide : (start : ℕ) (log : List RingStep) → length (replay start log) ≡ word_count
as_wide start [] = length-map-range_with_len (first_word start) 0 word_count
as_wide start (x ∷ log) = length-set (replay start log) (word_of start x log)
    (left_by_step x (get_or (replay start log) (word_of start x log) 0)) ∙ as_wide start log

pub wide : (k : Setting) (s : RingState) (R : MeetsRule k s) → length s.words ≡ word_count
wide k s R = ap length R.words ∙ as_wide k.start R.log

module _ (k : Setting) (s : RingState) (R : MeetsRule k s) (seat : ℕ) (v : SeatView) (at : get_elem? s.views seat ≡ some v)
    (cs : List (ℕ × Unit {0})) (i n : ℕ) where
  K : Role → Type 0
  K r = IsSeat R.log R.raise_seat R.drain_seat seat v r

  module _ (is : v.role ≡ Raise) where
    pub raises : (seat ≡ R.raise_seat) × HasRaises R.log v
    raises = subst (λ (r : Role). IsSeat R.log R.raise_seat R.drain_seat seat v r) is (R.seats seat v at)

    others : (x : RaiseStep) (j : ℕ) (d : SeatView) → j ≢ seat → (r : Role) → IsSeat R.log R.raise_seat R.drain_seat j d r
        → IsSeat (of_raise x ∷ R.log) R.raise_seat R.drain_seat j d r
    others x j d ne Joint h = absurd (ne (h.0 ∙ sym raises.0))
    others x j d ne Raise h = absurd (ne (h.0 ∙ sym raises.0))
    others x j d ne Drain h = h
    others x j d ne Spent h = tt

    known_after : (x : RaiseStep) (j : ℕ) (d : SeatView)
        → get_elem? (set s.views seat (with_raise_step (length R.log) x v)) j ≡ some d
        → IsSeat (of_raise x ∷ R.log) R.raise_seat R.drain_seat j d d.role
    known_after x j d e = ⊎_elim
        (λ (t : (j ≡ seat) × (with_raise_step (length R.log) x v ≡ d)). subst
        (λ (p : ℕ × SeatView). IsSeat (of_raise x ∷ R.log) R.raise_seat R.drain_seat p.0 p.1 p.1.role)
        (λ z. (sym t.0 z, t.1 z))
        (subst (λ (r : Role). IsSeat (of_raise x ∷ R.log) R.raise_seat R.drain_seat seat (with_raise_step (length R.log) x v) r)
        (sym is) (raises.0, ((λ z. x ∷ raises.1.0 z), (λ z. length R.log ∷ raises.1.1 z)))))
        (λ (t : (j ≢ seat) × (get_elem? s.views j ≡ some d)). others x j d t.0 d.role (R.seats j d t.1))
        (at_set s.views seat j (with_raise_step (length R.log) x v) d e)

    -- a step of this side: its word, what it found there and what it left, and what it shows
    pub raise_goes : (x : RaiseStep) → AllEnabled k.ceiling (raise_event x ++ events_of R.log)
        → TrailsShow k.start (set s.words i n) (x ∷ raise_side R.log) (drain_side R.log)
        (reached k.ceiling (raise_event x ++ events_of R.log))
        → StillHolds k.start (set s.words i n) (x ∷ raise_side R.log) (drain_side R.log)
        (reached k.ceiling (raise_event x ++ events_of R.log))
        → i ≡ raise_word k.start x (raise_side R.log) → RaiseFound x (get_or s.words i 0)
        → n ≡ raise_leaves x (get_or s.words i 0)
        → ExtendsByRaise k s R (stepped s i n seat cs (with_raise_step (length R.log) x v) keeps) x
    raise_goes x on shows learned word found leaves = let v' : SeatView = with_raise_step (length R.log) x v in let d =
        R.soft_side in
        let e : RingStep = of_raise x in
        let now : set s.words i n ≡ replay k.start (e ∷ R.log) = (λ z. set s.words i (leaves z))
        ∙ (λ z. set (R.words z) (word z) (left_by_step e (get_or (R.words z) (word z) 0))) in (
          record {
            log = e ∷ R.log;
            raise_seat = R.raise_seat;
            drain_seat = R.drain_seat;
            fits = R.fits;
            words = now;
            all_true = (subst (λ (m : ℕ). FoundIs e m) (λ z. get_or (R.words z) (word z) 0) found, R.all_true);
            firing_side = (
              v',
              ap (λ (j : ℕ). get_elem? (set s.views seat v') j) (sym raises.0)
                  ∙ at_here s.views seat v v' at,
              subst IsFiring (sym is) tt,
            );
            soft_side = (
              d.0,
              other_stays s.views seat R.drain_seat v' d.0
                  (soft_apart s.views seat R.drain_seat v d.0 at d.1 is d.2) d.1,
              d.2,
            );
            seats = known_after x;
            enabled = on;
            shown = (
              (
                subst (λ (ws : List ℕ). TrailsShow k.start ws (x ∷ raise_side R.log) (drain_side R.log)
                    (reached k.ceiling (raise_event x ++ events_of R.log))) now shows,
                subst (λ (ws : List ℕ). StillHolds k.start ws (x ∷ raise_side R.log) (drain_side R.log)
                    (reached k.ceiling (raise_event x ++ events_of R.log))) now learned,
              ),
              R.shown,
            );
          },
          refl,
        )

  module _ (is : v.role ≡ Drain) where
    pub drains : (seat ≡ R.drain_seat) × HasDrains R.log v
    drains = subst (λ (r : Role). IsSeat R.log R.raise_seat R.drain_seat seat v r) is (R.seats seat v at)

    others_drain : (x : DrainStep) (j : ℕ) (d : SeatView) → j ≢ seat → (r : Role) → IsSeat R.log R.raise_seat R.drain_seat j d r
        → IsSeat (of_drain x ∷ R.log) R.raise_seat R.drain_seat j d r
    others_drain x j d ne Joint h = absurd (ne (h.1 ∙ sym drains.0))
    others_drain x j d ne Raise h = h
    others_drain x j d ne Drain h = absurd (ne (h.0 ∙ sym drains.0))
    others_drain x j d ne Spent h = tt

    known_drain : (x : DrainStep) (j : ℕ) (d : SeatView)
        → get_elem? (set s.views seat (with_drain_step (length R.log) x v)) j ≡ some d
        → IsSeat (of_drain x ∷ R.log) R.raise_seat R.drain_seat j d d.role
    known_drain x j d e = ⊎_elim
        (λ (t : (j ≡ seat) × (with_drain_step (length R.log) x v ≡ d)). subst
        (λ (p : ℕ × SeatView). IsSeat (of_drain x ∷ R.log) R.raise_seat R.drain_seat p.0 p.1 p.1.role)
        (λ z. (sym t.0 z, t.1 z))
        (subst (λ (r : Role). IsSeat (of_drain x ∷ R.log) R.raise_seat R.drain_seat seat (with_drain_step (length R.log) x v) r)
        (sym is) (drains.0, ((λ z. x ∷ drains.1.0 z), (λ z. length R.log ∷ drains.1.1 z)))))
        (λ (t : (j ≢ seat) × (get_elem? s.views j ≡ some d)). others_drain x j d t.0 d.role (R.seats j d t.1))
        (at_set s.views seat j (with_drain_step (length R.log) x v) d e)

    -- a step of this side: its word, what it found there and what it left, and what it shows
    pub drain_goes : (x : DrainStep) → AllEnabled k.ceiling (drain_event x ++ events_of R.log)
        → TrailsShow k.start (set s.words i n) (raise_side R.log) (x ∷ drain_side R.log)
        (reached k.ceiling (drain_event x ++ events_of R.log))
        → StillHolds k.start (set s.words i n) (raise_side R.log) (x ∷ drain_side R.log)
        (reached k.ceiling (drain_event x ++ events_of R.log))
        → i ≡ drain_word k.start x (drain_side R.log) → DrainFound x (get_or s.words i 0)
        → n ≡ drain_leaves x (get_or s.words i 0)
        → ExtendsByDrain k s R (stepped s i n seat cs (with_drain_step (length R.log) x v) keeps) x
    drain_goes x on shows learned word found leaves = let v' : SeatView = with_drain_step
        (length R.log) x v in let f = R.firing_side in
        let e : RingStep = of_drain x in
        let now : set s.words i n ≡ replay k.start (e ∷ R.log) = (λ z. set s.words i (leaves z))
        ∙ (λ z. set (R.words z) (word z) (left_by_step e (get_or (R.words z) (word z) 0))) in (
          record {
            log = e ∷ R.log;
            raise_seat = R.raise_seat;
            drain_seat = R.drain_seat;
            fits = R.fits;
            words = now;
            all_true = (subst (λ (m : ℕ). FoundIs e m) (λ z. get_or (R.words z) (word z) 0) found, R.all_true);
            firing_side = (
              f.0,
              other_stays s.views seat R.raise_seat v' f.0
                  (firing_apart s.views seat R.raise_seat v f.0 at f.1 is f.2) f.1,
              f.2,
            );
            soft_side = (
              v',
              ap (λ (j : ℕ). get_elem? (set s.views seat v') j) (sym drains.0)
                  ∙ at_here s.views seat v v' at,
              subst IsSoft (sym is) tt,
            );
            seats = known_drain x;
            enabled = on;
            shown = (
              (
                subst (λ (ws : List ℕ). TrailsShow k.start ws (raise_side R.log) (x ∷ drain_side R.log)
                    (reached k.ceiling (drain_event x ++ events_of R.log))) now shows,
                subst (λ (ws : List ℕ). StillHolds k.start ws (raise_side R.log) (x ∷ drain_side R.log)
                    (reached k.ceiling (drain_event x ++ events_of R.log))) now learned,
              ),
              R.shown,
            );
          },
          refl,
        )
