-- The split of the seat of both sides, and the join of the two seats.
use Rattle.std.proofs.Common.{◌≡◌, ℕ, zero, suc, ◌≢◌, ◌⊎◌, List, [], ◌∷◌, ◌++◌, length, set, sym, refl, ap, ◌∙◌, subst, inl, inr}
use Rattle.std.proofs.Common.{⊎_elim}
use Rattle.atomic_table.proofs.Lists.{at_set}
use mathlib.Core.Option.{some, some-injective, some-ne-none}
use lib.ListN.{get_elem?}
use Rattle.ring_rule.specs.declared.Role.{Role}
use Rattle.ring_rule.specs.declared.Role.TheVariants.{Joint, Raise, Drain, Spent}
use Rattle.ring_rule.specs.declared.SeatView.{SeatView}
use Rattle.ring_rule.specs.declared.Setting.{Setting}
use Rattle.ring_rule.specs.Rule.{RingState, raise_view, drain_view, joint_view, spent_view, HasRaises, HasDrains, IsSeat}
use Rattle.ring_rule.specs.Rule.{MeetsRule}
use Rattle.ring_rule.specs.Moves.{SplitIsAllowed, JoinIsAllowed}
use Rattle.ring_rule.proofs.Seats.{length_set, at_here, other_stays, stays_before, at_last}

at_end : (l : List SeatView) (a b : SeatView) (j : ℕ) → get_elem? (l ++ a ∷ []) j ≡ some b → (get_elem? l j ≡ some b)
    ⊎ ((length l ≡ j) × (a ≡ b))
at_end [] a b zero e = inr (refl, some-injective a b e)
at_end [] a b (suc j) e = absurd (some-ne-none b (sym e))
at_end (x ∷ xs) a b zero e = inl e
at_end (x ∷ xs) a b (suc j) e = ⊎_elim inl (λ t. inr (ap suc t.0, t.1)) (at_end xs a b j e)

module _ (k : Setting) (s : RingState) (R : MeetsRule k s) where
  module _ (id : ℕ) (v : SeatView) (role : v.role ≡ Joint) (at : get_elem? s.views id ≡ some v) where
    whole : (id ≡ R.raise_seat) × (id ≡ R.drain_seat) × HasRaises R.log v × HasDrains R.log v
    whole = subst (λ (r : Role). IsSeat R.log R.raise_seat R.drain_seat id v r) role (R.seats id v at)

    other : (j : ℕ) (d : SeatView) → j ≢ id → (r : Role) → IsSeat R.log R.raise_seat R.drain_seat j d r
        → IsSeat R.log R.raise_seat (length s.views) j d r
    other j d ne Joint h = absurd (ne (h.0 ∙ sym whole.0))
    other j d ne Raise h = absurd (ne (h.0 ∙ sym whole.0))
    other j d ne Drain h = absurd (ne (h.0 ∙ sym whole.1))
    other j d ne Spent h = tt

    pub parted : MeetsRule k record {
      words = s.words;
      homes = s.homes;
      views =
          set s.views id (raise_view v) ++ drain_view v ∷ [];
    }
    parted = let long = length_set s.views id (raise_view v) in let views : List SeatView = set s.views id (raise_view v) in
        record {
          log = R.log;
          raise_seat = R.raise_seat;
          drain_seat = length s.views;
          fits = R.fits;
          words = R.words;
          all_true = R.all_true;
          firing_side = (
            raise_view v,
            ap (λ (j : ℕ). get_elem? (views ++ drain_view v ∷ []) j) (sym whole.0)
                ∙ stays_before views id (drain_view v) (raise_view v) (at_here s.views id v (raise_view v) at),
            tt,
          );
          soft_side = (
            drain_view v,
            ap (λ (j : ℕ). get_elem? (views ++ drain_view v ∷ []) j) (sym long)
                ∙ at_last views (drain_view v),
            tt,
          );
          seats = λ j d e. ⊎_elim
              (λ h. ⊎_elim (λ (t : (j ≡ id) × (raise_view v ≡ d)). subst
              (λ (p : ℕ × SeatView). IsSeat R.log R.raise_seat (length s.views) p.0 p.1 p.1.role) (λ z. (sym t.0 z, t.1 z))
              (whole.0, whole.2))
              (λ (t : (j ≢ id) × (get_elem? s.views j ≡ some d)). other j d t.0 d.role (R.seats j d t.1))
              (at_set s.views id j (raise_view v) d h))
              (λ t. subst (λ (p : SeatView). IsSeat R.log R.raise_seat (length s.views) j p p.role) t.1 (sym t.0 ∙ long, whole.3))
              (at_end (set s.views id (raise_view v)) (drain_view v) d j e);
          enabled = R.enabled;
          shown = R.shown;
        }

  module _ (id : ℕ) (v : SeatView) (raise : v.role ≡ Raise) (at : get_elem? s.views id ≡ some v) (o : ℕ) (w : SeatView)
      (drain : w.role ≡ Drain) (apart : ¬ (o ≡ id)) (there : get_elem? (set s.views id (joint_view v w)) o ≡ some w) where
    mine : (id ≡ R.raise_seat) × HasRaises R.log v
    mine = subst (λ (r : Role). IsSeat R.log R.raise_seat R.drain_seat id v r) raise (R.seats id v at)

    at_o : get_elem? s.views o ≡ some w
    at_o = ⊎_elim (λ t. absurd (apart t.0)) (λ t. t.1) (at_set s.views id o (joint_view v w) w there)

    its : (o ≡ R.drain_seat) × HasDrains R.log w
    its = subst (λ (r : Role). IsSeat R.log R.raise_seat R.drain_seat o w r) drain (R.seats o w at_o)

    rest : (j : ℕ) (d : SeatView) → j ≢ o → j ≢ id → (r : Role) → IsSeat R.log R.raise_seat R.drain_seat j d r
        → IsSeat R.log R.raise_seat id j d r
    rest j d nt ni Joint h = absurd (ni (h.0 ∙ sym mine.0))
    rest j d nt ni Raise h = absurd (ni (h.0 ∙ sym mine.0))
    rest j d nt ni Drain h = absurd (nt (h.0 ∙ sym its.0))
    rest j d nt ni Spent h = tt

    pub joined : MeetsRule k record {
      words = s.words;
      homes = s.homes;
      views =
          set (set s.views id (joint_view v w)) o spent_view;
    }
    joined = let views : List SeatView = set s.views id (joint_view v w) in
        let here : get_elem? (set views o spent_view) id ≡ some (joint_view v w) =
        other_stays views o id spent_view (joint_view v w) (λ e. apart (sym e)) (at_here s.views id v (joint_view v w) at) in
        record {
          log = R.log;
          raise_seat = R.raise_seat;
          drain_seat = id;
          fits = R.fits;
          words = R.words;
          all_true = R.all_true;
          firing_side = (joint_view v w, ap (λ (j : ℕ). get_elem? (set views o spent_view) j) (sym mine.0) ∙ here, tt);
          soft_side = (joint_view v w, here, tt);
          seats = λ j d e. ⊎_elim
              (λ t. subst (λ (p : SeatView). IsSeat R.log R.raise_seat id j p p.role) t.1 tt)
              (λ h. ⊎_elim (λ (t : (j ≡ id) × (joint_view v w ≡ d)). subst
              (λ (p : ℕ × SeatView). IsSeat R.log R.raise_seat id p.0 p.1 p.1.role) (λ z. (sym t.0 z, t.1 z))
              (mine.0, refl, mine.1, its.1))
              (λ (t : (j ≢ id) × (get_elem? s.views j ≡ some d)). rest j d h.0 t.0 d.role (R.seats j d t.1))
              (at_set s.views id j (joint_view v w) d h.1))
              (at_set (set s.views id (joint_view v w)) o j spent_view d e);
          enabled = R.enabled;
          shown = R.shown;
        }

pub splits : SplitIsAllowed
splits k id v role s R at = parted k s R id v role at

pub joins : JoinIsAllowed
joins k id v o w raise drain s R at apart there = joined k s R id v raise at o w drain apart there
