-- A raise seat whose one cyclic was admitted at the first index, and raised since.
use Rattle.std.proofs.Common.{◌≡◌, ◌∙◌, ℕ, ◌+◌, cond, true, Some, None, List, [], ◌++◌, refl, sym, ap, subst, arith, eq-eqb}
use Rattle.std.specs.Prelude.{is_none}
use Rattle.cyc_types.specs.Firing.{FiringView, IsAdmitted, Stay, Admits, Raises, Learns}
use Rattle.cyc_types.specs.declared.firing.Raised.{Raised}
use Rattle.cyc_types.specs.declared.firing.Raised.TheVariants.{First, More, Lost}
use Rattle.cyc_types.proofs.RunStays.{learns_stay}
use Rattle.ring_rule.specs.Trail.{ended_calls, firer_hand_of, marked_of}
use Rattle.ring_rule.specs.declared.RaiseStep.{RaiseStep}
use Rattle.ring_rule.specs.declared.Setting.{Setting}
use Rattle.cyc_ring.specs.Ends.{IsRaiseSeatOf, IsSameRaiseSeat, RaiseEndCall, end_view, raise_trail, seat_view}
use Rattle.cyc_ring.specs.Steps.{RaiseSteps}
use Rattle.cyc_ring.specs.declared.ends.RaiseEnd.{RaiseEnd}
use Rattle.cyc_ring.specs.declared.ring.Ring.{Ring}
use Rattle.cyc_ring.specs.declared.seats.RaiseSeat.{RaiseSeat}

-- the seat is the ring's, the cyclic has expired so often, and none of its stays has ended
pub record IsRaised (ring : Ring) (id n : ℕ) (seat : RaiseSeat) : Type 0 where
  pub own : IsRaiseSeatOf ring seat
  pub stay : IsAdmitted id (seat_view seat) (λ s. (s.index ≡ 0) × (s.sent ≡ n))
  pub unmarked : (seat_view seat).marked ≡ None
  pub free : (seat_view seat).hand_free ≡ true
  pub ended : ended_calls id (raise_trail seat) ≡ 0

still_own : (ring : Ring) (r r' : RaiseSeat) → IsRaiseSeatOf ring r → IsSameRaiseSeat r r' → IsRaiseSeatOf ring r'
still_own ring r r' own same = (same.0 ∙ own.0, same.1 ∙ own.1)

pub admitted : (ring : Ring) (id index : ℕ) (seat : RaiseSeat) (e f : RaiseEnd) → index ≡ 0 → e.seat ≡ seat
    → IsRaiseSeatOf ring seat → raise_trail seat ≡ []
    → RaiseEndCall e (Admits id index) f → Learns (end_view e) (Admits id index) (end_view f) → IsRaised ring id 0 f.seat
admitted ring id index seat e f first seated own new (same, call) learns =
    let admits : Stay = record { index = index; sent = 0; lost = 0; seen = 0 } in
    let empty : raise_trail e.seat ≡ [] = ap raise_trail seated ∙ new in
    record {
      own = still_own ring e.seat f.seat (subst (λ (r : RaiseSeat). IsRaiseSeatOf ring r) (sym seated) own) same;
      stay = (
        admits,
        ap (λ (v : FiringView). v.stays id) learns
            ∙ ap (λ b. cond b (Some admits) ((end_view e).stays id)) (eq-eqb id id refl),
        (first, refl),
      );
      unmarked = ap (λ (v : FiringView). v.marked) learns ∙ ap marked_of empty;
      free = ap (λ (v : FiringView). v.hand_free) learns ∙ ap (λ t. is_none (firer_hand_of t)) empty;
      ended = ap (ended_calls id) call.gained
          ∙ ap (λ steps. ended_calls id (steps ++ raise_trail e.seat)) call.made ∙ ap (ended_calls id) empty;
    }

-- no stay ends by a raise
raise_ends_none : (k : Setting) (t : List RaiseStep) (id a : ℕ) (answer : Raised) (steps : List RaiseStep)
    → RaiseSteps k t (Raises a answer) steps → ended_calls id (steps ++ t) ≡ ended_calls id t
raise_ends_none k t id a First steps made = ap (λ xs. ended_calls id (xs ++ t)) made.5
raise_ends_none k t id a More steps made = ap (λ xs. ended_calls id (xs ++ t)) made.6
raise_ends_none k t id a Lost steps made = ap (λ xs. ended_calls id (xs ++ t)) made.1

raise_keeps : (v w : FiringView) (id : ℕ) (answer : Raised) → Learns v (Raises id answer) w
    → (w.hand_free ≡ v.hand_free) × (w.marked ≡ v.marked)
raise_keeps v w id First l = (ap (λ (x : FiringView). x.hand_free) l, ap (λ (x : FiringView). x.marked) l)
raise_keeps v w id More l = (ap (λ (x : FiringView). x.hand_free) l.4, ap (λ (x : FiringView). x.marked) l.4)
raise_keeps v w id Lost l = (ap (λ (x : FiringView). x.hand_free) l.1, ap (λ (x : FiringView). x.marked) l.1)

pub raised : (ring : Ring) (id n : ℕ) (e f : RaiseEnd) (answer : Raised) → IsRaised ring id n e.seat
    → RaiseEndCall e (Raises id answer) f → Learns (end_view e) (Raises id answer) (end_view f) → IsRaised ring id (n + 1) f.seat
raised ring id n e f answer before (same, call) learns =
    let (s, here, is) = before.stay in let sent = is.1 in
    let went = learns_stay id (end_view e) (end_view f) (Raises id answer) s learns refl here in
    let keeps = raise_keeps (end_view e) (end_view f) id answer learns in
    let grown = went.3 in let one = ap (λ b. cond {A = ℕ} b 1 0) (eq-eqb id id refl) in
    record {
      own = still_own ring e.seat f.seat before.own same;
      stay = (went.0, went.1, (went.2 ∙ is.0, omega (arith, grown, one, sent)));
      unmarked = keeps.1 ∙ before.unmarked;
      free = keeps.0 ∙ before.free;
      ended = ap (ended_calls id) call.gained
          ∙ raise_ends_none e.seat.setting (raise_trail e.seat) id id answer call.steps call.made ∙ before.ended;
    }
