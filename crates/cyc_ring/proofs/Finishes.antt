-- The finish of a call on a drain seat, whatever it found.
use Rattle.std.proofs.Common.{◌≡◌, ◌≢◌, ℕ, List, [], ◌∷◌, refl, sym, ◌∙◌, subst}
use Rattle.std.specs.Prelude.{Option, Some, IsSome, IfSome}
use Rattle.cyc_types.specs.Draining.{Finishes}
use Rattle.cyc_types.specs.declared.draining.Finished.{Finished}
use Rattle.ring_rule.specs.declared.Setting.{Setting}
use Rattle.ring_rule.specs.declared.DrainStep.{DrainStep}
use Rattle.ring_rule.specs.declared.DrainStep.TheVariants.{Subtracted}
use Rattle.ring_rule.specs.Words.{entry_id}
use Rattle.ring_rule.specs.Trail.{held_entry, id_in_entry}
use Rattle.cyc_ring.specs.Steps.{IsFinish, MakesDrainCall}
use Rattle.ring_steps.specs.Sides.{MakesDrainStep}
use Rattle.cyc_ring.specs.Ends.{IsSameDrainSeat}
use Rattle.cyc_ring.specs.declared.seats.DrainSeat.{DrainSeat}
use Rattle.cyc_ring.proofs.Calls.{no_drain, one_drain, drain_call}
use Rattle.cyc_ring.proofs.Hands.{entry_some, full_hand}

-- the `fetch_sub` of 1 is the finish of the id in hand, with the answer by what it found
pub finish_call : (d d' : DrainSeat) (k' : Setting) → d.setting ≡ k' → (found : ℕ) (answer : Finished)
    → IsSome (id_in_entry (held_entry d.side.seat.me.0.drain_trail)) → IsSameDrainSeat d d'
    → MakesDrainStep k' (Subtracted found) d.side.seat d'.side.seat → IsFinish found answer
    → IfSome (id_in_entry (held_entry d.side.seat.me.0.drain_trail)) (λ id. IsSameDrainSeat d d'
    × MakesDrainCall d.setting d.side.seat.me.0 (Finishes id answer) d'.side.seat.me.0)
finish_call d d' k' same found answer some own made is = let k = d.setting in let s = d.side.seat in let s' = d'.side.seat in
    let t : List DrainStep = s.me.0.drain_trail in
    let m : MakesDrainStep k (Subtracted found) s s' =
    subst (λ (x : Setting). MakesDrainStep x (Subtracted found) s s') (sym same) made in
    let full : d.hand ≢ 0 = full_hand d.hand (subst (λ (o : Option ℕ). IsSome (id_in_entry o)) d.hand_is some) in
    let held : held_entry t ≡ Some d.hand = d.hand_is ∙ entry_some d.hand full in
    subst (λ (o : Option ℕ). IfSome (id_in_entry o) (λ id. IsSameDrainSeat d d'
    × MakesDrainCall k s.me.0 (Finishes id answer) s'.me.0))
    (sym held) (
      own,
      drain_call k s.me.0 s' (Subtracted found ∷ []) (Finishes (entry_id d.hand) answer)
          (one_drain k (Subtracted found) s.me.0 [] s s' (no_drain k s d.side.role) m) (d.hand, found, held, refl, is, refl),
    )
