use Rattle.std.proofs.Common.{◌≡◌, true, sym, subst, subst₂, arith}
use Rattle.std.proofs.lemmas.Bool.{OnFalse_at}
use Rattle.std.proofs.lemmas.List.{get_or_default}
use Rattle.cyc_heap.specs.Tournament.{nowhere, comes}
use Rattle.cyc_heap.specs.Few.{IsHeapBut, IsBelow, IsSame}
use Rattle.cyc_heap.proofs.Moving.{child_low, hole_made, below_later, same_self, moved_filled, apart_moved}
use Rattle.cyc_heap.proofs.few.exchange.Goals.{then-position-gt0+then-expires_before, else-position-gt0}
use Rattle.cyc_heap.proofs.few.exchange.Goals.{else-position-gt0-via-then-position-gt0+else-expires_before}
use Rattle.cyc_heap.proofs.few.exchange.Goals.{else-position-gt0-via-else-position-gt0}
use Rattle.cyc_heap.proofs.few.exchange.Goals as goal

pub rise-hole-requires-clause-heap : goal.rise-hole-requires-clause-heap
rise-hole-requires-clause-heap c = hole_made c.args.position c.args.few.now c.requires.heap c.requires.position

pub sink-requires-clause-heap : goal.sink-requires-clause-heap
sink-requires-clause-heap c = elim c.if-position-gt0.branch [
  | then-position-gt0+then-expires_before w ↦ subst₂ (λ h f. IsHeapBut h f) (sym w.hole-is) (sym w.few-is)
      w.rise-hole.ensures.heap
  | else-position-gt0 w ↦ subst₂ (λ h f. IsHeapBut h f) (sym w.hole-is) (sym w.few-is)
      (hole_made c.args.position c.args.few.now c.requires.heap c.requires.position)
]

pub sink-requires-clause-below : goal.sink-requires-clause-below
sink-requires-clause-below c = elim c.if-position-gt0.branch [
  | then-position-gt0+then-expires_before w ↦ subst₂ (λ h f. IsBelow c.args.entry h f) (sym w.hole-is) (sym w.few-is)
      w.rise-hole.ensures.below
  | else-position-gt0 w ↦
      subst₂ (λ h f. IsBelow c.args.entry h f) (sym w.hole-is) (sym w.few-is) (elim w.else-position-gt0.branch [
        | else-position-gt0-via-then-position-gt0+else-expires_before w' ↦
            (let at = get_or_default c.args.few.now c.args.position nowhere w'.index-few-position.result c.requires.position in
            below_later c.args.position c.args.few.now c.args.entry c.requires.heap c.requires.position
            (subst (λ e. comes e c.args.entry ≡ true) (sym at)
            (OnFalse_at w'.if-expires_before.false w'.expires_before.ensures.after)))
        | else-position-gt0-via-else-position-gt0 w' ↦
            (λ a is. (let l = child_low a c.args.position is in let first = w'.if-position-gt0.false in
            absurd (omega (arith, l, first))))
      ])
]

pub sink-requires-clause-apart : goal.sink-requires-clause-apart
sink-requires-clause-apart c =
    apart_moved c.args.position c.args.few.now c.if-position-gt0.hole c.if-position-gt0.few c.args.entry
    (elim c.if-position-gt0.branch [
      | then-position-gt0+then-expires_before w ↦ subst₂ (λ h f. IsSame c.args.position c.args.few.now h f) (sym w.hole-is)
          (sym w.few-is) w.rise-hole.ensures.same
      | else-position-gt0 w ↦ subst₂ (λ h f. IsSame c.args.position c.args.few.now h f) (sym w.hole-is) (sym w.few-is)
          (same_self c.args.position c.args.few.now)
    ])
    c.requires.apart

pub returns-clause-filled : goal.returns-clause-filled
returns-clause-filled c =
    moved_filled c.args.position c.args.few.now c.if-position-gt0.hole c.if-position-gt0.few c.args.entry c.sink.new.few
    (elim c.if-position-gt0.branch [
      | then-position-gt0+then-expires_before w ↦ subst₂ (λ h f. IsSame c.args.position c.args.few.now h f) (sym w.hole-is)
          (sym w.few-is) w.rise-hole.ensures.same
      | else-position-gt0 w ↦ subst₂ (λ h f. IsSame c.args.position c.args.few.now h f) (sym w.hole-is) (sym w.few-is)
          (same_self c.args.position c.args.few.now)
    ])
    c.sink.ensures.filled
