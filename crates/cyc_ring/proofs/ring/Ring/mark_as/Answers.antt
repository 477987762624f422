use Rattle.std.proofs.Common.{◌≡◌, ℕ, get_or, ◌%◌, List, ◌∷◌, refl, sym, ap, ◌∙◌, subst}
use Rattle.ring_rule.specs.declared.RaiseStep.{RaiseStep}
use Rattle.ring_rule.specs.declared.RaiseStep.TheVariants.{Marked}
use Rattle.ring_rule.specs.Words.{index_range}
use Rattle.ring_rule.specs.Trail.{open_stay, firer_hand_of, hard_bank_of, producer_index}
use Rattle.ring_rule.specs.Steps.{ThisSeat}
use Rattle.cyc_finder.specs.Indexes.{index_of}
use Rattle.cyc_ring.specs.Rows.{HoldsStays, stay_index}
use Rattle.cyc_ring.specs.Views.{IsSeenSound, IsBalanced}
use Rattle.cyc_ring.proofs.Rows.{fits_same}
use Rattle.cyc_ring.proofs.Learning.{sound_marks}
use Rattle.cyc_ring.proofs.ring.Ring.mark_as.Goals as goal

pub mark-requires-clause-stay : goal.mark-requires-clause-stay
mark-requires-clause-stay g c = let r = c.args.raise_seat.now in let i = c.requires.index in (
  i.0,
  (
    record {
      index = c.args.index;
      sent = get_or r.stays.value.sent c.args.index 0;
      lost =
          get_or r.stays.value.lost c.args.index 0;
    },
    ap (λ (x : ℕ). open_stay x r.side.seat.me.0.raise_trail) (sym i.1)
        ∙ r.rows.used c.args.index i.0 (λ z. i.2 (sym i.1 ∙ z)),
    refl,
  ),
)

pub invariant_of-raise_seat : goal.invariant_of-raise_seat
invariant_of-raise_seat g c = let r = c.args.raise_seat.now in let t : List RaiseStep = r.side.seat.me.0.raise_trail in let s' =
    c.mark.new.side.seat in let m = c.mark.ensures.step.1.1 in
    let x : RaiseStep = Marked g.J.Served.id c.mark.result in let e : s'.me.0.raise_trail ≡ x ∷ t =
    ap (λ (m : ThisSeat). m.0.raise_trail) m in record {
      free_hand = ap firer_hand_of e ∙ r.free_hand;
      bank_is = (r.bank_is.0 ∙ ap hard_bank_of (sym e), r.bank_is.1, r.bank_is.2);
      next_is = r.next_is ∙ ap (λ (u : List RaiseStep). producer_index r.setting.start u % index_range) (sym e);
      ranges = r.ranges;
      rows = subst (HoldsStays r.stays.value.ids r.stays.value.sent r.stays.value.lost) (sym e)
          (fits_same r.stays.value.ids r.stays.value.sent r.stays.value.lost t (x ∷ t) (λ id. refl) r.rows);
      roomy = r.roomy;
      listed = subst (λ (u : List RaiseStep). (id : ℕ) → index_of id r.finder.entries ≡ stay_index (open_stay id u))
          (sym e) r.listed;
      seen = subst (IsSeenSound r.setting.ceiling) (sym e)
          (sound_marks r.setting.ceiling t r.seen g.J.Served.id c.mark.result c.mark.ensures.bound);
      balanced = subst IsBalanced (sym e) r.balanced;
    }
