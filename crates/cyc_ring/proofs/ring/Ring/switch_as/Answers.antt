use Rattle.std.proofs.Common.{◌≡◌, ℕ, ◌%◌, ◌^◌, ◌<◌, ◌≤◌, List, ◌∷◌, refl, sym, ap, ◌∙◌, subst, arith}
use Rattle.ring_rule.specs.declared.RaiseStep.{RaiseStep}
use Rattle.ring_rule.specs.declared.RaiseStep.TheVariants.{Switched}
use Rattle.ring_rule.specs.Words.{index_range}
use Rattle.ring_rule.specs.Trail.{open_stay, firer_hand_of, hard_bank_of, producer_index}
use Rattle.ring_rule.specs.Steps.{ThisSeat}
use Rattle.cyc_finder.specs.Indexes.{index_of}
use Rattle.cyc_ring.specs.Rows.{HoldsStays, stay_index}
use Rattle.cyc_ring.specs.Views.{IsSeenSound, IsBalanced}
use Rattle.cyc_ring.proofs.Rows.{fits_same}
use Rattle.cyc_ring.proofs.Learning.{sound_expands}
use Rattle.std.proofs.Common.{mod-eq_of_lt, pow_mono, pow_pos}
use Rattle.cyc_types.specs.Limits.{greatest_bank, cyclics}
use Rattle.cyc_ring.proofs.ring.Ring.switch_as.Goals as goal

pub invariant_of-raise_seat : goal.invariant_of-raise_seat
invariant_of-raise_seat g c = let r = c.args.raise_seat.now in let t : List RaiseStep = r.side.seat.me.0.raise_trail in let s' =
    c.switch.new.side.seat in let m = c.switch.ensures.1.1 in
    let x : RaiseStep = Switched c.args.bank in let e : s'.me.0.raise_trail ≡ x ∷ t = ap (λ (m : ThisSeat). m.0.raise_trail) m in
    record {
      free_hand = ap firer_hand_of e ∙ r.free_hand;
      bank_is = (
        ap hard_bank_of (sym e),
        c.requires.bank.1,
        (let p : 0 < 2 ^ c.args.bank = pow_pos c.args.bank in
            let q : 2 ^ c.args.bank ≤ 2 ^ greatest_bank = pow_mono {i = c.args.bank} {j = greatest_bank} c.requires.bank.1 in
            let z : 2 ^ greatest_bank ≡ cyclics = refl in omega (arith, p, q, z)),
      );
      next_is = sym (mod-eq_of_lt (let w = r.ranges.2 in omega (arith, w)))
          ∙ ap (λ (u : List RaiseStep). producer_index r.setting.start u % index_range) (sym e);
      ranges = r.ranges;
      rows = subst (HoldsStays r.stays.value.ids r.stays.value.sent r.stays.value.lost) (sym e)
          (fits_same r.stays.value.ids r.stays.value.sent r.stays.value.lost t (x ∷ t) (λ id. refl) r.rows);
      roomy = r.roomy;
      listed = subst (λ (u : List RaiseStep). (id : ℕ) → index_of id r.finder.entries ≡ stay_index (open_stay id u))
          (sym e) r.listed;
      seen = subst (IsSeenSound r.setting.ceiling) (sym e)
          (sound_expands r.setting.ceiling t r.seen c.args.bank (let b = r.bank_is.0 in let more = c.requires.bank.0 in
          omega (arith, b, more)));
      balanced = subst IsBalanced (sym e) r.balanced;
    }
