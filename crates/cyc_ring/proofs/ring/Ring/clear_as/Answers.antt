use Rattle.std.proofs.Common.{rules, ◌≡◌, ℕ, get_or, ◌%◌, ◌<◌, List, ◌∷◌, length, set, refl, sym, ap, ◌∙◌, subst, arith}
use Rattle.ring_rule.specs.declared.RaiseStep.{RaiseStep}
use Rattle.ring_rule.specs.declared.RaiseStep.TheVariants.{Cleared}
use Rattle.ring_rule.specs.Words.{index_range}
use Rattle.ring_rule.specs.Trail.{open_stay, firer_hand_of, hard_bank_of, producer_index}
use Rattle.ring_rule.specs.Steps.{ThisSeat}
use Rattle.cyc_finder.specs.Indexes.{index_of}
use Rattle.cyc_ring.specs.Rows.{HoldsStays, stay_index}
use Rattle.cyc_ring.specs.Views.{IsSeenSound, IsBalanced}
use Rattle.cyc_ring.specs.declared.seats.Stays.{Stays}
use Rattle.cyc_ring.proofs.Rows.{fits_cleared}
use Rattle.cyc_ring.proofs.Listing.{listed_cleared}
use Rattle.cyc_ring.proofs.Learning.{sound_cleared}
use Rattle.cyc_ring.proofs.Balance.{balanced_cleared}
use Rattle.cyc_ring.proofs.ring.Ring.clear_as.Goals as goal

pub clear-requires-clause-stay : goal.clear-requires-clause-stay
clear-requires-clause-stay g c = let r = c.args.raise_seat.now in let i = c.requires.index in (
  i.0,
  (
    record {
      index = c.args.index;
      sent = get_or r.stays.value.sent c.args.index 0;
      lost =
          get_or r.stays.value.lost c.args.index 0;
    },
    ap (λ (x : ℕ). open_stay x r.side.seat.me.0.raise_trail) (c.requires.named.0
        ∙ sym i.1) ∙ r.rows.used c.args.index i.0 (λ z. i.2 (sym i.1 ∙ z)),
    refl,
  ),
)

pub invariant_of-raise_seat : goal.invariant_of-raise_seat
invariant_of-raise_seat g c = let r = c.args.raise_seat.now in let t : List RaiseStep = r.side.seat.me.0.raise_trail in let s' =
    c.clear.new.side.seat in let m = c.clear.ensures.1.1 in let i : ℕ = c.args.index in
    let x : RaiseStep = Cleared c.args.id in let e : s'.me.0.raise_trail ≡ x ∷ t = ap (λ (m : ThisSeat). m.0.raise_trail) m
    ∙ ap (λ (y : ℕ). Cleared y ∷ t) c.requires.named.0 in
    let long : i < length r.stays.value.ids = search rules in record {
      free_hand = ap firer_hand_of e ∙ r.free_hand;
      bank_is = (r.bank_is.0 ∙ ap hard_bank_of (sym e), r.bank_is.1, r.bank_is.2);
      next_is = r.next_is ∙ ap (λ (u : List RaiseStep). producer_index r.setting.start u % index_range) (sym e);
      ranges = r.ranges;
      rows = subst (λ (p : Stays × List RaiseStep). HoldsStays (set p.0.ids i 0) p.0.sent p.0.lost p.1)
          (λ z. (sym c.deref_mut.ensures.value z, sym e z))
          (fits_cleared r.stays.value.ids r.stays.value.sent r.stays.value.lost t r.rows c.args.id i c.requires.index.0
          c.requires.index.1 c.requires.index.2 long);
      roomy = (let k = r.roomy in let e = c.remove.ensures.room in omega (arith, k, e));
      listed = subst (λ (u : List RaiseStep). (id : ℕ) → index_of id c.remove.new.self.entries ≡ stay_index (open_stay id u))
          (sym e)
          (listed_cleared t (λ id. index_of id r.finder.entries)
          (λ id. index_of id c.remove.new.self.entries) r.listed c.args.id c.remove.ensures.told);
      seen = subst (IsSeenSound r.setting.ceiling) (sym e) (sound_cleared r.setting.ceiling t r.seen c.args.id);
      balanced = subst IsBalanced (sym e) (balanced_cleared t r.balanced c.args.id);
    }
