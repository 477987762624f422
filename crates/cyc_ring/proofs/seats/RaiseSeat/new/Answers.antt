use Rattle.std.proofs.Common.{sym, subst, refl, List, ap, ◌∙◌, ◌%◌, ◌^◌, lit≤, mod-eq_of_lt, arith}
use Rattle.ring_rule.specs.Trail.{open_stay, firer_hand_of, hard_bank_of, producer_index}
use Rattle.ring_rule.specs.declared.RaiseStep.{RaiseStep}
use Rattle.cyc_finder.specs.Indexes.{FinderView, index_of}
use Rattle.cyc_ring.specs.Rows.{HoldsStays, stay_index}
use Rattle.cyc_ring.specs.declared.seats.Stays.{Stays}
use Rattle.cyc_ring.specs.Views.{IsBalanced, IsSeenSound}
use Rattle.cyc_ring.proofs.Rows.{fits_none}
use Rattle.cyc_ring.proofs.Balance.{balanced_none}
use Rattle.cyc_ring.proofs.seats.RaiseSeat.new.Goals as goal

pub invariant_of-result : goal.invariant_of-result
invariant_of-result c = let e = c.requires.empty in record {
  free_hand = ap firer_hand_of e;
  bank_is = (ap hard_bank_of (sym e), lit≤ tt, refl);
  next_is = sym (mod-eq_of_lt c.requires.ranges.2)
      ∙ ap (λ (t : List RaiseStep). producer_index c.args.setting.start t % 2 ^ 32) (sym e);
  ranges = c.requires.ranges;
  rows = subst (λ (p : Stays × List RaiseStep). HoldsStays p.0.ids p.0.sent p.0.lost p.1)
      (λ z. (sym c.in_ok-stays.ensures.ok z, sym e z)) fits_none;
  roomy = (let r = ap (λ (f : FinderView). f.room) c.in_ok-reserve.ensures.ok in let n = c.from.ensures in
      let f = ap (λ (f : FinderView). f.room) c.in_ok-finder.ensures in omega (arith, r, n, f));
  listed = λ id. ap (λ (f : FinderView). index_of id f.entries) c.in_ok-reserve.ensures.ok
      ∙ ap (λ (f : FinderView). index_of id f.entries) c.in_ok-finder.ensures
      ∙ ap (λ (t : List RaiseStep). stay_index (open_stay id t)) (sym e);
  seen = subst (IsSeenSound c.args.setting.ceiling) (sym e) (λ id s x. absurd (cc));
  balanced = subst IsBalanced (sym e) balanced_none;
}
