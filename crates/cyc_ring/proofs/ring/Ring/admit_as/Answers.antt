use Rattle.std.proofs.Common.{rules, ◌≡◌, ℕ, get_or, ◌%◌, ◌^◌, ◌<◌, ◌≤◌, List, ◌∷◌, length, set, refl, sym, ap, ◌∙◌, subst, arith}
use Rattle.std.proofs.Common.{pow_mono}
use Rattle.cyc_types.specs.Limits.{greatest_bank, cyclics}
use Rattle.ring_rule.specs.declared.RaiseStep.{RaiseStep}
use Rattle.ring_rule.specs.declared.RaiseStep.TheVariants.{Admitted}
use Rattle.ring_rule.specs.Words.{index_range}
use Rattle.ring_rule.specs.Trail.{open_stay, firer_hand_of, hard_bank_of, producer_index}
use Rattle.ring_rule.specs.Steps.{ThisSeat}
use Rattle.cyc_finder.specs.Indexes.{index_of}
use Rattle.cyc_ring.specs.Rows.{HoldsStays, stay_index}
use Rattle.cyc_ring.specs.Views.{IsSeenSound, IsBalanced}
use Rattle.cyc_ring.specs.declared.seats.Stays.{Stays}
use Rattle.cyc_ring.proofs.Rows.{fits_admitted}
use Rattle.cyc_ring.proofs.Listing.{listed_admitted}
use Rattle.cyc_ring.proofs.Learning.{sound_admits}
use Rattle.cyc_ring.proofs.Balance.{balanced_admitted}
use Rattle.cyc_ring.proofs.ring.Ring.admit_as.Goals as goal

pub invariant_of-raise_seat : goal.invariant_of-raise_seat
invariant_of-raise_seat g c = let r = c.args.raise_seat.now in let t : List RaiseStep = r.side.seat.me.0.raise_trail in let s' =
    c.admit.new.side.seat in let m = c.admit.ensures.1.1 in
    let id : ℕ = c.args.id in let i : ℕ = c.args.index in let n : ℕ = c.number.result in let at : ℕ = c.number-at.result in
    let is_id : n ≡ id = c.number.ensures.value in let is_at : at ≡ i = c.number-at.ensures.value in
    let x : RaiseStep = Admitted id i in let e : s'.me.0.raise_trail ≡ x ∷ t = ap (λ (m : ThisSeat). m.0.raise_trail) m
    ∙ (λ z. Admitted (c.requires.named.0 z) (is_at z) ∷ t) in
    let e' : s'.me.0.raise_trail ≡ Admitted n at ∷ t = e ∙ (λ z. Admitted (sym is_id z) (sym is_at z) ∷ t) in
    let room = c.requires.index.0 in let p : 2 ^ r.bank ≤ 2 ^ greatest_bank =
    pow_mono {i = r.bank} {j = greatest_bank} r.bank_is.1 in let q : 2 ^ greatest_bank ≡ cyclics = refl in
    let low : at < cyclics = omega (arith, room, p, q, is_at) in let some = c.number.ensures.valid.0 in let st = r.stays.value in
    let now : c.deref_mut-4.result.now ≡ record st { ids = set st.ids at n; sent = set st.sent at 0; lost = set st.lost at 0 } =
    c.deref_mut-4.ensures.value ∙ ap (λ (p : Stays). record p { lost = set p.lost at 0 })
    (c.deref_mut-3.ensures.value ∙ ap (λ (p : Stays). record p { sent = set p.sent at 0 })
    (c.deref_mut-2.ensures.value ∙ ap (λ (p : Stays). record p { ids = set p.ids at n }) c.deref_mut.ensures.value)) in
    let l1 : at < length st.ids = search rules in let l2 : at < length st.sent = search rules in let l3 : at < length st.lost =
    search rules in
    record {
      free_hand = ap firer_hand_of e ∙ r.free_hand;
      bank_is = (r.bank_is.0 ∙ ap hard_bank_of (sym e), r.bank_is.1, r.bank_is.2);
      next_is = r.next_is ∙ ap (λ (u : List RaiseStep). producer_index r.setting.start u % index_range) (sym e);
      ranges = r.ranges;
      rows = subst (λ (q : Stays × List RaiseStep). HoldsStays q.0.ids q.0.sent q.0.lost q.1)
          (λ z. (sym now z, sym e' z))
          (fits_admitted st.ids st.sent st.lost t r.rows n at low (ap (λ (j : ℕ). get_or st.ids j 0) is_at ∙ c.requires.index.1)
          (λ z. omega (arith, z, some)) (ap (λ (y : ℕ). open_stay y t) is_id ∙ c.requires.absent) l1 l2 l3);
      roomy = (let k = r.roomy in let e = c.insert.ensures.room in omega (arith, k, e));
      listed = subst (λ (u : List RaiseStep). (j : ℕ) → index_of j c.insert.new.self.entries ≡ stay_index (open_stay j u)) (sym e)
          (listed_admitted t (λ j. index_of j r.finder.entries) (λ j. index_of j c.insert.new.self.entries)
          r.listed id i c.insert.ensures.told);
      seen = subst (IsSeenSound r.setting.ceiling) (sym e)
          (sound_admits r.setting.ceiling t r.seen id i (subst (λ (b : ℕ). i < 2 ^ b) r.bank_is.0 room));
      balanced = subst IsBalanced (sym e) (balanced_admitted t r.balanced id i c.requires.absent);
    }
