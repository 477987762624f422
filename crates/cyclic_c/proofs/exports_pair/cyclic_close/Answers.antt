use Rattle.std.proofs.Common.{Some, inl, refl, sym, ap, ◌∙◌}
use Rattle.cyc_border.specs.declared.pair.Firing.{Firing}
use Rattle.cyc_border.specs.declared.soft_side.SoftSide.{SoftSide}
use Rattle.cyclic_c.specs.PairOut.{shelved}
use Rattle.cyclic_c.proofs.exports_pair.cyclic_close.Goals as goal

pub closed-requires : goal.closed-requires
closed-requires c =
    let same = c.requires _ _ _ c.in-Some.ensures.some c.in-Some-take.ensures.some c.in-Some-take-2.ensures.some in
    let f = c.into_inner.ensures in (
      ap (λ (x : Firing). x.hard.lock.ring.value) f ∙ same.0 ∙ sym (ap (λ (x : SoftSide). x.ring.value) c.into_inner-2.ensures),
      ap (λ (x : Firing). x.hard.low.ring.value) f ∙ same.1 ∙ sym (ap (λ (x : SoftSide). x.ring.value) c.into_inner-3.ensures),
    )

pub returns : goal.returns
returns c = inl (
  refl,
  (c.take.ensures.closed, c.take-2.ensures.closed, c.take-3.ensures.closed),
  c.into_inner.result,
  c.into_inner-2.result,
  c.into_inner-3.result,
  c.in-Some-closed.done,
  c.in-Some.ensures.some ∙ ap Some (sym c.into_inner.ensures),
  c.in-Some-take.ensures.some ∙ ap Some (sym c.into_inner-2.ensures),
  c.in-Some-take-2.ensures.some ∙ ap Some (sym c.into_inner-3.ensures),
  ap shelved c.put.ensures,
  c.in-Some-closed.ensures.0,
  c.in-Some-closed.ensures.1,
)
