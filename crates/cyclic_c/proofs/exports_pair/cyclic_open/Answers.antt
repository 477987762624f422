use Rattle.std.proofs.Common.{ℕ, Some, inl, inr, refl, ap, subst, ◌∙◌, arith}
use Rattle.cyc_border.specs.Pair.{IsNewPair}
use Rattle.cyclic_c.proofs.Passing.{none_of}
use Rattle.cyclic_c.proofs.exports_pair.cyclic_open.Goals as goal

pub returns : goal.returns
returns c =
    let made = c.in-Ok.ensures.ok in let is = c.in-Some.ensures.value in inl (
      refl,
      c.in-Some.ensures.valid.0 refl,
      (let some = c.if-most-eq0.false in omega (arith, some)),
      (
        none_of _ _ c.args.firing.now.told c.if-firing.false,
        none_of _ _ c.args.lock.now.told c.if-lock.false,
        none_of _ _ c.args.low.now.told c.if-low.false,
      ),
      c.in-Ok.hard,
      c.in-Ok.lock_soft,
      c.in-Ok.low_soft,
      c.put.ensures ∙ ap Some c.in-Ok-new.ensures.ok,
      c.put-2.ensures ∙ ap Some c.in-Ok-new-2.ensures.ok,
      c.put-3.ensures ∙ ap Some c.in-Ok-new-3.ensures.ok,
      subst (λ (n : ℕ). IsNewPair n c.in-Ok.hard.hard.lock c.in-Ok.lock_soft) is made.0,
      subst (λ (n : ℕ). IsNewPair n c.in-Ok.hard.hard.low c.in-Ok.low_soft) is made.1,
      made.2,
      made.3,
      made.4,
    )

pub returns-in_default-new : goal.returns-in_default-new
returns-in_default-new c =
    let f = none_of _ _ c.args.firing.now.told c.if-firing.false in
    let k = none_of _ _ c.args.lock.now.told c.if-lock.false in
    let w = none_of _ _ c.args.low.now.told c.if-low.false in
    inr (inr (
      refl,
      c.in-Some.ensures.valid.0 refl,
      (let some = c.if-most-eq0.false in omega (arith, some)),
      (f, k, w),
      (f, k, w),
    ))
