use Rattle.std.proofs.Common.{◌≡◌, ℕ, ◌-◌, ◌<◌, Bool, true, false, ltb, length, get_or, refl, ap, arith}
use Rattle.std.specs.Bool.{OnTrue}
use Rattle.std.proofs.lemmas.Bool.{ltb-true}
use Rattle.cyc_finder.specs.Sorted.{IsGap}
use Rattle.cyc_finder.proofs.sorted.is_above_all.Goals as goal

on_less : (b : Bool) (m n : ℕ) (P : Type 0) → b ≡ ltb m n → (m < n → P) → OnTrue b P
on_less true m n P is then = then (ltb-true m n (let e : ltb m n ≡ true = cc in e))
on_less false m n P is then = tt

pub returns-in-Some : goal.returns-in-Some
returns-in-Some g c =
    let id_of = g.T.HasId.id_of in let things = c.args.things.now in let end = length things - 1 in
    let it = c.in-Some.ensures.item.3 in
    on_less _ c.number.result c.number-in-Some.result (IsGap id_of things c.args.id (length things)) refl (λ less. record {
      in_range = omega arith;
      smaller_before = λ j d low.
          let at = ap id_of (it.1 d) in let up = c.requires j end d in
          let same : (j ≡ end) → id_of (get_or things j d) ≡ id_of (get_or things end d)
          = λ e. ap (λ k. id_of (get_or things k d)) e in
          let n = c.number.ensures in let m = c.number-in-Some.ensures.value in let some = it.0 in
          grind (arith, at, up, same, less, n, m, some, low);
      greater_after = λ j d past low. absurd (omega (arith, past, low));
    })
