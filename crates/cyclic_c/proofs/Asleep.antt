-- What a fire of a suspended CPU leaves behind a handle.
use Rattle.std.proofs.Common.{◌≡◌, ℕ, pos, inl, inr, Option, Some, None, Result, ap, subst, ◌∙◌, arith}
use Rattle.std.proofs.Math.Dec.{ltb→lt}
use Rattle.cyc_timers.specs.declared.fire.Fired.{Fired}
use Rattle.cyc_timers.specs.declared.fire.FireRefused.{FireRefused}
use Rattle.cyc_border.specs.Border.{Through}
use Rattle.cyc_border.specs.Parts.{asleep}
use Rattle.cyclic_c.specs.Exports.{FiresOut, Written, WritesFired, AnswersSuspended, fire_number}
use Rattle.cyclic_c.specs.declared.records.CyclicFired.{CyclicFired}

module _ {X : Type 0} (part : ℕ → Result Fired FireRefused → X → X → Type 0) (v : X)
    (answers : (now : ℕ) (answer : Result Fired FireRefused) (w : X) → part now answer v w → answer ≡ asleep)
    (keeps : (now : ℕ) (answer : Result Fired FireRefused) (w : X) → part now answer v w → w ≡ v) where
  pub kept : (now r : ℕ) (out : Written CyclicFired) (n : Option X) → Through (Some v) n r (FiresOut part (pos now) r out)
      → AnswersSuspended r out.new × (n ≡ Some v)
  kept now r out None none = absurd none
  kept now r out (Some w) (inl (below, number, stays, same)) =
      let none = ltb→lt now 0 below.lt in absurd (omega (arith, none))
  kept now r out (Some w) (inr (m, is, answer, number, writes, made)) =
      let asleep_is = answers m answer w made in
      let written = subst (λ a. WritesFired a out.new) asleep_is writes in (
        (number ∙ ap fire_number asleep_is, written.0, written.1, written.2, written.3),
        ap Some (keeps m answer w made),
      )
