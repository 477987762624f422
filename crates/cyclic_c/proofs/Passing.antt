-- A call that came through an open handle.
use Rattle.std.proofs.Common.{◌≡◌, ℕ, Bool, false, Option, Some, None, refl, sym, ◌∙◌, subst}
use Rattle.std.specs.Prelude.{IsTrue, IsSome, ◌↔◌}
use Rattle.cyc_border.specs.Border.{Through}

pub through : {X : Type 0} (m n : Option X) (v w : X) (r : ℕ) (made : X → X → Type 0) → m ≡ Some v → n ≡ Some w → made v w
    → Through m n r made
through {X} m n v w r made e f h =
    subst (λ (x : Option X). Through x n r made) (sym e) (subst (λ (y : Option X). Through (Some v) y r made) (sym f) h)

-- a handle that says that it is closed owns nothing
pub none_of : {X : Type 0} (b : Bool) (m : Option X) → (IsTrue b ↔ IsSome m) → b ≡ false → m ≡ None
none_of b None told e = refl
none_of b (Some x) told e = absurd (mathlib.Core.Bool.false≢true (sym e ∙ told.1 refl))
