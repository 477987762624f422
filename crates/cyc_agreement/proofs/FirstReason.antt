-- The first reason of several that holds.
use Rattle.std.proofs.Common.{◌≡◌, ◌≢◌, ℕ, ◌+◌, ◌<◌, ◌≤◌, Bool, true, false, Option, Some, None, List, ◌∷◌, ap, ◌∙◌, arith}
use Rattle.std.specs.Prelude.{nat_le}
use Rattle.std.proofs.lemmas.Bool.Decides.{nat_tests}
use Rattle.cyc_types.specs.Limits.{last_id}
use Rattle.cyc_types.specs.Series.{never}
use Rattle.cyc_types.specs.declared.refusal.Refusal.{Refusal}
use Rattle.cyc_types.specs.Reasons.{first_refusal, or_else, when, bad_now}
use Rattle.cyc_agreement.specs.System.{SystemView}
use Rattle.cyc_agreement.specs.Refusals.{ids_spent}

pub not_when : (b : Bool) (e : Refusal) → b ≡ false → when b e ≡ None
not_when b e h = ap (λ c. when c e) h

pub is_when : (b : Bool) (e : Refusal) → b ≡ true → when b e ≡ Some e
is_when b e h = ap (λ c. when c e) h

-- the first reason does not hold
pub passes : (o : Option Refusal) (whys : List (Option Refusal)) (r : Option Refusal) → o ≡ None → first_refusal whys ≡ r
    → first_refusal (o ∷ whys) ≡ r
passes o whys r h rest = ap (λ p. or_else p (first_refusal whys)) h ∙ rest

-- it holds
pub stops : (o : Option Refusal) (whys : List (Option Refusal)) (e : Refusal) → o ≡ Some e → first_refusal (o ∷ whys) ≡ Some e
stops o whys e h = ap (λ p. or_else p (first_refusal whys)) h

pub not_le : (a b : ℕ) → b < a → nat_le a b ≡ false
not_le a b h = grind (arith, nat_tests)

pub le_true : (a b : ℕ) → a ≤ b → nat_le a b ≡ true
le_true a b h = grind (arith, nat_tests)

pub not_never : (now : ℕ) → now ≤ never → now ≢ never → bad_now now ≡ None
not_never now low ne = not_when (nat_le never now) _ (not_le never now (omega (arith, low, ne)))

pub not_spent : {R : Type 0} (s : SystemView R) → s.last + 1 ≤ last_id → ids_spent s ≡ None
not_spent s low = not_when (nat_le last_id s.last) _ (not_le last_id s.last (omega (arith, low)))
