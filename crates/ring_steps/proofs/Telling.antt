-- The law of a step at the setting that its call names, for words that have this setting.
use Rattle.std.proofs.Common.{◌≡◌, ℕ, subst}
use Rattle.atomic_table.specs.Table.{Allows}
use Rattle.ring_rule.specs.declared.Setting.{Setting}
use Rattle.ring_rule.specs.Rule.{MeetsRule}
use Rattle.ring_rule.specs.Steps.{ThisSeat, IsAllowed}
use Rattle.ring_rule.specs.Conservation.{StandsFor}

pub under : {x k : Setting} {slots seat : ℕ} {me : ThisSeat} {i : ℕ} → x ≡ k → (f : ℕ → ℕ) (tells : ℕ → ThisSeat → Type 0)
    → IsAllowed x (record { slots = slots; seat = seat; me = me; word = i; leaves = f }) tells
    → Allows (MeetsRule k) slots seat me i f (λ n m. tells n m × StandsFor x m.0)
under {x} {k} {slots} {seat} {me} {i} same f tells allows =
    subst (λ (y : Setting). Allows (MeetsRule y) slots seat me i f (λ n m. tells n m × StandsFor x m.0)) same allows
