-- The first name whose removal is open.
use Rattle.std.proofs.Common.{◌≡◌, ℕ, ◌<◌, ◌≤◌, ◌⊎◌, inl, inr, List, length, ap, arith}
use Rattle.std.specs.Prelude.{false}
use Rattle.std.proofs.lemmas.Bool.{cases_lt}
use Rattle.std.proofs.lemmas.List.{get_or_past}
use Rattle.cyc_words.specs.declared.named.Named.{Named}
use Rattle.cyc_words.specs.declared.named.Named.TheVariants.{Nothing}
use Rattle.cyc_words.specs.Names.{named_at, has_open_removal, NoneLeaves}

leaves_by : (names : List Named) (k name : ℕ) → length names ≤ k → ((j : ℕ) → j < k → has_open_removal (named_at names j) ≡ false)
    → (name < k) ⊎ (k ≤ name) → has_open_removal (named_at names name) ≡ false
leaves_by names k name far each (inl low) = each name low
leaves_by names k name far each (inr high) = ap has_open_removal (get_or_past names name Nothing (omega (arith, far, high)))

-- no name leaves where none does up to the last one
pub none_leaves : (names : List Named) (k : ℕ) → length names ≤ k
    → ((name : ℕ) → name < k → has_open_removal (named_at names name) ≡ false)
    → NoneLeaves names
none_leaves names k far each name = leaves_by names k name far each (cases_lt name k)
