-- A look that takes nothing.
use Rattle.std.proofs.Common.{◌≡◌, ℕ, cond, ◌==◌, Bool, true, false, List, [], ◌∷◌, Some, None, refl, sym, ap, ◌∙◌, arith}
use Rattle.std.proofs.lemmas.Bool.Decides.{nat_tests}
use Rattle.std.specs.List.{FoldsTo}
use Rattle.cyc_types.specs.Draining.{Takes}
use Rattle.cyc_level.specs.Level.{SoftLevel, soft_list}
use Rattle.cyc_level.specs.Events.{after, first_of}
use Rattle.cyc_level.specs.declared.Event.TheVariants.{Take}
use Rattle.cyc_level.specs.Lawful.{Lawful}
use Rattle.cyc_core.specs.Reached.{Happens}
use Rattle.cyc_core.specs.DrainingSide.{Drains, take_events}

-- a taken id is in the hand
took_none : (x : ℕ) (xs : List ℕ) (l m : SoftLevel) → soft_list l ≡ x ∷ xs → m ≡ after Take l → None ≡ m.drainer_hand
    → (m.old_list ≡ []) × (m.new_list ≡ [])
took_none x xs l m some is none =
    let hand : m.drainer_hand ≡ Some x = ap (λ (k : SoftLevel). k.drainer_hand) is ∙ ap first_of some in
    absurd (let no : None ≡ Some x = none ∙ hand in cc)

same_banks : (a b : ℕ) → (a == b) ≡ true → a ≡ b
same_banks a b e = grind (arith, nat_tests)

took_nothing : (old new : List ℕ) (same : Bool) (l m : SoftLevel) → Lawful l → l.old_list ≡ old → l.new_list ≡ new
    → (l.hard_bank == l.soft_bank) ≡ same
    → FoldsTo Happens l (take_events old new same) m → None ≡ m.drainer_hand → (m.old_list ≡ []) × (m.new_list ≡ [])
took_nothing old (x ∷ xs) true l m law is_old is_new same (j, (on, is), last) none =
    took_none x xs l m (ap (λ b. cond b l.new_list l.old_list) same ∙ is_new) (sym last ∙ is) none
took_nothing old [] true l m law is_old is_new same last none = (
  ap (λ (k : SoftLevel). k.old_list) (sym last)
      ∙ law.old_empty (same_banks l.hard_bank l.soft_bank same),
  ap (λ (k : SoftLevel). k.new_list) (sym last) ∙ is_new,
)
took_nothing (x ∷ xs) [] false l m law is_old is_new same (j, (on, is), last) none =
    took_none x xs l m (ap (λ b. cond b l.new_list l.old_list) same ∙ is_old) (sym last ∙ is) none
took_nothing (x ∷ xs) (y ∷ ys) false l m law is_old is_new same (j, (on, is), last) none =
    took_none x xs l m (ap (λ b. cond b l.new_list l.old_list) same ∙ is_old) (sym last ∙ is) none
took_nothing [] (y ∷ ys) false l m law is_old is_new same (j, (on, is), (k, (then, taken), last)) none =
    let there : soft_list j ≡ y ∷ ys = ap soft_list is ∙ (ap (λ b. cond b l.new_list l.old_list) (equal l.hard_bank) ∙ is_new) in
    took_none y ys j m there (sym last ∙ taken) none
  where
    equal : (n : ℕ) → (n == n) ≡ true
    equal n = grind (arith, nat_tests)
took_nothing [] [] false l m law is_old is_new same (j, (on, is), last) none =
    (ap (λ (k : SoftLevel). k.old_list) (sym last ∙ is) ∙ is_old, ap (λ (k : SoftLevel). k.new_list) (sym last ∙ is) ∙ is_new)

pub idle_empty : (l m : SoftLevel) → Lawful l → Drains l (Takes None) m → (m.old_list ≡ []) × (m.new_list ≡ [])
idle_empty l m law (folds, none) = took_nothing l.old_list l.new_list
    (l.hard_bank == l.soft_bank) l m law refl refl refl folds none
