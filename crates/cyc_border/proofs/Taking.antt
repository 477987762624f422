-- A soft interrupt whose handlers refuse every call makes none: where it stops in front of none, it is idle.
use Rattle.std.proofs.Common.{◌≡◌, ℕ, ◌<◌, List, [], ◌∷◌, length, Option, Result, Ok, Err, refl, sym, subst, lit<}
use Rattle.std.specs.Prelude.{IsTrue, IfOk, IfNone}
use Rattle.cyc_types.specs.declared.level.Soft.{Soft}
use Rattle.cyc_types.specs.declared.level.Soft.TheVariants.{Low, Lock}
use Rattle.cyc_types.specs.declared.level.Level.{Level}
use Rattle.cyc_types.specs.Levels.{at_level, as_level, handler_at}
use Rattle.cyc_core.specs.Tables.{Tables}
use Rattle.cyc_soft.specs.declared.Ran.{Ran}
use Rattle.cyc_soft.specs.declared.SoftRefused.{SoftRefused}
use Rattle.cyc_soft.specs.Serving.{Served, ids, IsSoftint, soft_side}
use Rattle.std.specs.List.{FoldsTo}
use Rattle.cyc_cpu.specs.Soft.{drain_tables, HasEmptyLists}
use Rattle.cyc_border.specs.Granted.{granted_called, granted_calls}
use Rattle.cyc_border.specs.Border.{refused_at, call_at, with_call}
use Rattle.cyc_border.specs.declared.cpu.Cpu.{Cpu}
use Rattle.cyc_border.specs.declared.granted.Granted.{Granted}
use Rattle.cyc_border.specs.declared.granted.Granted.TheVariants.{Nothing, One, Counted}

pub nothing_is : (id : ℕ) → Nothing ≡ One id → ⊥
nothing_is id e = subst (λ (g : Granted). elim g as (λ x. Type 0) [ Nothing ↦ Unit {0} | One j ↦ ⊥ | Counted j ↦ ⊥ ]) e tt

none_made : (level : Level) (ran : List Served) (left : Granted) → FoldsTo (at_level granted_called level) Nothing (ids ran) left
    → length ran ≡ 0
none_made level [] left way = refl
none_made level (s ∷ ran) left (m, (e, made), rest) = absurd (nothing_is s.id e)

module _ (level : Soft) (a b : Tables) (left : Granted) where
  pub idle_of : (answer : Result Ran SoftRefused)
      → IsSoftint drain_tables (handler_at granted_calls (as_level level)) 1 answer (soft_side a Nothing) (soft_side b left)
      → IfOk answer (λ r. IsTrue r.idle → HasEmptyLists b) → IfNone (refused_at answer) (HasEmptyLists b)
  idle_of (Ok r) did empty =
      let (ran, same, serves, held) = did.served in
      let none : r.calls < 1 = subst (λ n. n < 1) (same)
      (subst (λ n. n < 1) (sym (none_made (as_level level) ran left serves.called_all)) (lit< tt)) in
      empty (did.within.1.1 none)
  idle_of (Err e) did empty = tt

pub call_is : (level : Soft) (call : Option ℕ) (v : Cpu) → call_at level (with_call level call v) ≡ call
call_is Low call v = refl
call_is Lock call v = refl

pub same_hard : (level : Soft) (call : Option ℕ) (v : Cpu) → (with_call level call v).hard ≡ v.hard
same_hard Low call v = refl
same_hard Lock call v = refl
