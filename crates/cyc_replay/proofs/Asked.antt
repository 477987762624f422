-- Which removals are open on the CPUs of a system.
use Rattle.std.proofs.Common.{◌≡◌, ℕ, zero, suc, ◌+◌, ◌-◌, ◌^◌, ◌<◌, ◌≤◌, inl, inr, ◌⊎◌, ⊎_elim, Bool, true}
use Rattle.std.proofs.Common.{false, List, [], ◌∷◌, length, min, Option, Some, None, refl, ap, sym, ◌∙◌, subst, arith}
use Rattle.std.specs.Prelude.{IfNone, IfSome, IsSome, IsTrue, ◌↔◌, ◌||◌, not, Err}
use Rattle.std.specs.Option.{option_and_then}
use Rattle.std.specs.List.{slice_get, list_any}
use Rattle.std.proofs.lemmas.Option.{slice_get_within}
use Rattle.cyc_types.specs.Limits.{last_id}
use Rattle.cyc_types.specs.declared.refusal.Refusal.{Refusal}
use Rattle.cyc_types.specs.declared.refusal.Refusal.TheVariants.{NoCyclic}
use Rattle.cyc_core.specs.Tables.{Tables}
use Rattle.cyc_cpu.specs.Cpu.{CpuView}
use Rattle.cyc_cpu.specs.Soft.{raise_tables}
use Rattle.cyc_system.specs.Cpus.{CpusView}
use Rattle.cyc_system.specs.System.{SystemView, removal_on, is_leaving_here}
use Rattle.cyc_system.proofs.Spots.{none_some}
use Rattle.cyc_system.proofs.One.{leaving_is}
use Rattle.cyc_system.specs.Calls.{Changes, PollRemove}
use Rattle.cyc_types.specs.Reasons.{when, or_else}

-- a CPU with an open removal is there
pub cpu_there : (n id : ℕ) (cpus : List (CpuView Tables))
    → option_and_then (λ (c : CpuView Tables). c.removal) (slice_get cpus n) ≡ Some id → n < length cpus
cpu_there n id cpus is = by (slice_get cpus n) refl is
  where
    by : (o : Option (CpuView Tables)) → slice_get cpus n ≡ o → option_and_then (λ (c : CpuView Tables). c.removal) o ≡ Some id
        → n < length cpus
    by None e h = absurd (none_some h)
    by (Some x) e h = slice_get_within cpus n x e

-- the least of these so far, with that of one CPU more
pub record LeastBelow (above cpu least : ℕ) (v : CpusView Tables) : Type 0 where
  pub here : least < 2 ^ 64 - 1 → ((n : ℕ) × (removal_on n v ≡ Some least)) × (above < least) × (least ≤ last_id)
  pub below : (n id : ℕ) → n < cpu → removal_on n v ≡ Some id → above < id → (least ≤ id) × (least ≤ last_id)

min_left : (a b : ℕ) → a ≤ b → min a b ≡ a
min_left a b h = omega (arith, h)

min_right : (a b : ℕ) → b < a → min a b ≡ b
min_right a b h = omega (arith, h)

either : (a b : ℕ) → (a ≤ b) ⊎ (b < a)
either a b = grind arith

pub same_or_below : (n cpu : ℕ) → n < cpu + 1 → (n < cpu) ⊎ (n ≡ cpu)
same_or_below n cpu h = grind (arith)

pub one_cpu_more : (above cpu least own : ℕ) (v : CpusView Tables) → LeastBelow above cpu least v
    → (own < 2 ^ 64 - 1 → (removal_on cpu v ≡ Some own) × (above < own) × (own ≤ last_id))
    → ((id : ℕ) → removal_on cpu v ≡ Some id → above < id → (own ≤ id) × (own ≤ last_id))
    → LeastBelow above (cpu + 1) (min least own) v
one_cpu_more above cpu least own v l here smaller = ⊎_elim
    (λ h. subst (λ k. LeastBelow above (cpu + 1) k v) (sym (min_left least own h)) (record {
      here = l.here;
      below = λ n id low is far. ⊎_elim (λ under. l.below n id under is far)
          (λ same. let b = smaller id (subst (λ k. removal_on k v ≡ Some id) same is) far in let x = b.0 in let y = b.1 in
          (omega (arith, h, x), omega (arith, h, y))) (same_or_below n cpu low);
    }))
    (λ h. subst (λ k. LeastBelow above (cpu + 1) k v) (sym (min_right least own h)) (record {
      here = λ less. let x = here less in ((cpu, x.0), x.1, x.2);
      below = λ n id low is far. ⊎_elim (λ under. let b = l.below n id under is far in let x = b.0 in let y = b.1 in
          (omega (arith, h, x), omega (arith, h, y)))
          (λ same. smaller id (subst (λ k. removal_on k v ≡ Some id) same is) far) (same_or_below n cpu low);
    }))
    (either least own)

-- before the first CPU, and after the last
pub none_below : (above : ℕ) (v : CpusView Tables) → LeastBelow above 0 (2 ^ 64 - 1) v
none_below above v = record {
  here = λ less. absurd (omega (arith, less));
  below =
      λ n id low is far. absurd (omega (arith, low));
}

pub all_below : (above cpu least : ℕ) (v : CpusView Tables) → length v.cpus ≤ cpu → LeastBelow above cpu least v
    → (n id : ℕ) → removal_on n v ≡ Some id → above < id → (least ≤ id) × (least ≤ last_id)
all_below above cpu least v all l n id is far = let low = cpu_there n id v.cpus is in
    l.below n id (omega (arith, low, all)) is far

-- the id of that number
abbrev no_id : Option ℕ
no_id = None

no_some : IsSome no_id → ⊥
no_some h = cc

module _ (above least : ℕ) (v : CpusView Tables)
    (here : least < 2 ^ 64 - 1 → ((n : ℕ) × (removal_on n v ≡ Some least)) × (above < least) × (least ≤ last_id))
    (smallest : (n id : ℕ) → removal_on n v ≡ Some id → above < id → (least ≤ id) × (least ≤ last_id)) where
  least_some : (n id : ℕ) → removal_on n v ≡ Some id → above < id → (0 < least) × (least ≤ last_id)
  least_some n id is far =
      let b = (smallest n id is far).1 in let x = here (omega (arith, b)) in let a = x.1 in (omega (arith, a), b)

  pub next_none : (o : Option ℕ) → IsSome o ↔ ((0 < least) × (least ≤ last_id))
      → IfNone o ((n id : ℕ) → above < id → removal_on n v ≡ Some id → ⊥)
  next_none None valid = λ n id far is. no_some (valid.1 (least_some n id is far))
  next_none (Some id) valid = tt

  pub next_some : (o : Option ℕ) → IsSome o ↔ ((0 < least) × (least ≤ last_id)) → IfSome o (λ id. id ≡ least)
      → IfSome o (λ next. (above < next) × ((n : ℕ) × (removal_on n v ≡ Some next))
      × ((n id : ℕ) → above < id → removal_on n v ≡ Some id → next ≤ id))
  next_some None valid is = tt
  next_some (Some next) valid is =
      let low = (valid.0 refl).1 in
      let x = here (omega (arith, low)) in let far = x.1 in (
        omega (arith, far, is),
        (x.0.0, x.0.1 ∙ ap Some (sym is)),
        λ n id above_it at. let a = (smallest n id at above_it).0 in
            omega (arith, a, is),
      )

-- ---- a poll of an open removal is not refused

leaving_at : (id n : ℕ) (cpus : List (CpuView Tables))
    → option_and_then (λ (c : CpuView Tables). c.removal) (slice_get cpus n) ≡ Some id
    → list_any (is_leaving_here id) cpus ≡ true
leaving_at id n [] is = absurd (none_some is)
leaving_at id zero (c ∷ cpus) is = ap (λ b. b || list_any (is_leaving_here id) cpus) (leaving_is id c is)
leaving_at id (suc n) (c ∷ cpus) is = or_true (is_leaving_here id c) (leaving_at id n cpus is)
  where
    or_true : (b : Bool) → list_any (is_leaving_here id) cpus ≡ true → (b || list_any (is_leaving_here id) cpus) ≡ true
    or_true true h = refl
    or_true false h = h

pub never_unpolled : (id n : ℕ) (e : Refusal) (v w : SystemView Tables) → removal_on n v.cpus ≡ Some id
    → Changes raise_tables v (PollRemove id (Err e)) w → ⊥
never_unpolled id n e v w is (inl (why, some, said, same)) =
    none_some (sym (ap (λ b. or_else (when (not b) NoCyclic) None) (leaving_at id n v.cpus.cpus is)) ∙ some)
never_unpolled id n e v w is (inr (none, did)) = did

pub not_true : IsTrue false → ⊥
not_true e = cc
