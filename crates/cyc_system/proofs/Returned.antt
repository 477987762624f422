-- The firing sides that came back have the cyclics that they left with.
use Rattle.std.proofs.Common.{◌≡◌, ℕ, zero, suc, Option, Some, List, [], ◌∷◌, length, map, option_map, refl, ap}
use Rattle.std.specs.List.{slice_get}
use Rattle.std.specs.Option.{option_map_or, option_and_then}
use Rattle.cyc_types.specs.Firing.{FiringView}
use Rattle.cyc_types.specs.Pairs.{EachTwo}
use Rattle.cyc_agreement.specs.Rows.{Cyclic}
use Rattle.cyc_cpu.specs.Cpu.{CpuView}
use Rattle.cyc_agreement.specs.Cpus.{CpusView}
use Rattle.cyc_agreement.specs.System.{ids_of}
use Rattle.cyc_agreement.proofs.Who.{SameWho, id_in}
use Rattle.cyc_system.specs.Splitting.{GoesOn, ComesBack, AllComeBack}

pub each_long : {A : Type 0} (P : A → A → Type 0) (xs ys : List A) → EachTwo P xs ys → length ys ≡ length xs
each_long P [] [] h = refl
each_long P [] (y ∷ ys) h = absurd h
each_long P (x ∷ xs) [] h = absurd h
each_long P (x ∷ xs) (y ∷ ys) h = ap suc (each_long P xs ys h.1)

-- what two elements at one position share, both lists have at each position
pub each_kept : {A X : Type 0} (P : A → A → Type 0) (f : Option A → X) → ((x y : A) → P x y → f (Some y) ≡ f (Some x))
    → (xs ys : List A) → EachTwo P xs ys → (n : ℕ) → f (slice_get ys n) ≡ f (slice_get xs n)
each_kept P f same [] [] h n = refl
each_kept P f same [] (y ∷ ys) h n = absurd h
each_kept P f same (x ∷ xs) [] h n = absurd h
each_kept P f same (x ∷ xs) (y ∷ ys) h zero = same x y h.0
each_kept P f same (x ∷ xs) (y ∷ ys) h (suc n) = each_kept P f same xs ys h.1 n

same_ids : (lock low : ℕ) (cs ds : List Cyclic) → EachTwo (GoesOn lock low) cs ds → map id_in ds ≡ map id_in cs
same_ids lock low [] [] h = refl
same_ids lock low [] (d ∷ ds) h = absurd h
same_ids lock low (c ∷ cs) [] h = absurd h
same_ids lock low (c ∷ cs) (d ∷ ds) h = (λ i. h.0.id i ∷ same_ids lock low cs ds h.1 i)

module _ {R : Type 0} (view : R → FiringView) (v : CpusView R) (ys : List (CpuView R)) (back : AllComeBack view v.cpus ys) where
  pub same_back : SameWho v (record { cpus = ys; online = v.online })
  same_back = record {
    ids = each_kept (ComesBack view) (λ o. option_map_or ids_of o [])
        (λ x y h. same_ids (view x.lock).ceiling (view x.low).ceiling x.cyclics y.cyclics h.cyclics) v.cpus ys back;
    removals = each_kept (ComesBack view) (λ o. option_and_then (λ cpu. cpu.removal) o) (λ x y h. h.removal) v.cpus ys back;
    online = refl;
    most = each_kept (ComesBack view) (λ o. option_map (λ cpu. cpu.most) o) (λ x y h. ap Some h.most) v.cpus ys back;
    suspended = each_kept (ComesBack view) (λ o. option_map (λ cpu. cpu.suspended) o) (λ x y h. ap Some h.suspended) v.cpus ys
        back;
    long = each_long (ComesBack view) v.cpus ys back;
  }
