-- Calls on CPUs in rising number.
use Rattle.std.proofs.Common.{◌≡◌, ◌≢◌, ℕ, zero, suc, ◌+◌, Bool, true, false, cond, Some, List, [], ◌∷◌, map, find, slice_set}
use Rattle.std.proofs.Common.{refl, sym, ap, ◌∙◌, subst, arith}
use Rattle.std.specs.Prelude.{remove}
use Rattle.std.specs.List.{slice_get, FoldsTo}
use Rattle.cyc_cpu.specs.Cpu.{CpuView}
use Rattle.cyc_agreement.specs.Cpus.{IsCpu, numbers_from}
use Rattle.cyc_agreement.specs.System.{SystemView}
use Rattle.cyc_agreement.proofs.Spots.{same_some, none_some}

-- ---- a test of one element

pub find_set : {A : Type 0} (p : A → Bool) (xs : List A) (k : ℕ) (x y : A) → slice_get xs k ≡ Some x → p x ≡ false → p y ≡ false
    → find p (slice_set xs k y) ≡ find p xs
find_set p [] k x y is a b = refl
find_set p (z ∷ xs) zero x y is a b = ap (λ t. cond t (Some y) (find p xs)) b
    ∙ sym (ap (λ t. cond t (Some z) (find p xs)) (ap p (same_some is) ∙ a))
find_set p (z ∷ xs) (suc k) x y is a b = ap (λ o. cond (p z) (Some z) o) (find_set p xs k x y is a b)

pub find_remove : {A : Type 0} (p : A → Bool) (xs : List A) (k : ℕ) (x : A) → slice_get xs k ≡ Some x → p x ≡ false
    → find p (remove xs k) ≡ find p xs
find_remove p [] k x is a = absurd (none_some is)
find_remove p (z ∷ xs) zero x is a = sym (ap (λ t. cond t (Some z) (find p xs)) (ap p (same_some is) ∙ a))
find_remove p (z ∷ xs) (suc k) x is a = ap (λ o. cond (p z) (Some z) o) (find_remove p xs k x is a)

-- ---- rising numbers

module _ {R A : Type 0} (On : A → SystemView R → SystemView R → Type 0) (cpu_of : A → ℕ) (P : CpuView R → Type 0)
    (one : (a : A) (s t : SystemView R) → On a s t → (m : ℕ) → m ≢ cpu_of a → slice_get t.cpus.cpus m ≡ slice_get s.cpus.cpus m)
  where
    -- what is true of a CPU as a call of the list comes to it
    abbrev pub Known : A → SystemView R → SystemView R → Type 0
    Known a s t = On a s t × ((x : CpuView R) → IsCpu (cpu_of a) x s.cpus → P x)

    -- each CPU of the list is as it was when a call comes to it
    pub folds_known : (k : ℕ) (tests : List Bool) (way : List A) (s t : SystemView R) → map cpu_of way ≡ numbers_from k tests
        → ((j : ℕ) (x : CpuView R) → slice_get tests j ≡ Some true → IsCpu (k + j) x s.cpus → P x)
        → FoldsTo (λ u a w. On a u w) s way t → FoldsTo (λ u a w. Known a u w) s way t
    folds_known k [] [] s t e h f = f
    folds_known k [] (a ∷ way) s t e h f = absurd (let odd : cpu_of a ∷ map cpu_of way ≡ [] = e in cc)
    folds_known k (true ∷ tests) [] s t e h f = absurd (let odd : [] ≡ k ∷ numbers_from (k + 1) tests = e in cc)
    folds_known k (true ∷ tests) (a ∷ way) s t e h (u, on, rest) =
        let number : cpu_of a ≡ k = first e in (
          u,
          (on, λ x is. h 0 x refl (subst (λ n. IsCpu n x s.cpus) (number ∙ (let z : k ≡ k + 0 = omega arith in z)) is)),
          folds_known (k + 1) tests way u t (others e)
              (λ j x is at. h (suc j) x is (subst (λ n. IsCpu n x s.cpus) (let z : k + 1 + j ≡ k + suc j = omega arith in z)
              (sym (one a s u on (k + 1 + j) (λ q. omega (arith, q, number))) ∙ at))) rest,
        )
      where
        first : {x y : ℕ} {xs ys : List ℕ} → x ∷ xs ≡ y ∷ ys → x ≡ y
        first {x} {y} {xs} {ys} f = cc

        others : {x y : ℕ} {xs ys : List ℕ} → x ∷ xs ≡ y ∷ ys → xs ≡ ys
        others {x} {y} {xs} {ys} f = cc
    folds_known k (false ∷ tests) way s t e h f =
        folds_known (k + 1) tests way s t e (λ j x is at. h (suc j) x is
        (subst (λ n. IsCpu n x s.cpus) (let z : k + 1 + j ≡ k + suc j = omega arith in z) at)) f

-- a relation that each call keeps, all keep
pub folds_keep : {S A : Type 0} (On : S → A → S → Type 0) (Keeps : S → S → Type 0) → ((s : S) → Keeps s s)
    → ((s t u : S) → Keeps s t → Keeps t u → Keeps s u)
    → ((s : S) (a : A) (t : S) → On s a t → Keeps s t) → (way : List A) (s t : S) → FoldsTo On s way t → Keeps s t
folds_keep On Keeps none then each [] s t f = subst (λ u. Keeps s u) f (none s)
folds_keep On Keeps none then each (a ∷ way) s t (u, on, rest) =
    then s u t (each s a u on) (folds_keep On Keeps none then each way u t rest)
