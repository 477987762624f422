-- A calm script, step by step: no remove comes after another with only advances between them.
use Rattle.std.proofs.Common.{ℕ, zero, suc, ◌<◌, Bool, true, false, List, [], ◌∷◌, refl, sym, subst, arith}
use Rattle.cyc_script.specs.declared.script.Script.{Script}
use Rattle.cyc_script.specs.declared.step.Step.{Step}
use Rattle.cyc_script.specs.declared.step.Step.TheVariants as steps
use Rattle.cyc_threads.proofs.Spots.{same_some}
use Rattle.cyc_thread_calls.specs.Calm.{IsStep, Parts, AreParted, IsCalm}
use Rattle.cyc_thread_calls.proofs.Agreeing.{Spaced}

-- between any two removes stands another word; no CPU goes offline
abbrev Apart : List Step → Type 0
Apart xs = (i j a b : ℕ) → i < j → IsStep xs i (steps.Remove a) → IsStep xs j (steps.Remove b) → AreParted xs i j

-- before the first remove stands another word
abbrev Before : List Step → Type 0
Before xs = (j b : ℕ) → IsStep xs j (steps.Remove b) → (k : ℕ) × (x : Step) × (k < j) × IsStep xs k x × Parts x

abbrev Stay : List Step → Type 0
Stay xs = (i n : ℕ) → IsStep xs i (steps.Offline n) → ⊥

apart_rest : (x : Step) (xs : List Step) → Apart (x ∷ xs) → Apart xs
apart_rest x xs h i j a b less p q = by (h (suc i) (suc j) a b (omega (arith, less)) p q)
  where
    by : AreParted (x ∷ xs) (suc i) (suc j) → AreParted xs i j
    by r = at r.position r.step r.after r.before r.here r.parts
      where
        at : (k : ℕ) (y : Step) → suc i < k → k < suc j → IsStep (x ∷ xs) k y → Parts y → AreParted xs i j
        at zero y low high here parts = absurd (omega (arith, low))
        at (suc k) y low high here parts = record {
          position = k;
          step = y;
          after = omega (arith, low);
          before = omega (arith, high);
          here = here;
          parts = parts;
        }

-- after a remove
apart_before : (name : ℕ) (xs : List Step) → Apart (steps.Remove name ∷ xs) → Before xs
apart_before name xs h j b q = by (h 0 (suc j) name b (omega arith) refl q)
  where
    by : AreParted (steps.Remove name ∷ xs) 0 (suc j) → (k : ℕ) × (x : Step) × (k < j) × IsStep xs k x × Parts x
    by r = at r.position r.step r.after r.before r.here r.parts
      where
        at : (k : ℕ) (y : Step) → 0 < k → k < suc j → IsStep (steps.Remove name ∷ xs) k y → Parts y
            → (k : ℕ) × (x : Step) × (k < j) × IsStep xs k x × Parts x
        at zero y low high here parts = absurd (omega (arith, low))
        at (suc k) y low high here parts = (k, y, omega (arith, high), here, parts)

before_rest : (now : ℕ) (xs : List Step) → Before (steps.Advance now ∷ xs) → Before xs
before_rest now xs h j b q = let (k, x, low, here, parts) = h (suc j) b q in at k x low here parts
  where
    at : (k : ℕ) (y : Step) → k < suc j → IsStep (steps.Advance now ∷ xs) k y → Parts y
        → (k : ℕ) × (x : Step) × (k < j) × IsStep xs k x × Parts x
    at zero y low here parts = absurd (subst Parts (sym (same_some here)) parts)
    at (suc k) y low here parts = (k, y, omega (arith, low), here, parts)

not_before : (name : ℕ) (xs : List Step) → Before (steps.Remove name ∷ xs) → ⊥
not_before name xs h = let (k, x, low, here, parts) = h 0 name refl in omega (arith, low)

stay_rest : (x : Step) (xs : List Step) → Stay (x ∷ xs) → Stay xs
stay_rest x xs h i n at = h (suc i) n at

-- where a remove may come, and where none may
abbrev Known : Bool → List Step → Type 0
Known true xs = Unit {0}
Known false xs = Before xs

pub spaced : (b : Bool) (xs : List Step) → Apart xs → Stay xs → Known b xs → Spaced b xs
spaced b [] a s k = tt
spaced true (steps.Remove name ∷ xs) a s k =
    (refl, spaced false xs (apart_rest (steps.Remove name) xs a) (stay_rest (steps.Remove name) xs s) (apart_before name xs a))
spaced false (steps.Remove name ∷ xs) a s k = absurd (not_before name xs k)
spaced true (steps.Advance now ∷ xs) a s k =
    spaced true xs (apart_rest (steps.Advance now) xs a) (stay_rest (steps.Advance now) xs s) tt
spaced false (steps.Advance now ∷ xs) a s k =
    spaced false xs (apart_rest (steps.Advance now) xs a) (stay_rest (steps.Advance now) xs s) (before_rest now xs k)
spaced b (steps.Offline n ∷ xs) a s k = s 0 n refl
spaced b (x ∷ xs) a s k = spaced true xs (apart_rest x xs a) (stay_rest x xs s) tt

pub calm_spaced : (script : Script) → IsCalm script → Spaced true script.steps.items
calm_spaced script calm = spaced true script.steps.items calm.apart calm.online tt
