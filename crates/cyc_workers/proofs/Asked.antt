-- One CPU of several is asked after another.
use Rattle.std.proofs.Common.{◌≡◌, ◌≢◌, ℕ, ◌+◌, ◌-◌, ◌<◌, ◌≤◌, List, [], ◌++◌, length, slice_set, Option, Some, None, refl, sym}
use Rattle.std.proofs.Common.{ap, ◌∙◌, subst, arith}
use Rattle.std.specs.Prelude.{IfNone}
use Rattle.std.specs.List.{slice_get}
use Rattle.std.proofs.lemmas.Option.{slice_get_read, slice_get-get_or, slice_get_within, slice_get_past, same_Some}
use Rattle.std.proofs.lemmas.List.{get_or-set_same, get_or-set_other, length-set}
use mathlib.Core.Logic.{dite}
use native.Mathlib.Decide.{ℕ_discrete}
use Rattle.cyc_types.specs.declared.Raise.{Ghosts as Raise}
use Rattle.cyc_types.proofs.Runs.{folds_on}
pub use Rattle.cyc_types.proofs.Facts.{get_set_same}
use Rattle.cyc_types.proofs.Facts.{get_set_other}
use Rattle.cyc_cpu.specs.Cpu.{CpuView}
use Rattle.cyc_cpu.specs.Moving.{IsSettled}
use Rattle.cyc_workers.specs.Settling.{AsksSettled, Settles}
use Rattle.cyc_workers.specs.Settled.{AllAsked, AreSettled, AllSettled, AsksAt}

pub if_none_then : {A : Type 0} (o : Option A) (P Q : Type 0) → (P → Q) → IfNone o P → IfNone o Q
if_none_then None P Q f p = f p
if_none_then (Some x) P Q f p = tt

module _ {R : Type 0} (firing : Raise R) where
  -- none was asked yet
  pub none_asked : (v : List (CpuView R)) → AllAsked firing v v
  none_asked v = record {
    long = refl;
    each = λ n x y at at'. subst (λ z. Settles firing x z) (same_Some x y (sym at ∙ at')) ([], refl);
  }

  settles_then : (x y z : CpuView R) → Settles firing x y → Settles firing y z → Settles firing x z
  settles_then x y z a b = (a.0 ++ b.0, folds_on (AsksSettled firing) x a.0 y b.0 z a.1 b.1)

  -- one more was
  pub asked_at : (k : ℕ) (u v w : List (CpuView R)) → AllAsked firing u v → AsksAt firing k v w → AllAsked firing u w
  asked_at k u v w a b = record {
    long = ap (λ l. length l) b.rest ∙ length-set v k b.after ∙ a.long;
    each = λ n x y at at'.
        let seen = sym (ap (λ l. slice_get l n) b.rest) ∙ at' in
        dite (ℕ_discrete n k)
        (λ same.
        let low = slice_get_within v k b.before b.here in
        let now : b.after ≡ y = same_Some b.after y (sym (get_set_same v k b.after low)
        ∙ sym (ap (λ i. slice_get (slice_set v k b.after) i) same) ∙ seen) in
        subst (λ z. Settles firing x z) now
        (settles_then x b.before b.after (a.each n x b.before at (ap (λ i. slice_get v i) same ∙ b.here)) b.asked))
        (λ ne. a.each n x y at (sym (get_set_other v k n b.after ne) ∙ seen));
  }

  -- and has settled
  pub settled_at : (k : ℕ) (v w : List (CpuView R)) → AreSettled firing.view k v → AsksAt firing k v w →
      ((y : CpuView R) → slice_get w k ≡ Some y → IsSettled firing.view y) → AreSettled firing.view (k + 1) w
  settled_at k v w all b last = λ n y low at. dite (ℕ_discrete n k)
      (λ same. last y (sym (ap (λ i. slice_get w i) same) ∙ at))
      (λ ne. all n y (omega (arith, low, ne)) (sym (get_set_other v k n b.after ne) ∙ sym (ap (λ l. slice_get l n) b.rest) ∙ at))

  pub settled_all : (k : ℕ) (w : List (CpuView R)) → length w ≤ k → AreSettled firing.view k w → AllSettled firing.view w
  settled_all k w far all = λ n y at. let low = slice_get_within w n y at in all n y (omega (arith, low, far)) at
