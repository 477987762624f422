-- One CPU of several.
use Rattle.std.proofs.Common.{◌≡◌, ◌≢◌, ℕ, ◌-◌, ◌<◌, List, length, slice_set, Some, refl, sym, ap, ◌∙◌, subst, arith}
use Rattle.std.specs.List.{slice_get}
use Rattle.std.proofs.lemmas.Option.{slice_get_read, slice_get-get_or, slice_get_within, slice_get_past, same_Some}
use Rattle.std.proofs.lemmas.List.{get_or-set_same, get_or-set_other, length-set}
pub use Rattle.cyc_types.proofs.Facts.{get_set_same, get_set_other}
use mathlib.Core.Logic.{dite}
use native.Mathlib.Decide.{ℕ_discrete}
use Rattle.cyc_cpu.specs.Cpu.{CpuView}
use Rattle.cyc_agreement.specs.Cpus.{CpusView, IsCpu, OfCpu, with_cpu, ChangesAt}

module _ {R : Type 0} where
  -- a number names one CPU
  pub one_cpu : (n : ℕ) (x y : CpuView R) (v : CpusView R) → IsCpu n x v → IsCpu n y v → x ≡ y
  one_cpu n x y v a b = same_Some x y (sym a ∙ b)

  pub of_cpu : (n : ℕ) (P : CpuView R → Type 0) (x : CpuView R) (v : CpusView R) → IsCpu n x v → P x → OfCpu n P v
  of_cpu n P x v is p = λ y at. subst P (one_cpu n x y v is at) p

  -- the changed CPU stands at its number, and each other CPU at its own
  pub cpu_there : (n : ℕ) (x y : CpuView R) (v : CpusView R) → IsCpu n x v → IsCpu n y (with_cpu v n y)
  cpu_there n x y v is = get_set_same v.cpus n y (slice_get_within v.cpus n x is)

  pub cpu_beside : (n m : ℕ) (x y : CpuView R) (v : CpusView R) → m ≢ n → IsCpu m x (with_cpu v n y) → IsCpu m x v
  cpu_beside n m x y v apart is = sym (get_set_other v.cpus n m y apart) ∙ is

  pub cpu_stays : (n m : ℕ) (x y : CpuView R) (v : CpusView R) → m ≢ n → IsCpu m x v → IsCpu m x (with_cpu v n y)
  cpu_stays n m x y v apart is = get_set_other v.cpus n m y apart ∙ is

  pub changed : (n : ℕ) (D : CpuView R → CpuView R → Type 0) (x y : CpuView R) (v : CpusView R) → IsCpu n x v → D x y →
      ChangesAt n D v (with_cpu v n y)
  changed n D x y v is d = record { before = x; after = y; here = is; change = d; rest = refl }

  -- a call on one CPU leaves another where it stands
  pub cpu_after : (n m : ℕ) (D : CpuView R → CpuView R → Type 0) (x : CpuView R) (v w : CpusView R) → m ≢ n →
      ChangesAt n D v w → IsCpu m x v → IsCpu m x w
  cpu_after n m D x v w apart c is = subst (λ u. IsCpu m x u) (sym c.rest) (cpu_stays n m x c.after v apart is)
