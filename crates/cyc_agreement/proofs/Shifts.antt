-- A move between two CPUs.
use Rattle.std.proofs.Common.{◌≡◌, ℕ, zero, suc, ◌<◌, true, false, not, Some, None, Option, sym, ap, ◌∙◌, subst, arith}
use Rattle.std.specs.Option.{option_eq}
use lib.Dec.{eqb}
use Rattle.std.proofs.Math.Dec.{eqb-suc-zero}
use Rattle.cyc_cpu.specs.Calls.{CpuChanges, AskPending}
use Rattle.cyc_types.specs.declared.Raise.{Ghosts as Raise}
use Rattle.cyc_types.specs.declared.refusal.Refusal.{Refusal}
use Rattle.cyc_types.specs.declared.refusal.Refusal.TheVariants as why
use Rattle.cyc_cpu.specs.Rows.{Cyclic}
use Rattle.std.specs.Prelude.{List}
use Rattle.cyc_cpu.specs.Cpu.{CpuView, HasNoCyclic}
use Rattle.cyc_cpu.specs.Removal.{HasCyclic}
use Rattle.cyc_cpu.specs.Moving.{WhyNotTaken}
use Rattle.cyc_agreement.specs.Shifting.{MayLeave}

pub not_both : (id : ℕ) (cs : List Cyclic) → HasCyclic id cs → HasNoCyclic id cs → ⊥
not_both id cs (k, c, is, named) none = none k c is.0 (ap (λ (x : Cyclic). x.timer.id) is.1 ∙ named)

-- a cyclic that can leave at once is taken
pub is_taken : {R : Type 0} (firing : Raise R) (id : ℕ) (v w : CpuView R)
    (e : Refusal) →
    MayLeave firing.view id v → WhyNotTaken firing id v e w → ⊥
is_taken firing id v w why.NoCyclic may h = not_both id v.cyclics may.here h.0
is_taken firing id v w (why.Busy removed) may h = (let no : None ≡ Some removed = sym may.still ∙ h.1 in cc)
is_taken firing id v w why.Pending may h = (let a = h.1 in let b = may.quiet in omega (arith, a, b))
is_taken firing id v w e may h = absurd h

-- an answer that is not 0 is a number of calls above 0, where the cyclic is here
pub found_some : {R : Type 0} (firing : Raise R) (id : ℕ) (v w : CpuView R)
    (answer : Option ℕ) →
    HasCyclic id v.cyclics → not (option_eq eqb answer (Some 0)) ≡ true → CpuChanges firing v (AskPending id answer) w →
    (n : ℕ) × (0 < n) × CpuChanges firing v (AskPending id (Some n)) w
found_some firing id v w None here test did = absurd (not_both id v.cyclics here did.0)
found_some firing id v w (Some zero) here test did = (let no : false ≡ true = test in cc)
found_some firing id v w (Some (suc n)) here test did = (suc n, omega arith, did)

-- else it is 0
pub found_none : {R : Type 0} (firing : Raise R) (id : ℕ) (v w : CpuView R)
    (answer : Option ℕ) →
    not (option_eq eqb answer (Some 0)) ≡ false → CpuChanges firing v (AskPending id answer) w →
    CpuChanges firing v (AskPending id (Some 0)) w
found_none firing id v w None test did = (let no : true ≡ false = test in cc)
found_none firing id v w (Some zero) test did = did
found_none firing id v w (Some (suc n)) test did = (let no : true ≡ false = sym (ap not (eqb-suc-zero n)) ∙ test in cc)

-- after that it can leave
pub may_leave : {R : Type 0} (firing : Raise R) (id : ℕ) (v w : CpuView R) →
    HasCyclic id v.cyclics → v.removal ≡ None → CpuChanges firing v (AskPending id (Some 0)) w → MayLeave firing.view id w
may_leave firing id v w here still did = record {
  here = subst (HasCyclic id) (sym did.0.cyclics) here;
  still = did.0.kept.removal ∙ still;
  quiet = did.1;
}
