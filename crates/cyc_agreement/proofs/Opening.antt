-- The first open removal on the CPUs that have a cyclic.
use Rattle.std.proofs.Common.{◌≡◌, ℕ, ◌+◌, ◌<◌, ◌≤◌, ◌==◌, Bool, true, false, Option, Some, None, List, length, map, drop, sym}
use Rattle.std.proofs.Common.{ap, ◌∙◌, arith}
use Rattle.std.specs.Bool.{OnTrue, OnFalse}
use Rattle.std.specs.List.{list_any}
use Rattle.std.proofs.lemmas.List.{length-map, drop_all}
use mathlib.Core.Logic.{dite}
use native.Mathlib.Decide.{ℕ_discrete}
use Rattle.cyc_types.specs.declared.refusal.Refusal.{Refusal}
use Rattle.cyc_types.specs.declared.refusal.Refusal.TheVariants.{Busy}
use Rattle.cyc_types.specs.Reasons.{first_refusal, or_else, busy}
use Rattle.cyc_cpu.specs.Cpu.{CpuView, HasNoCyclic}
use Rattle.cyc_cpu.specs.Removal.{HasCyclic}
use Rattle.cyc_agreement.specs.Cpus.{CpusView, IsCpu, numbers_from}
use Rattle.cyc_agreement.specs.System.{ids_of, has, removal_on}
use Rattle.cyc_agreement.proofs.Lists.{among}
use Rattle.cyc_agreement.proofs.Presence.{has_is}
use Rattle.cyc_agreement.proofs.Who.{ids_there}
use Rattle.cyc_agreement.proofs.One.{removal_there}
use Rattle.cyc_agreement.proofs.Walking.{numbered}

-- what a CPU answers is whether it is one of those that have the cyclic
pub tested : {R : Type 0} (v : CpusView R) (n id : ℕ) (x : CpuView R) (b : Bool) → IsCpu n x v → OnTrue b (HasCyclic id x.cyclics)
    → OnFalse b (HasNoCyclic id x.cyclics)
    → list_any (λ own. own == id) (ids_of x) ≡ b
tested v n id x b at here none = sym (ap (λ ids. among id ids) (ids_there v n x x at)) ∙ sym (has_is v n id x b at here none)

module _ {R : Type 0} (id : ℕ) (v : CpusView R) where
  -- why the CPUs from this number on refuse
  abbrev pub whys_from : ℕ → List (Option Refusal)
  whys_from n = map (λ m. busy (removal_on m v))
      (numbers_from n (drop n (map (λ cpu. list_any (λ own. own == id) (ids_of cpu)) v.cpus)))

  pub why_open : (n removed : ℕ) (x : CpuView R) → IsCpu n x v → list_any (λ own. own == id) (ids_of x) ≡ true
      → x.removal ≡ Some removed
      → first_refusal (whys_from n) ≡ Some (Busy removed)
  why_open n removed x at is removal = ap (λ ns. first_refusal (map (λ m. busy (removal_on m v)) ns))
      (numbered (λ cpu. list_any (λ own. own == id) (ids_of cpu)) v n x true at is)
      ∙ ap (λ o. or_else (busy o) (first_refusal (whys_from (n + 1)))) (removal_there v n x at ∙ removal)

  pub why_still : (n : ℕ) (x : CpuView R) → IsCpu n x v → list_any (λ own. own == id) (ids_of x) ≡ true → x.removal ≡ None
      → first_refusal (whys_from n) ≡ first_refusal (whys_from (n + 1))
  why_still n x at is removal = ap (λ ns. first_refusal (map (λ m. busy (removal_on m v)) ns))
      (numbered (λ cpu. list_any (λ own. own == id) (ids_of cpu)) v n x true at is)
      ∙ ap (λ o. or_else (busy o) (first_refusal (whys_from (n + 1)))) (removal_there v n x at ∙ removal)

  pub why_other : (n : ℕ) (x : CpuView R) → IsCpu n x v → list_any (λ own. own == id) (ids_of x) ≡ false
      → first_refusal (whys_from n) ≡ first_refusal (whys_from (n + 1))
  why_other n x at is = ap (λ ns. first_refusal (map (λ m. busy (removal_on m v)) ns))
      (numbered (λ cpu. list_any (λ own. own == id) (ids_of cpu)) v n x false at is)

  pub why_none : (n : ℕ) → length v.cpus ≤ n → first_refusal (whys_from n) ≡ None
  why_none n all = ap (λ xs. first_refusal (map (λ m. busy (removal_on m v)) (numbers_from n xs)))
      (drop_all n (map (λ cpu. list_any (λ own. own == id) (ids_of cpu)) v.cpus)
      (let a = length-map v.cpus (λ cpu. list_any (λ own. own == id) (ids_of cpu)) in omega (arith, a, all)))

  -- none is open so far
  pub still_more : (n : ℕ) → ((m : ℕ) → m < n → has m id v ≡ true → removal_on m v ≡ None)
      → (has n id v ≡ true → removal_on n v ≡ None)
      → (m : ℕ) → m < n + 1 → has m id v ≡ true → removal_on m v ≡ None
  still_more n before here m low h = dite (ℕ_discrete m n)
      (λ e. ap (λ k. removal_on k v) e ∙ here (ap (λ k. has k id v) (sym e) ∙ h))
      (λ ne. before m (omega (arith, low, ne)) h)
