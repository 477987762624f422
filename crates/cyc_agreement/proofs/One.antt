-- What a removal does to one CPU.
use Rattle.std.proofs.Common.{◌≡◌, ◌≢◌, ◌==◌, ℕ, ◌≤◌, inl, inr, true, false, Option, Some, None, Ok, Err, map, refl, sym, ap}
use Rattle.std.proofs.Common.{◌∙◌, subst}
use Rattle.std.specs.Option.{option_map_or, option_and_then}
use Rattle.cyc_types.specs.Series.{never}
use Rattle.cyc_types.specs.declared.Raise.{Ghosts as Raise}
use Rattle.cyc_types.specs.Firing.{FiringView}
use Rattle.cyc_types.specs.declared.receipt.Receipt.{Receipt}
use Rattle.cyc_types.specs.declared.refusal.Refusal.{Refusal}
use Rattle.cyc_types.specs.declared.refusal.Refusal.TheVariants as why
use Rattle.cyc_cpu.specs.Rows.{Cyclic}
use Rattle.cyc_cpu.specs.declared.removing.Removal.{Removal}
use Rattle.cyc_cpu.specs.declared.removing.Removal.TheVariants.{Done, Kept}
use Rattle.cyc_cpu.specs.Cpu.{CpuView, IsCyclic}
use Rattle.cyc_cpu.specs.Removal.{HasCyclic}
use Rattle.cyc_cpu.specs.Laws.{IsLawful}
use Rattle.cyc_cpu.specs.Calls.{CpuChanges, BeginRemove, PollRemove}
use Rattle.cyc_agreement.specs.Cpus.{CpusView, IsCpu}
use Rattle.cyc_agreement.proofs.Shifts.{not_both}
use Rattle.cyc_agreement.specs.System.{ids_of, has, removal_on, is_leaving_here}
use Rattle.cyc_agreement.proofs.Spots.{same_some, none_some}
use Rattle.cyc_agreement.proofs.Lists.{among, eq_true, true_eq, false_true}
use Rattle.cyc_agreement.proofs.Presence.{has_here}
use Rattle.cyc_agreement.proofs.Who.{OneLess, id_in, ids_set}
use Rattle.cyc_agreement.proofs.Shifted.{ids_rise, less_left}

-- one cyclic may have left, and no other; and if not, its removal is open
pub record LeavesCpu {R : Type 0} (id : ℕ) (x y : CpuView R) : Type 0 where
  pub others : (q : ℕ) → q ≢ id → among q (ids_of y) ≡ among q (ids_of x)
  pub fewer : among id (ids_of y) ≡ true → among id (ids_of x) ≡ true
  pub stay_open : (q : ℕ) → q ≢ id → x.removal ≡ Some q → y.removal ≡ Some q
  pub were_open : (q : ℕ) → q ≢ id → y.removal ≡ Some q → x.removal ≡ Some q
  pub leaving : among id (ids_of y) ≡ true → y.removal ≡ Some id
  pub most : y.most ≡ x.most
  pub suspended : y.suspended ≡ x.suspended

from_less : {R : Type 0} (id : ℕ) (x y : CpuView R) → OneLess id x y → ((q : ℕ) → q ≢ id → x.removal ≢ Some q) → LeavesCpu id x y
from_less id x y l still = record {
  others = l.others;
  fewer = λ h. l.was;
  stay_open = λ q ne e. absurd (still q ne e);
  were_open = λ q ne e. absurd (none_some (sym l.removal ∙ e));
  leaving = λ h. absurd (false_true (sym l.gone ∙ h));
  most = l.most;
  suspended = l.suspended;
}

module _ {R : Type 0} (firing : Raise R) (id : ℕ) (x y : CpuView R)
    (law : IsLawful firing.view x) where
  -- a removal that was done at once
  pub less_done : (receipt : Receipt) → CpuChanges firing x (BeginRemove id (Ok (Done receipt))) y → OneLess id x y
  less_done receipt (still, (c, counts, is, polled, leaves)) =
      less_left firing x y id _ c (ids_rise x.cyclics law.rising) leaves

  pub begun : (found : Removal) → CpuChanges firing x (BeginRemove id (Ok found)) y → LeavesCpu id x y
  begun (Done receipt) d = from_less id x y (less_done receipt d) (λ q ne e. none_some (sym d.0 ∙ e))
  begun (Kept kept) (still, o) = record {
    others = λ q ne. ap (λ ids. among q ids) same;
    fewer = λ h. sym (ap (λ ids. among id ids) same) ∙ h;
    stay_open = λ q ne e. absurd (none_some (sym still ∙ e));
    were_open = λ q ne e. absurd (ne (same_some (sym e ∙ o.removal)));
    leaving = λ h. o.removal;
    most = o.most;
    suspended = o.suspended;
  }
    where
      same : ids_of y ≡ ids_of x
      same = ap (λ cs. map id_in cs) o.cyclics ∙ ids_set x.cyclics o.position never o.cyclic o.here

  -- an open removal that has ended
  pub less_ended : (receipt : Receipt) → x.removal ≡ Some id → CpuChanges firing x (PollRemove (Some receipt)) y → OneLess id x y
  less_ended receipt was e = subst (λ i. OneLess i x y) (same_some (sym e.was_open ∙ was))
      (less_left firing x y receipt.id _ e.cyclic (ids_rise x.cyclics law.rising) e.leaves)

  pub polled : (answer : Option Receipt) → x.removal ≡ Some id → CpuChanges firing x (PollRemove answer) y → LeavesCpu id x y
  polled (Some receipt) was e = from_less id x y (less_ended receipt was e) (λ q ne f. ne (same_some (sym f ∙ was)))
  polled None was (inl (none, same)) = absurd (none_some (sym none ∙ was))
  polled None was (inr (own, is, w)) = record {
    others = λ q ne. ap (λ cs. among q (map id_in cs)) w.cyclics;
    fewer = λ h. sym (ap (λ cs. among id (map id_in cs)) w.cyclics) ∙ h;
    stay_open = λ q ne e. w.kept.removal ∙ e;
    were_open = λ q ne e. sym w.kept.removal ∙ e;
    leaving = λ h. w.kept.removal ∙ was;
    most = w.kept.most;
    suspended = w.kept.suspended;
  }

-- what a CPU counts of a cyclic is bounded
pub counts_fit : {R : Type 0} (view : R → FiringView) (x : CpuView R) (law : IsLawful view x) (k : ℕ) (c : Cyclic)
    → IsCyclic x.cyclics k c → c.timer.expired ≤ x.most
counts_fit view x law k c (low, is) = subst (λ (d : Cyclic). d.timer.expired ≤ x.most) is (law.counted k c low).few

module _ {R : Type 0} (firing : Raise R) (id : ℕ) (x y : CpuView R) where
  -- the counts of a receipt are bounded
  pub done_fits : (receipt : Receipt) → IsLawful firing.view x → CpuChanges firing x (BeginRemove id (Ok (Done receipt))) y
      → receipt.sent ≤ x.most
  done_fits receipt law (still, (c, counts, is, polled, leaves)) =
      subst (λ n. n ≤ x.most) (sym is.1) (counts_fit firing.view x law leaves.position c leaves.here)

  pub ended_fits : (receipt : Receipt) → IsLawful firing.view x → CpuChanges firing x (PollRemove (Some receipt)) y
      → receipt.sent ≤ x.most
  ended_fits receipt law e = subst (λ n. n ≤ x.most) (sym e.counted.1)
      (counts_fit firing.view x law e.leaves.position e.cyclic e.leaves.here)

  -- where a cyclic is, and no removal is open, one begins
  pub is_begun : (e : Refusal) → x.removal ≡ None → HasCyclic id x.cyclics → CpuChanges firing x (BeginRemove id (Err e)) y → ⊥
  is_begun why.NoCyclic still here d = not_both id x.cyclics here d.0
  is_begun (why.Busy removed) still here d = none_some (sym still ∙ d.0.1)
  is_begun e still here d = absurd d.0

-- what is open on a CPU
pub removal_there : {R : Type 0} (v : CpusView R) (n : ℕ) (x : CpuView R) → IsCpu n x v → removal_on n v ≡ x.removal
removal_there v n x at = ap (λ o. option_and_then (λ cpu. cpu.removal) o) at

pub is_none : {A : Type 0} (o : Option A) → ((x : A) → o ≢ Some x) → o ≡ None
is_none None not = refl
is_none (Some x) not = absurd (not x refl)

-- a cyclic whose removal is open on a CPU is there
pub open_here : {R : Type 0} (view : R → FiringView) (v : CpusView R) (n id : ℕ) (x : CpuView R) → IsLawful view x → IsCpu n x v
    → x.removal ≡ Some id → has n id v ≡ true
open_here view v n id x law at open_is = let (k, c, is, named, soft, never_due) = law.removed id open_is in
    has_here v n id x at (k, c, is, named)

-- whose removal is open
pub is_leaving_open : {R : Type 0} (id : ℕ) (x : CpuView R) → is_leaving_here id x ≡ true → x.removal ≡ Some id
is_leaving_open id x h = by x.removal h
  where
    by : (o : Option ℕ) → option_map_or (λ own. own == id) o false ≡ true → o ≡ Some id
    by None h = absurd (false_true h)
    by (Some own) h = ap Some (eq_true own id h)

pub leaving_is : {R : Type 0} (id : ℕ) (x : CpuView R) → x.removal ≡ Some id → is_leaving_here id x ≡ true
leaving_is id x e = ap (λ o. option_map_or (λ own. own == id) o false) e ∙ true_eq id id refl
