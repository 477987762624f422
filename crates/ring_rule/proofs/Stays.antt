-- What the firing side's trail says of the cyclics of the shown level.
use Rattle.std.proofs.Common.{◌≡◌, ℕ, ◌+◌, ◌≤◌, eqb, Bool, true, false, cond, sym, refl, ap, ◌∙◌, arith}
use mathlib.Core.Logic.{dite}
use native.Mathlib.Decide.{ℕ_discrete}
use Rattle.std.specs.Prelude.{Option, Some, None}
use Rattle.std.specs.Option.{option_map}
use Rattle.cyc_level.specs.Level.{AdmittedCyclic, in_hand}
use Rattle.cyc_level.specs.Events.{cyclic_after_expire, cyclic_after_lose}
use Rattle.cyc_level.specs.Runs.{StayCounts, one_more}
use Rattle.cyc_level.proofs.Maps.{some_same, hand_else}
use Rattle.ring_rule.specs.Shown.{IsSameStay}

-- the cyclic behind a stay
pub behind : (m e : ℕ) (o : Option StayCounts) (p : Option AdmittedCyclic) (s : StayCounts) → o ≡ Some s → IsSameStay m e o p
    → (c : AdmittedCyclic) × (p ≡ Some c) × (s.index ≡ c.index) × (s.sent ≡ c.sent) × (s.lost ≡ c.lost) × (m ≡ c.done + e)
behind m e None p s is h = let x : None ≡ Some s = is in absurd (cc)
behind m e (Some t) None s is h = absurd h
behind m e (Some t) (Some c) s is h = let same : t ≡ s = some_same t s is in (
  c,
  refl,
  ap (λ (x : StayCounts). x.index) (sym same) ∙ h.0,
  ap (λ (x : StayCounts). x.sent) (sym same)
      ∙ h.1,
  ap (λ (x : StayCounts). x.lost) (sym same) ∙ h.2,
  h.3,
)

pub same_if : (b : Bool) (m e : ℕ) (o o' : Option StayCounts) (p p' : Option AdmittedCyclic) → IsSameStay m e o p
    → IsSameStay m e o' p'
    → IsSameStay m e (cond b o' o) (cond b p' p)
same_if true m e o o' p p' h h' = h'
same_if false m e o o' p p' h h' = h

pub same_expired : (m e : ℕ) (o : Option StayCounts) (p : Option AdmittedCyclic) → IsSameStay m e o p
    → IsSameStay m e (one_more 0 o) (option_map cyclic_after_expire p)
same_expired m e None None h = h
same_expired m e None (Some c) h = h
same_expired m e (Some s) None h = h
same_expired m e (Some s) (Some c) h = let a = h.1 in let b = h.2 in (h.0, omega (arith, a), omega (arith, b), h.3)

pub same_dropped : (m e : ℕ) (o : Option StayCounts) (p : Option AdmittedCyclic) → IsSameStay m e o p
    → IsSameStay m e (one_more 1 o) (option_map cyclic_after_lose p)
same_dropped m e None None h = h
same_dropped m e None (Some c) h = h
same_dropped m e (Some s) None h = h
same_dropped m e (Some s) (Some c) h = let a = h.1 in let b = h.2 in (h.0, omega (arith, a), omega (arith, b), h.3)

pub not_held : (id : ℕ) (o : Option ℕ) → ¬ (o ≡ Some id) → in_hand id o ≡ 0
not_held id None h = refl
not_held id (Some x) h = dite (ℕ_discrete id x) (λ e. absurd (h (ap Some (sym e)))) (λ ne. hand_else id x ne)

pub held_once : (id : ℕ) (o : Option ℕ) → in_hand id o ≤ 1
held_once id None = omega arith
held_once id (Some x) = elim (eqb id x) as (λ b. cond {A = ℕ} b 1 0 ≤ 1) [ true ↦ omega arith | false ↦ omega arith ]
