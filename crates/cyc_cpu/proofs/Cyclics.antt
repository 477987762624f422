-- From rows to the cyclics that callers see.
use Rattle.std.specs.Prelude.{insert}
use Rattle.cyc_cpu.proofs.Entering.{no_row}
use Rattle.std.proofs.Common.{◌≡◌, ◌≢◌, inl, inr, Some, ◌<◌, All, Option, get_or, ◌++◌, ◌∷◌, ℕ, List, take, drop, arith, length}
use Rattle.std.proofs.Common.{ap, sym, subst, ◌∙◌}
use Rattle.std.proofs.Math.ListN.{set}
use Rattle.std.proofs.lemmas.List.{length-map, get_or_default, get_or-map, map-set, map-append, take-map, drop-map}
use Rattle.cyc_timers.specs.Rows.{Row, Cyclic, IsRow, IsRising, HasNo, cyclic_of, cyclics_of}
use Rattle.cyc_timers.specs.Ends.{IsEnd, IsCounted, IsHard, lock_and_low}
use Rattle.cyc_types.specs.declared.Raise.{Ghosts as Raise}
use Rattle.cyc_types.specs.Firing.{FiringView}
use Rattle.cyc_types.specs.declared.level.Level.{Level}
use Rattle.cyc_types.specs.declared.level.Level.TheVariants.{Low, Lock, High}
use Rattle.cyc_cpu.specs.Calls.{CpuCall, CpuChanges}
use Rattle.cyc_cpu.specs.Cpu.{IsPassed, ComesAfter, IsNextAfter}
use Rattle.cyc_cpu.specs.Cpu.{CpuView, IsCyclic, HasNoCyclic, Asks, Looked, AreAdmitted, HasCounts, IsRemoved, HasRisingCyclics}

pub is_cyclic : (rows : List Row) (k : ℕ) (r : Row) → IsRow rows k r → IsCyclic (cyclics_of rows) k (cyclic_of r)
is_cyclic rows k r is = (
  (let l = length-map rows cyclic_of in let a = is.0 in omega (arith, l, a)),
  get_or-map cyclic_of rows k r (cyclic_of r) is.0 ∙ ap cyclic_of is.1,
)

pub no_cyclic : (id : ℕ) (rows : List Row) → HasNo id rows → HasNoCyclic id (cyclics_of rows)
no_cyclic id rows none k d low same =
    let l = length-map rows cyclic_of in
    let low' : k < length rows = omega (arith, l, low) in
    let e : Row = record { timer = d.timer; lost = d.lost; carried = d.carried; index = 0 } in
    none k e low' (ap (λ (c : Cyclic). c.timer.id) (sym (get_or-map cyclic_of rows k e d low')) ∙ same)

pub cyclics_set : (rows : List Row) (i : ℕ) (u : Row) → cyclics_of (set rows i u) ≡ set (cyclics_of rows) i (cyclic_of u)
cyclics_set rows i u = map-set cyclic_of rows i u

pub asks_from : {R : Type 0} (firing : Raise R) (id n : ℕ) (u v w : CpuView R) → u ≡ v
    → Asks firing id n u w → Asks firing id n v w
asks_from firing id n u v w is a = subst (λ x. Asks firing id n x w) is a

-- what a call does to a CPU, by what is inside it
pub changes_from : {R : Type 0} (firing : Raise R) (call : CpuCall) (u v w : CpuView R)
    → u ≡ v → CpuChanges firing u call w → CpuChanges firing v call w
changes_from firing call u v w is a = subst (λ x. CpuChanges firing x call w) is a

pub looked_from : {R : Type 0} (firing : Raise R) (u v w : CpuView R) → u ≡ v
    → Looked firing u w → Looked firing v w
looked_from firing u v w is a = subst (λ x. Looked firing x w) is a

pub no_row_of : (id : ℕ) (rows : List Row) → HasNoCyclic id (cyclics_of rows) → HasNo id rows
no_row_of id rows none k d low same =
    let l = length-map rows cyclic_of in
    none k (cyclic_of d) (omega (arith, l, low))
    (ap (λ (c : Cyclic). c.timer.id) (get_or-map cyclic_of rows k d (cyclic_of d) low) ∙ same)

pub cyclics_insert : (rows : List Row) (q : ℕ) (u : Row) → cyclics_of (insert rows q u) ≡ insert (cyclics_of rows) q (cyclic_of u)
cyclics_insert rows q u = map-append cyclic_of (take q rows) (u ∷ drop q rows)
    ∙ (λ j. sym (take-map cyclic_of q rows) j ++ (cyclic_of u ∷ sym (drop-map cyclic_of q rows) j))

-- the row of a cyclic
pub row_of_cyclic : (rows : List Row) (k : ℕ) (c : Cyclic) → IsCyclic (cyclics_of rows) k c → (r : Row) × IsRow rows k r
    × (cyclic_of r ≡ c)
row_of_cyclic rows k c is =
    let e : Row = record { timer = c.timer; lost = c.lost; carried = c.carried; index = 0 } in
    let low : k < length rows = (let l = length-map rows cyclic_of in let a = is.0 in omega (arith, l, a)) in
    (get_or rows k e, (low, get_or_default rows k (get_or rows k e) e low), sym (get_or-map cyclic_of rows k e c low) ∙ is.1)

pub admitted_cyclics : (soft : Level) (size : ℕ) (marked : Option ℕ) (v : FiringView) (rows : List Row)
    → IsEnd soft size marked v rows → AreAdmitted soft v (cyclics_of rows)
admitted_cyclics soft size marked v rows ready = record {
  here = λ k c is at.
      let (r, row, same) = row_of_cyclic rows k c is in
      let (s, stay, (index, sent, lost)) = ready.here k r row (ap (λ (x : Cyclic). x.timer.level) same ∙ at) in
      let a = ap (λ (x : Cyclic). x.timer.expired) same in let b = ap (λ (x : Cyclic). x.lost) same in let d =
      ap (λ (x : Cyclic). x.carried.sent) same in let e = ap (λ (x : Cyclic). x.carried.lost) same in
      (s, ap v.stays (ap (λ (x : Cyclic). x.timer.id) (sym same)) ∙ stay, (omega (arith, sent, a, d), omega (arith, lost, b, e)));
  only = λ id s h. (let (k, r, row, named, at) = ready.only id s h in (k, cyclic_of r, is_cyclic rows k r row, named, at));
  over = ready.over;
}

pub rising_cyclics : (rows : List Row) → IsRising rows → HasRisingCyclics (cyclics_of rows)
rising_cyclics rows rising i j d less low =
    let e : Row = record { timer = d.timer; lost = d.lost; carried = d.carried; index = 0 } in
    let l = length-map rows cyclic_of in
    let low_j : j < length rows = omega (arith, l, low) in
    let a = ap (λ (x : Cyclic). x.timer.id) (get_or-map cyclic_of rows i e d (omega (arith, less, low_j))) in
    let b = ap (λ (x : Cyclic). x.timer.id) (get_or-map cyclic_of rows j e d low_j) in
    let r = rising i j e less low_j in
    omega (arith, a, b, r)

pub counted_cyclics : (most : ℕ) (rows : List Row) → IsCounted most rows → All (HasCounts most) (cyclics_of rows)
counted_cyclics most rows counted k d low =
    let e : Row = record { timer = d.timer; lost = d.lost; carried = d.carried; index = 0 } in
    let l = length-map rows cyclic_of in
    let low' : k < length rows = omega (arith, l, low) in
    subst (HasCounts most) (sym (get_or-map cyclic_of rows k e d low')) (counted k e low')

-- the cyclic whose removal is open
pub removed_cyclic : {R : Type 0} (view : R → FiringView) (size most : ℕ) (removal : Option ℕ) (lock low : R) (rows : List Row)
    (id : ℕ) → IsHard view size most removal (lock_and_low lock low) rows → removal ≡ Some id → IsRemoved id (cyclics_of rows)
removed_cyclic view size most removal lock low rows id h is = elim (h.is_open id is) [
  | inl m ↦ (let (k, r, row, named, at) = h.ready.lock_end.marked_here id m in (
    k,
    cyclic_of r,
    is_cyclic rows k r row,
    named,
    (λ q. absurd (let no : Lock ≡ High = sym at ∙ q in cc)),
    h.ready.lock_end.removed k r row (m ∙ ap Some (sym named)),
  ))
  | inr m ↦ (let (k, r, row, named, at) = h.ready.low_end.marked_here id m in (
    k,
    cyclic_of r,
    is_cyclic rows k r row,
    named,
    (λ q. absurd (let no : Low ≡ High = sym at ∙ q in cc)),
    h.ready.low_end.removed k r row (m ∙ ap Some (sym named)),
  ))
]

-- no removal is open of an id that is not here
pub not_removed : {R : Type 0} (view : R → FiringView) (size most : ℕ) (removal : Option ℕ) (lock low : R) (rows : List Row)
    (id : ℕ) → IsHard view size most removal (lock_and_low lock low) rows → HasNo id rows → removal ≢ Some id
not_removed view size most removal lock low rows id h none is = elim (h.is_open id is) [
  | inl m ↦ (let (k, r, row, named, at) = h.ready.lock_end.marked_here id m in absurd (no_row id rows k r none row named))
  | inr m ↦ (let (k, r, row, named, at) = h.ready.low_end.marked_here id m in absurd (no_row id rows k r none row named))
]

-- to which cyclic a walk comes next
pub passed_cyclics : (rows : List Row) (passed : Option ℕ) → All (λ r. IsPassed passed r.timer.id) rows
    → All (λ c. IsPassed passed c.timer.id) (cyclics_of rows)
passed_cyclics rows passed all k d low =
    let e : Row = record { timer = d.timer; lost = d.lost; carried = d.carried; index = 0 } in
    let l = length-map rows cyclic_of in
    let low' : k < length rows = omega (arith, l, low) in
    subst (IsPassed passed) (ap (λ (c : Cyclic). c.timer.id) (sym (get_or-map cyclic_of rows k e d low'))) (all k e low')

pub next_cyclic : (rows : List Row) (passed : Option ℕ) (k : ℕ) → IsNextAfter (λ (x : Row). x.timer.id) rows passed k
    → IsNextAfter (λ (x : Cyclic). x.timer.id) (cyclics_of rows) passed k
next_cyclic rows passed k next = let l = length-map rows cyclic_of in record {
  in_range = (let r = next.in_range in omega (arith, r, l));
  passed_before = λ j d less.
      (let e : Row = record { timer = d.timer; lost = d.lost; carried = d.carried; index = 0 } in
      let low : j < length rows = (let r = next.in_range in omega (arith, r, less)) in
      subst (IsPassed passed) (ap (λ (c : Cyclic). c.timer.id) (sym (get_or-map cyclic_of rows j e d low)))
      (next.passed_before j e less));
  after_from = λ j d past low.
      (let e : Row = record { timer = d.timer; lost = d.lost; carried = d.carried; index = 0 } in
      let low' : j < length rows = omega (arith, low, l) in
      subst (ComesAfter passed) (ap (λ (c : Cyclic). c.timer.id) (sym (get_or-map cyclic_of rows j e d low')))
      (next.after_from j e past low'));
}
