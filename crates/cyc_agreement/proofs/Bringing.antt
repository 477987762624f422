-- The walk over the records by which components come back to a CPU.
use Rattle.std.proofs.Common.{◌≡◌, ℕ, zero, suc, ◌+◌, ◌≤◌, Bool, true, false, cond, not, List, [], ◌∷◌, length, get_or, map}
use Rattle.std.proofs.Common.{filter, take, slice_set, refl, sym, ap, ◌∙◌, subst, arith}
use Rattle.std.specs.Prelude.{◌||◌, ◌&&◌}
use Rattle.std.specs.List.{slice_get, list_any}
use Rattle.std.proofs.lemmas.List.{append-nil, take_all}
use Rattle.cyc_types.specs.declared.Raise.{Ghosts as Raise}
use Rattle.cyc_types.specs.declared.firing.Sent.{Sent}
use Rattle.cyc_types.proofs.Runs.{folds_on}
use Rattle.cyc_types.specs.Counting.{no_counts}
use Rattle.cyc_types.proofs.Facts.{and_first}
use Rattle.cyc_cpu.specs.Rows.{Cyclic}
use Rattle.cyc_cpu.specs.Cpu.{CpuView}
use Rattle.cyc_cpu.specs.Calls.{MayPlace}
use Rattle.cyc_places.specs.declared.record.Record.{Record}
use Rattle.cyc_places.specs.Places.{IsRecord, HasRisingIds, HaveCounts, AreCounts, ended_on, with_ended, is_everywhere}
use Rattle.cyc_agreement.specs.Cpus.{CpusView, IsCpu, DoesAt, Works}
use Rattle.cyc_agreement.proofs.CpuSpots.{one_cpu}
use Rattle.cyc_agreement.proofs.Who.{id_in}
use Rattle.cyc_agreement.specs.System.{ids_of, is_leaving_here}
use Rattle.cyc_agreement.proofs.Lists.{among, false_true}
use Rattle.cyc_agreement.proofs.Entering.{none_here}
use Rattle.cyc_agreement.specs.Online.{is_staying, return_at, returns, after_return}
use Rattle.cyc_agreement.proofs.Prefixes.{changed_to, changed_none, changed_length, changed_all, changed_at, changed_set}
use Rattle.cyc_agreement.proofs.Prefixes.{changed_keep, passing_more, passing_count, passing_few, ids_in, not_before}
use Rattle.cyc_agreement.proofs.Returned.{AllEverywhere, Back, back, back_has, back_removals, leaving_same, returns_more}

-- one that stays is omnipresent
pub staying_everywhere : {R : Type 0} (v : CpusView R) (r : Record) → is_staying v r ≡ true → is_everywhere r.placement ≡ true
staying_everywhere v r e = and_first (is_everywhere r.placement) (not (list_any (is_leaving_here r.id) v.cpus)) e

pub all_everywhere : {R : Type 0} (v : CpusView R) (rs : List Record) → AllEverywhere (filter (is_staying v) rs)
all_everywhere v [] = tt
all_everywhere v (r ∷ rs) = by (is_staying v r) refl (all_everywhere v rs)
  where
    by : (b : Bool) → is_staying v r ≡ b → AllEverywhere (filter (is_staying v) rs)
        → AllEverywhere (cond b (r ∷ filter (is_staying v) rs) (filter (is_staying v) rs))
    by true e rest = (staying_everywhere v r e, rest)
    by false e rest = rest

-- whether a cyclic stays depends on the removals alone
pub staying_same : {R : Type 0} (v w : CpusView R)
    → ((id : ℕ) → list_any (is_leaving_here id) w.cpus ≡ list_any (is_leaving_here id) v.cpus)
    → (r : Record) → is_staying w r ≡ is_staying v r
staying_same v w same r = ap (λ b. is_everywhere r.placement && not b) (same r.id)

counts_at : (xs : List Sent) (n : ℕ) → AreCounts xs → (get_or xs n no_counts).lost ≤ (get_or xs n no_counts).sent
counts_at [] n h = omega arith
counts_at (x ∷ xs) zero h = h 0 no_counts (omega arith)
counts_at (x ∷ xs) (suc n) h = counts_at xs n (λ k d low. h (suc k) d (omega (arith, low)))

module _ {R : Type 0} (firing : Raise R) (n now : ℕ) (v : CpusView R)
    (rs : List Record) where
  -- those below position k have come back
  pub record Bringing (k : ℕ) (w : CpusView R) (qs : List Record) : Type 0 where
    pub list : qs ≡ changed_to (after_return n v) k rs
    pub works : Works firing (returns n now (filter (is_staying v) (take k rs))) v w

  pub bringing_start : Bringing 0 v rs
  bringing_start = record { list = sym (changed_none (after_return n v) rs); works = of_none rs }
    where
      of_none : (xs : List Record) → Works firing (returns n now (filter (is_staying v) (take 0 xs))) v v
      of_none [] = refl
      of_none (x ∷ xs) = refl

  pub so_far : (k : ℕ) (w : CpusView R) (qs : List Record) → Bringing k w qs → Back n (filter (is_staying v) (take k rs)) v w
  so_far k w qs b = back firing n now (filter (is_staying v) (take k rs)) v w (all_everywhere v (take k rs)) b.works

  pub many : (k : ℕ) (w : CpusView R) (qs : List Record) → Bringing k w qs → length qs ≡ length rs
  many k w qs b = ap (λ (l : List Record). length l) b.list ∙ changed_length (after_return n v) k rs

  pub old_at : (k : ℕ) (w : CpusView R) (qs : List Record) (r : Record) → Bringing k w qs → IsRecord qs k r → IsRecord rs k r
  old_at k w qs r b is = sym (changed_at (after_return n v) k rs) ∙ ap (λ l. slice_get l k) (sym b.list) ∙ is

  pub now_at : (k : ℕ) (w : CpusView R) (qs : List Record) (r : Record) → Bringing k w qs → IsRecord rs k r → IsRecord qs k r
  now_at k w qs r b is = ap (λ l. slice_get l k) b.list ∙ changed_at (after_return n v) k rs ∙ is

  pub bringing_more : (k : ℕ) (w u : CpusView R) (qs ps : List Record) (r : Record) → Bringing k w qs → IsRecord rs k r
      → is_staying v r ≡ true
      → Works firing (return_at n now r.id r.level (ended_on n r) r.placement) w u
      → ps ≡ slice_set qs k (with_ended n no_counts r)
      → Bringing (k + 1) u ps
  bringing_more k w u qs ps r b is stays did list = record {
    list = list ∙ (λ i. slice_set (b.list i) k (sym (ap (λ c. cond c (with_ended n no_counts r) r) stays) i))
        ∙ changed_set (after_return n v) k rs r is;
    works = subst (λ way. Works firing way v u)
        (sym (ap (λ l. returns n now l) (passing_more (is_staying v) k rs r true is stays)
        ∙ returns_more firing n now (filter (is_staying v) (take k rs)) r))
        (folds_on (DoesAt firing) v (returns n now (filter (is_staying v) (take k rs))) w
        (return_at n now r.id r.level (ended_on n r) r.placement) u b.works did);
  }

  pub bringing_same : (k : ℕ) (w : CpusView R) (qs : List Record) (r : Record) → Bringing k w qs → IsRecord rs k r
      → is_staying v r ≡ false → Bringing (k + 1) w qs
  bringing_same k w qs r b is leaves = record {
    list = b.list ∙ changed_keep (after_return n v) k rs r is (ap (λ c. cond c (with_ended n no_counts r) r) leaves);
    works = subst (λ l. Works firing (returns n now l) v w)
        (sym (passing_more (is_staying v) k rs r false is leaves ∙ append-nil (filter (is_staying v) (take k rs)))) b.works;
  }

  pub bringing_done : (k : ℕ) (w : CpusView R) (qs : List Record) → length rs ≤ k → Bringing k w qs
      → Works firing (returns n now (filter (is_staying v) rs)) v w × (qs ≡ map (after_return n v) rs)
  bringing_done k w qs all b = (
    subst (λ l. Works firing (returns n now (filter (is_staying v) l)) v w) (take_all k rs all) b.works,
    b.list ∙ changed_all (after_return n v) k rs all,
  )

  module _ (x : CpuView R) (at : IsCpu n x v) where
    pub still_staying : (k : ℕ) (w : CpusView R) (qs : List Record) → Bringing k w qs → (r : Record)
        → is_staying w r ≡ is_staying v r
    still_staying k w qs b = let done = so_far k w qs b in staying_same v w
        (λ id. leaving_same id v.cpus w.cpus done.long (back_removals n (filter (is_staying v) (take k rs)) v w x at done))

    or_none : (a b : Bool) → b ≡ false → (a || b) ≡ a
    or_none true b e = refl
    or_none false b e = e

    -- the next one may be placed
    pub may_come : (k : ℕ) (w : CpusView R) (qs : List Record) (r : Record) (y : CpuView R) → Bringing k w qs → IsRecord rs k r
        → is_staying v r ≡ true → IsCpu n y w
        → HasRisingIds rs → HaveCounts rs → x.cyclics ≡ [] → length (filter (is_staying v) rs) ≤ x.size
        → (ended_on n r).sent ≤ x.most
        → MayPlace r.id (ended_on n r) y
    may_come k w qs r y b is stays there rising counts empty room within =
        let done = so_far k w qs b in
        let (z, here, gains) = done.cpu x at in
        let same : z ≡ y = one_cpu n z y w here there in
        subst (λ cpu. MayPlace r.id (ended_on n r) cpu) same (record {
          absent = none_here w n r.id z (λ h. not_before (is_staying v) rs k r rising is
              (sym (back_has n (filter (is_staying v) (take k rs)) v w x at done r.id
              ∙ or_none (among r.id (ids_in (filter (is_staying v) (take k rs)))) (among r.id (ids_of x))
              (ap (λ cs. among r.id (map id_in cs)) empty)) ∙ h)) here;
          free = (let many = gains.many in let none = ap (λ (cs : List Cyclic). length cs) empty in let next =
              passing_count (is_staying v) k rs r true is stays in
              let few = passing_few (is_staying v) (k + 1) rs in let size = gains.size in
              omega (arith, many, none, next, few, size, room));
          lost = counts_at r.ended n (counts k r is);
          most = (let most = gains.most in omega (arith, most, within));
        })
