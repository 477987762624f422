-- What a CPU has after it took part again.
use Rattle.std.proofs.Common.{◌≡◌, ◌≢◌, ℕ, zero, suc, ◌+◌, ◌⊎◌, inl, inr, Bool, true, false, cond, Ok, List, [], ◌∷◌, filter}
use Rattle.std.proofs.Common.{find, refl, sym, ap, ◌∙◌, subst, arith}
use Rattle.std.specs.Prelude.{◌==◌}
use Rattle.std.specs.List.{slice_get}
use Rattle.std.specs.Option.{option_map_or}
use mathlib.Core.Logic.{dite}
use native.Mathlib.Decide.{ℕ_discrete}
use Rattle.cyc_types.specs.declared.Raise.{Ghosts as Raise}
use Rattle.cyc_types.specs.declared.firing.Sent.{Sent}
use Rattle.cyc_types.specs.declared.moment.When.{When}
use Rattle.cyc_types.specs.Counting.{no_counts}
use Rattle.cyc_cpu.specs.Rows.{Cyclic}
use Rattle.cyc_cpu.specs.Cpu.{CpuView, HasRisingCyclics}
use Rattle.cyc_places.specs.declared.record.Placement.{Placement}
use Rattle.cyc_places.specs.declared.record.Placement.TheVariants.{On, Everywhere}
use Rattle.cyc_places.specs.declared.record.Record.{Record}
use Rattle.cyc_places.specs.Places.{IsRecord, HasRisingIds as RecordsRise, ended_on}
use Rattle.cyc_agreement.specs.Cpus.{CpusView, OfCpu, DoesAt, Works}
use Rattle.cyc_agreement.proofs.CpuSpots.{get_set_other}
use Rattle.cyc_agreement.specs.System.{SystemView, is_online, is_everywhere}
use Rattle.cyc_agreement.specs.Agreement.{Agrees}
use Rattle.cyc_agreement.proofs.Lists.{among, false_true}
use Rattle.cyc_agreement.proofs.Spots.{same_some, none_some}
use Rattle.cyc_agreement.proofs.Recording.{one_record}
use Rattle.cyc_agreement.specs.Online.{is_staying, staying, return_at, returns, after_return, GoesOnline}
use Rattle.cyc_agreement.specs.OmniLaws.{IsOneOf, HasOne, old_component, expired_on, lost_on}
use Rattle.cyc_agreement.proofs.Prefixes.{ids_in, found_in}
use Rattle.cyc_agreement.proofs.Arriving.{between}
use Rattle.cyc_agreement.proofs.Returned.{Back, back}
use Rattle.cyc_agreement.proofs.Bringing.{all_everywhere, staying_everywhere}
use Rattle.cyc_agreement.proofs.Rejoined.{turned, at_mapped, none_offline}
use Rattle.cyc_agreement.proofs.Components.{Came, came_none, came_then, came_more, came_placed, here_placed, one_of, cyclics_on}
use Rattle.cyc_agreement.proofs.Components.{were_there, are_there, are_same, find_one, find_none}

-- one that passes has a position among those that do
passing_at : (p : Record → Bool) (k : ℕ) (r : Record) (rs : List Record) → IsRecord rs k r → p r ≡ true → (j : ℕ)
    × IsRecord (filter p rs) j r
passing_at p k r [] is e = absurd (none_some is)
passing_at p zero r (x ∷ rs) is e = (0, by (p x) (ap p (same_some is) ∙ e))
  where
    by : (b : Bool) → b ≡ true → IsRecord (cond b (x ∷ filter p rs) (filter p rs)) 0 r
    by true h = is
    by false h = absurd (false_true h)
passing_at p (suc k) r (x ∷ rs) is e = by (p x) (passing_at p k r rs is e)
  where
    by : (b : Bool) → ((j : ℕ) × IsRecord (filter p rs) j r) → (j : ℕ) × IsRecord (cond b (x ∷ filter p rs) (filter p rs)) j r
    by true (j, at) = (suc j, at)
    by false (j, at) = (j, at)

module _ {R : Type 0} (firing : Raise R) (n now : ℕ) where
  -- what the CPU has of these after they came back
  pub record Regained (rs : List Record) (v w : CpusView R) : Type 0 where
    pub came : Came (ids_in rs) (cyclics_on n v) (cyclics_on n w)
    pub here : (k : ℕ) (r : Record) (when : When) (skew : ℕ) → IsRecord rs k r → r.placement ≡ Everywhere when skew
        → IsOneOf (old_component n r when skew now) (cyclics_on n w) × HasRisingCyclics (cyclics_on n w)

  same_series : {a b : When} {i j : ℕ} → Everywhere a i ≡ Everywhere b j → (a ≡ b) × (i ≡ j)
  same_series {a} {b} {i} {j} e = (cc, cc)

  regain_at : (r : Record) (placement : Placement) (v w : CpusView R) → r.placement ≡ placement
      → Works firing (return_at n now r.id r.level (ended_on n r) placement) v w → Regained (r ∷ []) v w
  regain_at r (On m bound) v w is e = record {
    came = came_more r.id [] (cyclics_on n v) (cyclics_on n w)
        (came_none (cyclics_on n v) (cyclics_on n w) (ap (λ x. cyclics_on n x) (sym e)));
    here = λ k q when skew at p. absurd (not_both m bound when skew (sym is ∙ ap (λ (x : Record). x.placement) (one k q at) ∙ p));
  }
    where
      one : (k : ℕ) (q : Record) → IsRecord (r ∷ []) k q → r ≡ q
      one zero q at = same_some at
      one (suc k) q at = absurd (none_some at)

      not_both : (m : ℕ) (bound : Bool) (when : When) (skew : ℕ) → On m bound ≡ Everywhere when skew → ⊥
      not_both m bound when skew e = cc
  regain_at r (Everywhere series skew) v w is (u, places, e) = record {
    came = subst (λ l. Came (r.id ∷ []) l (cyclics_on n w)) (sym (were_there n _ v u places))
        (subst (λ l. Came (r.id ∷ []) places.before.cyclics l) after
        (came_placed firing _ places.before places.after places.change.1));
    here = λ k q when other at p. (let (a, b) = same_series (sym is ∙ ap (λ (x : Record). x.placement) (one k q at) ∙ p) in (
      subst (λ c. IsOneOf c (cyclics_on n w)) (λ i. old_component n (one k q at i) (a i) (b i) now)
          (subst (λ l. IsOneOf (old_component n r series skew now) l) after
          (here_placed firing _ places.before places.after places.change.1)),
      subst (λ l. HasRisingCyclics l) after places.change.1.rising,
    ));
  }
    where
      after : places.after.cyclics ≡ cyclics_on n w
      after = sym (are_there n _ v u places) ∙ ap (λ x. cyclics_on n x) e

      one : (k : ℕ) (q : Record) → IsRecord (r ∷ []) k q → r ≡ q
      one zero q at = same_some at
      one (suc k) q at = absurd (none_some at)

  pub regained : (rs : List Record) (v w : CpusView R) → Works firing (returns n now rs) v w → Regained rs v w
  regained [] v w e = record {
    came = came_none (cyclics_on n v) (cyclics_on n w) (ap (λ x. cyclics_on n x) (sym e));
    here =
        λ k r when skew at p. absurd (none_some at);
  }
  regained (r ∷ rs) v w works =
      let (u, first, rest) = between (DoesAt firing) v (return_at n now r.id r.level (ended_on n r) r.placement)
      (returns n now rs) w works in
      let a = regain_at r r.placement v u refl first in let b = regained rs u w rest in record {
        came = came_then r.id (ids_in rs) (cyclics_on n v) (cyclics_on n u) (cyclics_on n w) a.came b.came;
        here = λ k q when skew at p. by u a b k q when skew at p;
      }
    where
      by : (u : CpusView R) → Regained (r ∷ []) v u → Regained rs u w → (k : ℕ) (q : Record) (when : When) (skew : ℕ)
          → IsRecord (r ∷ rs) k q → q.placement ≡ Everywhere when skew
          → IsOneOf (old_component n q when skew now) (cyclics_on n w) × HasRisingCyclics (cyclics_on n w)
      by u a b zero q when skew at p = let (here, rising) = a.here 0 q when skew at p in
          (b.came.old (old_component n q when skew now) here, b.came.rising rising)
      by u a b (suc k) q when skew at p = b.here k q when skew at p

-- what the laws of online say
module _ {R : Type 0} (firing : Raise R) (s t : SystemView R) (n now : ℕ)
    (did : GoesOnline firing n now (Ok tt) s t) where
  works : Works firing (returns n now (staying s)) did.0.1.2.0 did.0.0
  works = did.0.1.2.2

  before : (m : ℕ) → cyclics_on m did.0.1.2.0 ≡ cyclics_on m s.cpus
  before m = are_same n _ did.0.1.0 did.0.1.2.0 did.0.1.2.1 did.0.1.2.1.change.1.cyclics m
      ∙ are_same n _ s.cpus did.0.1.0 did.0.1.1 did.0.1.1.change.0.cyclics m

  gained : Regained firing n now (staying s) did.0.1.2.0 did.0.0
  gained = regained firing n now (staying s) did.0.1.2.0 did.0.0 works

  now_on : (m : ℕ) → cyclics_on m t.cpus ≡ cyclics_on m did.0.0
  now_on m = ap (λ x. cyclics_on m x) did.0.2

  rest : Back n (staying s) did.0.1.2.0 did.0.0
  rest = back firing n now (staying s) did.0.1.2.0 did.0.0 (all_everywhere s.cpus s.records) works

  pub all_back : (k : ℕ) (r : Record) (when : When) (skew : ℕ) → IsRecord s.records k r → r.placement ≡ Everywhere when skew
      → is_staying s.cpus r ≡ true → OfCpu n (λ cpu. HasOne (old_component n r when skew now) cpu.cyclics) t.cpus
  all_back k r when skew is placement stays cpu at =
      let (j, there) = passing_at (is_staying s.cpus) k r s.records is stays in
      let (here, rising) = gained.here j r when skew there placement in
      subst (λ l. HasOne (old_component n r when skew now) l) (sym (now_on n)
      ∙ ap (λ o. option_map_or (λ (c : CpuView R). c.cyclics) o []) at)
      (one_of (old_component n r when skew now) (cyclics_on n did.0.0) rising here)

  pub others_stay : (m : ℕ) → m ≢ n → (slice_get t.cpus.cpus m ≡ slice_get s.cpus.cpus m)
      × (is_online m t.cpus ≡ is_online m s.cpus)
  others_stay m ne = (
    ap (λ (x : CpusView R). slice_get x.cpus m) did.0.2 ∙ rest.others m ne
        ∙ ap (λ (x : CpusView R). slice_get x.cpus m) did.0.1.2.1.rest ∙ get_set_other did.0.1.0.cpus n m did.0.1.2.1.after ne
        ∙ ap (λ (x : CpusView R). slice_get x.cpus m) did.0.1.1.rest ∙ get_set_other s.cpus.cpus n m did.0.1.1.after ne,
    ap (λ (x : CpusView R). is_online m x) did.0.2
        ∙ ap (λ o. option_map_or (λ online. online) o false) (get_set_other did.0.0.online n m true ne
        ∙ ap (λ (o : List Bool). slice_get o m) (rest.online ∙ ap (λ (x : CpusView R). x.online) did.0.1.2.1.rest
        ∙ ap (λ (x : CpusView R). x.online) did.0.1.1.rest)),
  )

  module _ (a : Agrees s) (rising : RecordsRise s.records) (off : is_online n s.cpus ≡ false) where
    none_before : cyclics_on n s.cpus ≡ []
    none_before = let d = did.0.1.1 in ap (λ o. option_map_or (λ (c : CpuView R). c.cyclics) o []) d.here
        ∙ none_offline s n d.before a off d.here

    -- the CPU has a cyclic of this id only where its record stays
    not_other : (k : ℕ) (r : Record) → IsRecord s.records k r → is_staying s.cpus r ≡ false → (d : Cyclic)
        → IsOneOf d (cyclics_on n did.0.0) → d.timer.id ≡ r.id → ⊥
    not_other k r is leaves d h same = by (gained.came.only d h)
      where
        by : IsOneOf d (cyclics_on n did.0.1.2.0) ⊎ (among d.timer.id (ids_in (staying s)) ≡ true) → ⊥
        by (inl there) = let (j, at) = subst (λ l. IsOneOf d l) (before n ∙ none_before) there in let low = at.0 in
            absurd (omega (arith, low))
        by (inr e) = let (j, p, at, named, stays) = found_in (is_staying s.cpus) d.timer.id s.records e in
            let one : p ≡ r = same_some (sym at ∙ subst (λ i. IsRecord s.records i r)
            (sym (one_record s.records k j r p rising is at (named ∙ same))) is) in
            false_true (sym leaves ∙ ap (is_staying s.cpus) (sym one) ∙ stays)

    -- f is a count of a cyclic, and g that of its ended stays
    module _ (f : Cyclic → ℕ) (g : Sent → ℕ) (zero_is : g no_counts ≡ 0) (same_is : (r : Record) (when : When) (skew : ℕ)
        → f (old_component n r when skew now) ≡ g (ended_on n r)) where
      at_first : (r : Record) → option_map_or f (find (λ (c : Cyclic). c.timer.id == r.id) (cyclics_on n s.cpus)) 0 + g
          (ended_on n r) ≡ g (ended_on n r)
      at_first r = ap (λ l. option_map_or f (find (λ (c : Cyclic). c.timer.id == r.id) l) 0 + g (ended_on n r)) none_before
          ∙ (let e : 0 + g (ended_on n r) ≡ g (ended_on n r) = omega arith in e)

      at_last : (k : ℕ) (r : Record) → IsRecord s.records k r → (b : Bool) → is_staying s.cpus r ≡ b → (p : Placement)
          → r.placement ≡ p
          → option_map_or f (find (λ (c : Cyclic). c.timer.id == (after_return n s.cpus r).id) (cyclics_on n t.cpus)) 0 + g
          (ended_on n (after_return n s.cpus r)) ≡ g (ended_on n r)
      at_last k r is false leaves p placement = let x = turned n (is_staying s.cpus r) r in
          ap (λ (q : Record). option_map_or f (find (λ (c : Cyclic). c.timer.id == q.id) (cyclics_on n t.cpus)) 0 + g
          (ended_on n q)) (x.left leaves)
          ∙ ap (λ l. option_map_or f (find (λ (c : Cyclic). c.timer.id == r.id) l) 0 + g (ended_on n r)) (now_on n)
          ∙ ap (λ o. option_map_or f o 0 + g (ended_on n r)) (find_none r.id (cyclics_on n did.0.0) (not_other k r is leaves))
          ∙ (let e : 0 + g (ended_on n r) ≡ g (ended_on n r) = omega arith in e)
      at_last k r is true stays (On m bound) placement = absurd (false_true (sym (ap is_everywhere placement)
          ∙ staying_everywhere s.cpus r stays))
      at_last k r is true stays (Everywhere series skew) placement =
          let x = turned n (is_staying s.cpus r) r in
          let (j, there) = passing_at (is_staying s.cpus) k r s.records is stays in
          let (here, up) = gained.here j r series skew there placement in
          (λ i. option_map_or f (find (λ (c : Cyclic). c.timer.id == x.id i) (now_on n i)) 0 + g (x.here stays i))
          ∙ ap (λ o. option_map_or f o 0 + g no_counts)
          (find_one r.id (old_component n r series skew now) (cyclics_on n did.0.0) refl up here)
          ∙ (let e = same_is r series skew in let z = zero_is in
          let sum : f (old_component n r series skew now) + g no_counts ≡ g (ended_on n r) = omega (arith, e, z) in sum)

      pub count_kept : (k : ℕ) (r : Record) → IsRecord s.records k r → (m : ℕ)
          → option_map_or f (find (λ (c : Cyclic). c.timer.id == (after_return n s.cpus r).id) (cyclics_on m t.cpus)) 0 + g
          (ended_on m (after_return n s.cpus r))
          ≡ option_map_or f (find (λ (c : Cyclic). c.timer.id == r.id) (cyclics_on m s.cpus)) 0 + g (ended_on m r)
      count_kept k r is m = dite (ℕ_discrete m n)
          (λ e. subst (λ j. option_map_or f (find (λ (c : Cyclic). c.timer.id == (after_return n s.cpus r).id)
          (cyclics_on j t.cpus)) 0 + g (ended_on j (after_return n s.cpus r))
          ≡ option_map_or f (find (λ (c : Cyclic). c.timer.id == r.id) (cyclics_on j s.cpus)) 0 + g (ended_on j r)) (sym e)
          (at_last k r is (is_staying s.cpus r) refl r.placement refl ∙ sym (at_first r)))
          (λ ne. let x = turned n (is_staying s.cpus r) r in let same = (others_stay m ne).0 in
          (λ i. option_map_or f (find (λ (c : Cyclic). c.timer.id == x.id i)
          (option_map_or (λ (c : CpuView R). c.cyclics) (same i) [])) 0 + g (x.other m ne i)))

    pub nothing_lost : (k : ℕ) (r : Record) → IsRecord s.records k r
        → (q : Record) × IsRecord t.records k q × (q.id ≡ r.id) × (q.level ≡ r.level) × (q.placement ≡ r.placement)
        × ((m : ℕ) → (expired_on m q t ≡ expired_on m r s) × (lost_on m q t ≡ lost_on m r s))
    nothing_lost k r is = let x = turned n (is_staying s.cpus r) r in (
      after_return n s.cpus r,
      ap (λ l. slice_get l k) did.1 ∙ at_mapped (after_return n s.cpus) k r s.records is,
      x.id,
      x.level,
      x.placement,
      λ m. (
        count_kept (λ c. c.timer.expired) (λ e. e.sent) refl (λ q when skew. refl) k r is m,
        count_kept (λ c. c.lost) (λ e. e.lost) refl (λ q when skew. refl) k r is m,
      ),
    )
