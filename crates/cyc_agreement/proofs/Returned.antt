-- The components of omnipresent cyclics that came back to a CPU.
use Rattle.std.proofs.Common.{◌≡◌, ◌≢◌, ℕ, suc, ◌+◌, Bool, true, false, Some, None, List, [], ◌∷◌, ◌++◌, length, refl, sym, ap}
use Rattle.std.proofs.Common.{◌∙◌, subst, append_assoc, arith}
use Rattle.std.specs.Prelude.{◌||◌, ◌==◌}
use Rattle.std.specs.List.{slice_get, list_any}
use Rattle.std.specs.Option.{option_map, option_map_or, option_and_then}
use Rattle.std.proofs.lemmas.List.{append-nil, length-set}
use Rattle.std.proofs.lemmas.List.Edits.{length-insert}
use mathlib.Core.Logic.{dite}
use native.Mathlib.Decide.{ℕ_discrete}
use Rattle.cyc_types.specs.declared.Raise.{Ghosts as Raise}
use Rattle.cyc_types.specs.declared.firing.Sent.{Sent}
use Rattle.cyc_types.specs.declared.moment.When.{When}
use Rattle.cyc_cpu.specs.Rows.{Cyclic}
use Rattle.cyc_cpu.specs.Cpu.{CpuView, Places, cyclic_with}
use Rattle.cyc_cpu.specs.Calls.{CpuChanges, Place as PlaceCall}
use Rattle.cyc_places.specs.declared.record.Placement.{Placement}
use Rattle.cyc_places.specs.declared.record.Placement.TheVariants.{On, Everywhere}
use Rattle.cyc_places.specs.declared.record.Record.{Record}
use Rattle.cyc_places.specs.Places.{ended_on}
use Rattle.cyc_agreement.specs.Cpus.{CpusView, IsCpu, with_cpu, ChangesAt, DoesAt, Works}
use Rattle.cyc_agreement.proofs.CpuSpots.{get_set_other, cpu_there, one_cpu, changed}
use Rattle.cyc_agreement.specs.System.{ids_of, ids_on, has, removal_on, is_everywhere, is_leaving_here}
use Rattle.cyc_agreement.specs.Agreement.{most_on, suspended_on}
use Rattle.cyc_agreement.proofs.Lists.{among, true_eq, false_ne, false_true}
use Rattle.cyc_agreement.proofs.Who.{OneMore, placed}
use Rattle.cyc_agreement.specs.Omni.{component_first}
use Rattle.cyc_agreement.specs.Online.{return_at, returns}
use Rattle.cyc_agreement.proofs.Prefixes.{ids_in}
use Rattle.cyc_agreement.proofs.Arriving.{between}

-- each of these is omnipresent
abbrev pub AllEverywhere : List Record → Type 0
AllEverywhere [] = Unit {0}
AllEverywhere (r ∷ rs) = (is_everywhere r.placement ≡ true) × AllEverywhere rs

-- the CPU has these cyclics more
pub record Gains {R : Type 0} (rs : List Record) (x y : CpuView R) : Type 0 where
  pub ids : (q : ℕ) → among q (ids_of y) ≡ (among q (ids_in rs) || among q (ids_of x))
  pub many : length y.cyclics ≡ length x.cyclics + length rs
  pub size : y.size ≡ x.size
  pub most : y.most ≡ x.most
  pub suspended : y.suspended ≡ x.suspended
  pub removal : y.removal ≡ x.removal

-- and all else is as it was
pub record Back {R : Type 0} (n : ℕ) (rs : List Record) (v w : CpusView R) : Type 0 where
  pub online : w.online ≡ v.online
  pub long : length w.cpus ≡ length v.cpus
  pub others : (m : ℕ) → m ≢ n → slice_get w.cpus m ≡ slice_get v.cpus m
  pub cpu : (x : CpuView R) → IsCpu n x v → (y : CpuView R) × IsCpu n y w × Gains rs x y

or_swap : (a b c : Bool) → (a || (b || c)) ≡ ((b || a) || c)
or_swap true true c = refl
or_swap true false c = refl
or_swap false true c = refl
or_swap false false c = refl

gains_then : {R : Type 0} (r : Record) (rs : List Record) (x y z : CpuView R) → Gains (r ∷ []) x y → Gains rs y z
    → Gains (r ∷ rs) x z
gains_then r rs x y z a b = record {
  ids = λ q. b.ids q ∙ ap (λ c. among q (ids_in rs) || c) (a.ids q ∙ ap (λ c. c || among q (ids_of x)) (or_none (r.id == q)))
      ∙ or_swap (among q (ids_in rs)) (r.id == q) (among q (ids_of x));
  many = (let p = a.many in let q = b.many in omega (arith, p, q));
  size = b.size ∙ a.size;
  most = b.most ∙ a.most;
  suspended = b.suspended ∙ a.suspended;
  removal = b.removal ∙ a.removal;
}
  where
    or_none : (b : Bool) → (b || false) ≡ b
    or_none true = refl
    or_none false = refl

module _ {R : Type 0} (firing : Raise R) where
  gains_one : (r : Record) (c : Cyclic) (x y : CpuView R) → c.timer.id ≡ r.id → Places firing c x y → Gains (r ∷ []) x y
  gains_one r c x y named p = record {
    ids = λ q. dite (ℕ_discrete q c.timer.id)
        (λ e. ap (λ k. among k (ids_of y)) e ∙ o.here
        ∙ sym (ap (λ b. (b || false) || among q (ids_of x)) (true_eq r.id q (sym (e ∙ named)))))
        (λ ne. o.others q ne ∙ sym (ap (λ b. (b || false) || among q (ids_of x))
        (false_ne r.id q (λ e. ne (sym e ∙ sym named)))));
    many = (let e = ap (λ (cs : List Cyclic). length cs) p.cyclics ∙ length-insert x.cyclics p.position c p.within in e);
    size = p.kept.size;
    most = p.kept.most;
    suspended = p.kept.suspended;
    removal = p.kept.removal;
  }
    where
      o : OneMore c.timer.id x y
      o = placed firing x y c p

  back_one : (n : ℕ) (r : Record) (c : Cyclic) (v w : CpusView R) (D : CpuView R → CpuView R → Type 0) → c.timer.id ≡ r.id
      → (d : ChangesAt n D v w) → Places firing c d.before d.after → Back n (r ∷ []) v w
  back_one n r c v w D named d p = subst (λ u. Back n (r ∷ []) v u) (sym d.rest) (record {
    online = refl;
    long = length-set v.cpus n d.after;
    others = λ m ne. get_set_other v.cpus n m d.after ne;
    cpu = λ x at. (
      d.after,
      cpu_there n d.before d.after v d.here,
      subst (λ z. Gains (r ∷ []) z d.after) (one_cpu n d.before x v d.here at) (gains_one r c d.before d.after named p),
    );
  })

  -- one component comes back
  pub back_at : (n now : ℕ) (r : Record) (placement : Placement) (v w : CpusView R) → is_everywhere placement ≡ true
      → Works firing (return_at n now r.id r.level (ended_on n r) placement) v w → Back n (r ∷ []) v w
  back_at n now r (On m bound) v w e works = absurd (false_true e)
  back_at n now r (Everywhere series skew) v w e (u, did, last) = subst (λ x. Back n (r ∷ []) v x) last
      (back_one n r (cyclic_with r.id r.level series.interval (component_first n series skew now) (ended_on n r).sent
      (ended_on n r).lost) v u _ refl did did.change.1)

back_none : {R : Type 0} (n : ℕ) (v : CpusView R) → Back n [] v v
back_none n v = record {
  online = refl;
  long = refl;
  others = λ m ne. refl;
  cpu = λ x at. (
    x,
    at,
    record {
      ids = λ q. refl;
      many = (let e : length x.cyclics ≡ length x.cyclics + 0 = omega arith in e);
      size = refl;
      most = refl;
      suspended = refl;
      removal = refl;
    },
  );
}

back_then : {R : Type 0} (n : ℕ) (r : Record) (rs : List Record) (u v w : CpusView R) → Back n (r ∷ []) u v → Back n rs v w
    → Back n (r ∷ rs) u w
back_then n r rs u v w a b = record {
  online = b.online ∙ a.online;
  long = b.long ∙ a.long;
  others = λ m ne. b.others m ne ∙ a.others m ne;
  cpu = λ x at. (let (y, here, first) = a.cpu x at in let (z, there, rest) = b.cpu y here in
      (z, there, gains_then r rs x y z first rest));
}

module _ {R : Type 0} (firing : Raise R) (n now : ℕ) where
  pub back : (rs : List Record) (v w : CpusView R) → AllEverywhere rs → Works firing (returns n now rs) v w → Back n rs v w
  back [] v w all e = subst (λ u. Back n [] v u) e (back_none n v)
  back (r ∷ rs) v w all works =
      let (u, first, rest) = between (DoesAt firing) v (return_at n now r.id r.level (ended_on n r) r.placement)
      (returns n now rs) w works in
      back_then n r rs v u w (back_at firing n now r r.placement v u all.0 first) (back rs u w all.1 rest)

  pub returns_more : (rs : List Record) (r : Record)
      → returns n now (rs ++ r ∷ []) ≡ returns n now rs ++ return_at n now r.id r.level (ended_on n r) r.placement
  returns_more [] r = append-nil _
  returns_more (q ∷ rs) r = ap (λ cs. return_at n now q.id q.level (ended_on n q) q.placement ++ cs) (returns_more rs r)
      ∙ sym (append_assoc (return_at n now q.id q.level (ended_on n q) q.placement) (returns n now rs)
      (return_at n now r.id r.level (ended_on n r) r.placement))

-- what all CPUs keep
module _ {R : Type 0} (n : ℕ) (rs : List Record) (v w : CpusView R) (x : CpuView R) (at : IsCpu n x v) (b : Back n rs v w) where
  kept : {X : Type 0} (f : CpuView R → X) (none : X) (same : (y : CpuView R) → Gains rs x y → f y ≡ f x) (m : ℕ)
      → option_map_or f (slice_get w.cpus m) none ≡ option_map_or f (slice_get v.cpus m) none
  kept f none same m = dite (ℕ_discrete m n)
      (λ e. let (y, here, gains) = b.cpu x at in
      ap (λ k. option_map_or f (slice_get w.cpus k) none) e ∙ ap (λ o. option_map_or f o none) here ∙ same y gains
      ∙ sym (ap (λ o. option_map_or f o none) at) ∙ ap (λ k. option_map_or f (slice_get v.cpus k) none) (sym e))
      (λ ne. ap (λ o. option_map_or f o none) (b.others m ne))

  pub back_removals : (m : ℕ) → removal_on m w ≡ removal_on m v
  back_removals m = as_and (slice_get w.cpus m) ∙ kept (λ cpu. cpu.removal) None (λ y g. g.removal) m
      ∙ sym (as_and (slice_get v.cpus m))
    where
      as_and : (o : _) → option_and_then (λ (cpu : CpuView R). cpu.removal) o ≡ option_map_or (λ cpu. cpu.removal) o None
      as_and None = refl
      as_and (Some y) = refl

  pub back_most : (m : ℕ) → most_on m w ≡ most_on m v
  back_most m = as_map (slice_get w.cpus m) ∙ kept (λ cpu. Some cpu.most) None (λ y g. ap Some g.most) m
      ∙ sym (as_map (slice_get v.cpus m))
    where
      as_map : (o : _) → option_map (λ (cpu : CpuView R). cpu.most) o ≡ option_map_or (λ cpu. Some cpu.most) o None
      as_map None = refl
      as_map (Some y) = refl

  pub back_suspended : (m : ℕ) → suspended_on m w ≡ suspended_on m v
  back_suspended m = as_map (slice_get w.cpus m) ∙ kept (λ cpu. Some cpu.suspended) None (λ y g. ap Some g.suspended) m
      ∙ sym (as_map (slice_get v.cpus m))
    where
      as_map : (o : _) → option_map (λ (cpu : CpuView R). cpu.suspended) o ≡ option_map_or (λ cpu. Some cpu.suspended) o None
      as_map None = refl
      as_map (Some y) = refl

  pub back_has : (q : ℕ) → has n q w ≡ (among q (ids_in rs) || among q (ids_of x))
  back_has q = let (y, here, gains) = b.cpu x at in ap (λ o. among q (option_map_or ids_of o [])) here ∙ gains.ids q

  pub back_elsewhere : (m : ℕ) → m ≢ n → ids_on m w ≡ ids_on m v
  back_elsewhere m ne = ap (λ o. option_map_or ids_of o []) (b.others m ne)

-- the removals that are open tell of each id whether it is leaving
pub leaving_same : {R : Type 0} (id : ℕ) (xs ys : List (CpuView R)) → length ys ≡ length xs
    → ((m : ℕ) → option_and_then (λ cpu. cpu.removal) (slice_get ys m) ≡ option_and_then (λ cpu. cpu.removal) (slice_get xs m))
    → list_any (is_leaving_here id) ys ≡ list_any (is_leaving_here id) xs
leaving_same id [] [] long same = refl
leaving_same id [] (y ∷ ys) long same = absurd (omega (arith, long))
leaving_same id (x ∷ xs) [] long same = absurd (omega (arith, long))
leaving_same id (x ∷ xs) (y ∷ ys) long same =
    (λ i. option_map_or (λ own. own == id) (same 0 i) false || leaving_same id xs ys (let e = long in omega (arith, e))
    (λ m. same (suc m)) i)

-- one component was placed
module _ {R : Type 0} (firing : Raise R) (n now : ℕ) where
  by_placement : (q : Record) (placement : Placement) (series : When) (skew : ℕ) (counts : Sent) (v : CpusView R)
      (x y : CpuView R)
      → placement ≡ Everywhere series skew → IsCpu n x v
      → CpuChanges firing x (PlaceCall q.id q.level series.interval (component_first n series skew now) counts) y
      → Works firing (return_at n now q.id q.level counts placement) v (with_cpu v n y)
  by_placement q placement series skew counts v x y is at did =
      subst (λ p. Works firing (return_at n now q.id q.level counts p) v (with_cpu v n y)) (sym is)
      (with_cpu v n y, changed n _ x y v at did, refl)

  pub one_back : (r q : Record) (series : When) (skew moment : ℕ) (counts : Sent) (v : CpusView R) (x y : CpuView R) → r ≡ q
      → q.placement ≡ Everywhere series skew → IsCpu n x v
      → moment ≡ component_first n series skew now → counts ≡ ended_on n q
      → CpuChanges firing x (PlaceCall q.id q.level series.interval moment counts) y
      → Works firing (return_at n now r.id r.level (ended_on n r) r.placement) v (with_cpu v n y)
  one_back r q series skew moment counts v x y same placement at first ended did =
      subst (λ (z : Record). Works firing (return_at n now z.id z.level (ended_on n z) z.placement) v (with_cpu v n y)) (sym same)
      (subst (λ c. Works firing (return_at n now q.id q.level c q.placement) v (with_cpu v n y)) ended
      (by_placement q q.placement series skew counts v x y placement at
      (subst (λ m. CpuChanges firing x (PlaceCall q.id q.level series.interval m counts) y) first did)))
