-- A CPU that has as many cyclics as it can has at least that many names that may be on it.
use Rattle.std.proofs.Common.{◌≡◌, ◌≢◌, ◌∙◌, ◌==◌, ℕ, suc, ◌+◌, ◌-◌, ◌*◌, ◌<◌, ◌≤◌, Bool, true, false, Option, Some, None, List}
use Rattle.std.proofs.Common.{[], ◌∷◌, length, get_or, map, filter, cond, refl, sym, ap, subst, arith}
use Rattle.std.specs.Prelude.{nat_lt, sum_by}
use Rattle.std.specs.Option.{option_map, option_map_or}
use Rattle.std.proofs.lemmas.Bool.Decides.{nat_tests}
use Rattle.std.proofs.lemmas.List.{length-map, get_or-map}
use mathlib.Core.Logic.{dite}
use native.Mathlib.Decide.{ℕ_discrete}
use Rattle.cyc_types.specs.declared.Raise.{Ghosts as Raise}
use Rattle.cyc_types.specs.Limits.{cyclics as most_cyclics}
use Rattle.cyc_types.proofs.Facts.{lt_true}
use Rattle.cyc_cpu.specs.Cpu.{CpuView}
use Rattle.cyc_places.specs.declared.record.Placement.{Placement}
use Rattle.cyc_places.specs.declared.record.Placement.TheVariants.{On, Everywhere}
use Rattle.cyc_places.specs.declared.record.Record.{Record}
use Rattle.cyc_places.specs.Places.{IsRecord}
use Rattle.cyc_agreement.specs.Cpus.{IsCpu}
use Rattle.cyc_agreement.specs.Agreement.{Stands}
use Rattle.cyc_agreement.specs.System.{ids_of, has}
use Rattle.cyc_agreement.proofs.Lists.{among, any_at, true_eq, false_ne, eq_true}
use Rattle.cyc_agreement.proofs.Recording.{found, record_here}
use Rattle.cyc_agreement.proofs.Shifted.{ids_rise}
use Rattle.cyc_agreement.proofs.Who.{ids_there}
use Rattle.cyc_thread_calls.proofs.FirstReason.{le_true}
use Rattle.cyc_thread_calls.specs.System.{SystemView}
use Rattle.cyc_thread_calls.specs.Named.{Named}
use Rattle.cyc_thread_calls.specs.Named.TheVariants.{Nothing, Cyclic, Leaving, Removed}
use Rattle.cyc_thread_calls.specs.Progress.{Progress}
use Rattle.cyc_thread_calls.specs.Names.{named_at, cyclic_id, NoneLeaves}
use Rattle.cyc_thread_calls.specs.Sound.{IsSound}
use Rattle.cyc_thread_reasons.specs.Known.{Absent, Known}
use Rattle.cyc_thread_reasons.specs.Reasons.{is_single, has_components, may_be_on, how_many, may_be_full, are_too_many}
use Rattle.cyc_thread_reasons.proofs.Counting.{HasNoDoubles, pigeons_of, sum_all, sum_on, sum_on_but_one}
use Rattle.cyc_thread_reasons.proofs.Whereabouts.{whereabouts_of, stands_at, here_at}
use Rattle.cyc_thread_reasons.proofs.Fitting.{given_of, Fits, name_low, cyclic_of}

-- ---- tests that agree

count_same : {A B : Type 0} (f : A → Bool) (g : B → Bool) (a : A) (b : B) (xs : List A) (ys : List B) → length xs ≡ length ys
    → ((i : ℕ) → i < length xs → f (get_or xs i a) ≡ g (get_or ys i b)) → length (filter f xs) ≡ length (filter g ys)
count_same f g a b [] [] long same = refl
count_same f g a b [] (y ∷ ys) long same = absurd (omega (arith, long))
count_same f g a b (x ∷ xs) [] long same = absurd (omega (arith, long))
count_same f g a b (x ∷ xs) (y ∷ ys) long same = by (f x) (g y) (same 0 (omega arith))
    (count_same f g a b xs ys (omega (arith, long)) (λ i low. same (suc i) (omega (arith, low))))
  where
    by : (p q : Bool) → p ≡ q → length (filter f xs) ≡ length (filter g ys)
        → length (cond p (x ∷ filter f xs) (filter f xs)) ≡ length (cond q (y ∷ filter g ys) (filter g ys))
    by true true e rest = ap suc rest
    by true false e rest = absurd (let odd : true ≡ false = e in cc)
    by false true e rest = absurd (let odd : false ≡ true = e in cc)
    by false false e rest = rest

-- ---- placements

-- where the cyclic of a name is
abbrev pub place_of : {R : Type 0} → Named → SystemView R → Option Placement
place_of Nothing s = None
place_of (Cyclic id) s = option_map (λ (r : Record). r.placement) (found id s.records)
place_of (Leaving id) s = None
place_of (Removed receipt) s = None

abbrev pub is_on : ℕ → Option Placement → Bool
is_on n None = false
is_on n (Some (On m bound)) = m == n
is_on n (Some (Everywhere first skew)) = true

abbrev pub is_one : Option Placement → Bool
is_one None = false
is_one (Some (On m bound)) = true
is_one (Some (Everywhere first skew)) = false

abbrev pub is_all : Option Placement → Bool
is_all None = false
is_all (Some (On m bound)) = false
is_all (Some (Everywhere first skew)) = true

one_place : (x : Option Placement) → is_one x ≡ true → (n m : ℕ) → is_on n x ≡ true → is_on m x ≡ true → n ≡ m
one_place None is n m a b = absurd (let odd : false ≡ true = is in cc)
one_place (Some (On k bound)) is n m a b = sym (eq_true k n a) ∙ eq_true k m b
one_place (Some (Everywhere first skew)) is n m a b = absurd (let odd : false ≡ true = is in cc)

no_placement : (x : Option Placement) → is_one x ≡ false → is_all x ≡ false → (n : ℕ) → is_on n x ≡ false
no_placement None is all n = refl
no_placement (Some (On k bound)) is all n = absurd (let odd : true ≡ false = is in cc)
no_placement (Some (Everywhere first skew)) is all n = absurd (let odd : true ≡ false = all in cc)

single_placement : (o : Option Record) → is_one (option_map (λ (r : Record). r.placement) o)
    ≡ is_single (option_map_or (λ (r : Record). whereabouts_of r.placement) o Absent)
single_placement None = refl
single_placement (Some r) = by r.placement
  where
    by : (p : Placement) → is_one (Some p) ≡ is_single (whereabouts_of p)
    by (On n false) = refl
    by (On n true) = refl
    by (Everywhere first skew) = refl

all_placement : (o : Option Record) → is_all (option_map (λ (r : Record). r.placement) o)
    ≡ has_components (option_map_or (λ (r : Record). whereabouts_of r.placement) o Absent)
all_placement None = refl
all_placement (Some r) = by r.placement
  where
    by : (p : Placement) → is_all (Some p) ≡ has_components (whereabouts_of p)
    by (On n false) = refl
    by (On n true) = refl
    by (Everywhere first skew) = refl

single_named : {R : Type 0} (named : Named) (s : SystemView R) → is_one (place_of named s) ≡ is_single (given_of named s)
single_named Nothing s = refl
single_named (Cyclic id) s = single_placement (found id s.records)
single_named (Leaving id) s = refl
single_named (Removed receipt) s = refl

all_named : {R : Type 0} (named : Named) (s : SystemView R) → is_all (place_of named s) ≡ has_components (given_of named s)
all_named Nothing s = refl
all_named (Cyclic id) s = all_placement (found id s.records)
all_named (Leaving id) s = refl
all_named (Removed receipt) s = refl

-- what stands on a CPU is there, and may be there
on_stands : (n : ℕ) (p : Placement) → Stands n p → is_on n (Some p) ≡ true
on_stands n (On m bound) same = true_eq m n same
on_stands n (Everywhere first skew) same = refl

may_stand : (n : ℕ) (p : Placement) → Stands n p → may_be_on n (whereabouts_of p) ≡ true
may_stand n (On m false) same = refl
may_stand n (On m true) same = true_eq m n same
may_stand n (Everywhere first skew) same = refl

le_then : (a b c : ℕ) → a ≤ b → b ≤ c → a ≤ c
le_then a b c l m = omega (arith, l, m)

module _ {C R : Type 0} (firing : Raise R) (names given : ℕ) (told : Known) (p : Progress R C)
    (h : Fits firing names given told p) (none : NoneLeaves p.names) (sound : IsSound firing.view p.side.system) where
  abbrev s : SystemView R
  s = p.side.system

  -- the name of a cyclic that is on a CPU, and its record
  pub named_on : (n id : ℕ) → has n id s.cpus ≡ true → (a : ℕ) × (named_at p.names a ≡ Cyclic id)
      × (k : ℕ) × (r : Record) × IsRecord s.records k r × (r.id ≡ id) × Stands n r.placement
  named_on n id here = let (k, r, is, named, there, on) = sound.agrees.known n id here in
      let (a, has_id) = h.known id (here_at s.records k r id h.rising is named) in
      (a, cyclic_of (named_at p.names a) id has_id (none a), k, r, is, named, there)

  counted_on : {A : Type 0} (test : A → Bool) (d : A) (xs : List A) → length xs ≡ names → (n : ℕ) (x : CpuView R)
      → IsCpu n x s.cpus → ((a id k : ℕ) (r : Record) → named_at p.names a ≡ Cyclic id → IsRecord s.records k r → r.id ≡ id
      → Stands n r.placement → test (get_or xs a d) ≡ true)
      → length x.cyclics ≤ length (filter test xs)
  counted_on test d xs long n x at passes =
      let few = pigeons_of test d xs (ids_of x) (λ a. cyclic_id (named_at p.names a)) apart stand in
      let e = length-map x.cyclics (λ c. c.timer.id) in omega (arith, few, e)
    where
      apart : HasNoDoubles (ids_of x)
      apart i j a b e = dite (ℕ_discrete i j) (λ same. same)
          (λ ne. dite (ℕ_discrete (j - i) 0)
          (λ z. (let less = ids_rise x.cyclics (sound.lawful n x at).rising j i (omega (arith, z, ne)) a in
          absurd (omega (arith, less, e))))
          (λ m. (let less = ids_rise x.cyclics (sound.lawful n x at).rising i j (omega (arith, m)) b in
          absurd (omega (arith, less, e)))))

      here : (i : ℕ) → i < length (ids_of x) → has n (get_or (ids_of x) i 0) s.cpus ≡ true
      here i low = ap (λ ids. among (get_or (ids_of x) i 0) ids) (ids_there s.cpus n x x at)
          ∙ any_at (λ own. own == get_or (ids_of x) i 0) (ids_of x) i 0 low (true_eq _ _ refl)

      stand : (i : ℕ) → i < length (ids_of x) → (a : ℕ) × (a < length xs) × (test (get_or xs a d) ≡ true)
          × (cyclic_id (named_at p.names a) ≡ Some (get_or (ids_of x) i 0))
      stand i low = let id = get_or (ids_of x) i 0 in let (a, is, k, r, at_record, named, there) = named_on n id (here i low) in
          let under = name_low p.names a id (ap cyclic_id is) in let l = h.long in
          (a, omega (arith, under, l, long), passes a id k r is at_record named there, ap cyclic_id is)

  -- the CPU may be full
  pub full_told : (n : ℕ) (x : CpuView R) → IsCpu n x s.cpus → most_cyclics ≤ length x.cyclics → may_be_full n told ≡ true
  full_told n x at full = le_true most_cyclics (how_many (may_be_on n) told) (le_then most_cyclics (length x.cyclics)
      (how_many (may_be_on n) told) full (counted_on (may_be_on n) Absent told.names h.told_long n x at passes))
    where
      passes : (a id k : ℕ) (r : Record) → named_at p.names a ≡ Cyclic id → IsRecord s.records k r → r.id ≡ id
          → Stands n r.placement → may_be_on n (get_or told.names a Absent) ≡ true
      passes a id k r is at_record named there = ap (may_be_on n) (h.each a ∙ ap (λ (z : Named). given_of z s) is
          ∙ stands_at s.records k r id h.rising at_record named) ∙ may_stand n r.placement there

  -- ---- all CPUs

  abbrev pub places : List (Option Placement)
  places = map (λ named. place_of named s) p.names

  places_long : length places ≡ names
  places_long = length-map p.names (λ named. place_of named s) ∙ h.long

  pub placement_at : (a id k : ℕ) (r : Record) → named_at p.names a ≡ Cyclic id → IsRecord s.records k r → r.id ≡ id
      → get_or places a None ≡ Some r.placement
  placement_at a id k r is at_record named =
      get_or-map (λ named. place_of named s) p.names a Nothing None (name_low p.names a id (ap cyclic_id is))
      ∙ ap (λ (z : Named). place_of z s) is
      ∙ ap (λ o. option_map (λ (q : Record). q.placement) o) (record_here id k r s.records h.rising at_record named)

  on_count : (n : ℕ) (x : CpuView R) → IsCpu n x s.cpus → length x.cyclics ≤ length (filter (is_on n) places)
  on_count n x at = counted_on (is_on n) None places places_long n x at
      (λ a id k r is at_record named there. ap (is_on n) (placement_at a id k r is at_record named)
      ∙ on_stands n r.placement there)

  singles : length (filter is_one places) ≡ how_many is_single told
  singles = count_same is_one is_single None Absent places told.names (places_long ∙ sym h.told_long)
      (λ i low. ap is_one (get_or-map (λ named. place_of named s) p.names i Nothing None
      (let a = places_long in let b = h.long in omega (arith, low, a, b)))
      ∙ single_named (named_at p.names i) s ∙ ap is_single (sym (h.each i)))

  all_of_them : length (filter is_all places) ≡ how_many has_components told
  all_of_them = count_same is_all has_components None Absent places told.names (places_long ∙ sym h.told_long)
      (λ i low. ap is_all (get_or-map (λ named. place_of named s) p.names i Nothing None
      (let a = places_long in let b = h.long in omega (arith, low, a, b)))
      ∙ all_named (named_at p.names i) s ∙ ap has_components (sym (h.each i)))

  -- each of these CPUs has as many cyclics as it can
  abbrev pub AreFull : List ℕ → Type 0
  AreFull ns = (i : ℕ) → i < length ns → (x : CpuView R) × IsCpu (get_or ns i 0) x s.cpus × (most_cyclics ≤ length x.cyclics)

  sum_low : (ns : List ℕ) → AreFull ns → length ns * most_cyclics ≤ sum_by (λ n. length (filter (is_on n) places)) ns
  sum_low ns full = sum_all (λ n. length (filter (is_on n) places)) most_cyclics ns (λ i low.
      (let (x, at, high) = full i low in le_then most_cyclics (length x.cyclics)
      (length (filter (is_on (get_or ns i 0)) places)) high (on_count (get_or ns i 0) x at)))

  less_one : (a b x y z : ℕ) → a ≤ b → b ≤ x + y → x ≡ z → a < z + 1 + y
  less_one a b x y z l m e = omega (arith, l, m, e)

  less_but_one : (a b x y z : ℕ) → a ≤ b → b + 1 ≤ x + y → x ≡ z → a < z + y
  less_but_one a b x y z l m e = omega (arith, l, m, e)

  -- so one more has no room on any of them
  pub one_too_many : (ns : List ℕ) → HasNoDoubles ns → AreFull ns
      → are_too_many (how_many is_single told + 1) (length ns) told ≡ true
  one_too_many ns apart full = lt_true (length ns * most_cyclics)
      (how_many is_single told + 1 + length ns * how_many has_components told)
      (subst (λ k. length ns * most_cyclics < how_many is_single told + 1 + length ns * k) all_of_them
      (less_one (length ns * most_cyclics) (sum_by (λ n. length (filter (is_on n) places)) ns)
      (length (filter is_one places)) (length ns * length (filter is_all places)) (how_many is_single told) (sum_low ns full)
      (sum_on is_on is_one is_all one_place no_placement ns apart places) singles))

  -- so they have no room for all, where one is on none of them
  pub all_too_many : (ns : List ℕ) (a id k n : ℕ) (bound : Bool) (r : Record) → HasNoDoubles ns → AreFull ns
      → named_at p.names a ≡ Cyclic id → IsRecord s.records k r → r.id ≡ id → r.placement ≡ On n bound
      → ((i : ℕ) → i < length ns → get_or ns i 0 ≢ n)
      → are_too_many (how_many is_single told) (length ns) told ≡ true
  all_too_many ns a id k n bound r apart full is at_record named placement beside = lt_true (length ns * most_cyclics)
      (how_many is_single told + length ns * how_many has_components told)
      (subst (λ k. length ns * most_cyclics < how_many is_single told + length ns * k) all_of_them
      (less_but_one (length ns * most_cyclics) (sum_by (λ n. length (filter (is_on n) places)) ns)
      (length (filter is_one places)) (length ns * length (filter is_all places)) (how_many is_single told) (sum_low ns full)
      (sum_on_but_one is_on is_one is_all one_place no_placement ns apart None places a
      (let under = name_low p.names a id (ap cyclic_id is) in let b = h.long in let c = places_long in omega (arith, under, b, c))
      (ap is_one here) (λ i low. ap (is_on (get_or ns i 0)) here ∙ false_ne n (get_or ns i 0) (λ e. beside i low (sym e))))
      singles))
    where
      here : get_or places a None ≡ Some (On n bound)
      here = placement_at a id k r is at_record named ∙ ap Some placement
