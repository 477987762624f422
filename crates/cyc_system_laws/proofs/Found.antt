-- What a system has of an id, summed and looked up.
use Rattle.std.proofs.Common.{◌≡◌, ◌==◌, ℕ, suc, ◌+◌, ◌<◌, Bool, true, false, cond, find, Option, Some, None, List, [], ◌∷◌, refl}
use Rattle.std.proofs.Common.{sym, ap, arith}
use Rattle.std.specs.Prelude.{sum_by}
use Rattle.std.specs.List.{slice_get}
use Rattle.std.specs.Option.{option_map_or, option_and_then}
use Rattle.std.proofs.lemmas.List.Sums.{sum_by-cons}
use Rattle.std.proofs.lemmas.Option.{get_or_from_slice_get, slice_get_within}
use Rattle.cyc_types.specs.Firing.{FiringView}
use Rattle.cyc_timers.specs.Rows.{Cyclic}
use Rattle.cyc_cpu.specs.declared.moving.Taken.{Taken}
use Rattle.cyc_cpu.specs.Cpu.{CpuView, HasRisingCyclics as HaveRisingIds}
use Rattle.cyc_places.specs.declared.record.Record.{Record}
use Rattle.cyc_places.specs.Places.{HasRisingIds}
use Rattle.cyc_system.specs.System.{SystemView}
use Rattle.cyc_system.proofs.Lists.{eq_true, false_ne}
use Rattle.cyc_system.proofs.Recording.{found}
use Rattle.cyc_system.specs.Counts.{AreLawful}
use Rattle.cyc_system.specs.RemovalLaws.{cyclic_in, IsUntouched}
use Rattle.cyc_system.proofs.Sums.{sum_none}
use Rattle.cyc_system_laws.specs.Keeping.{stay_on, over_stays}
use Rattle.cyc_system_laws.proofs.Flow.{on_cpu, on_cpus}

sum_as : {A : Type 0} (h k : A → ℕ) (xs : List A) → ((n : ℕ) (x : A) → slice_get xs n ≡ Some x → h x ≡ k x)
    → sum_by h xs ≡ sum_by k xs
sum_as h k [] same = refl
sum_as h k (x ∷ xs) same = let a = sum_by-cons h x xs in let b = sum_by-cons k x xs in let c = same 0 x refl in
    let d = sum_as h k xs (λ n y is. same (suc n) y is) in omega (arith, a, b, c, d)

-- of things whose ids differ, the sum over those of an id is what the one found has
module _ {A : Type 0} (id_of : A → ℕ) (h : A → ℕ) (id : ℕ) where
  abbrev if_own : A → ℕ
  if_own x = cond (id_of x == id) (h x) 0

  pub sum_found : (xs : List A) → ((i j : ℕ) (x y : A) → i < j → slice_get xs i ≡ Some x → slice_get xs j ≡ Some y
      → id_of x < id_of y)
      → sum_by if_own xs ≡ option_map_or h (find (λ x. id_of x == id) xs) 0
  sum_found [] rising = refl
  sum_found (x ∷ xs) rising =
      let a = sum_by-cons if_own x xs in
      by (id_of x == id) refl a (sum_found xs (λ i j y z less p q. rising (suc i) (suc j) y z (omega (arith, less)) p q))
    where
      by : (b : Bool) → (id_of x == id) ≡ b → sum_by if_own (x ∷ xs) ≡ cond b (h x) 0 + sum_by if_own xs
          → sum_by if_own xs ≡ option_map_or h (find (λ x. id_of x == id) xs) 0
          → sum_by if_own (x ∷ xs) ≡ option_map_or h (cond b (Some x) (find (λ x. id_of x == id) xs)) 0
      by true is a rest =
          (let none = sum_none if_own xs (λ n y at. (let less = rising 0 (suc n) x y (omega arith) refl at in
          let own = eq_true (id_of x) id is in
          ap (λ (b : Bool). cond b (h y) 0) (false_ne (id_of y) id (λ e. omega (arith, less, own, e))))) in
          omega (arith, a, none))
      by false is a rest = omega (arith, a, rest)

-- the ids of a CPU's cyclics rise, position by position
cyclics_rise : (cs : List Cyclic) → HaveRisingIds cs → (i j : ℕ) (x y : Cyclic) → i < j → slice_get cs i ≡ Some x
    → slice_get cs j ≡ Some y → x.timer.id < y.timer.id
cyclics_rise cs rising i j x y less p q =
    let l = rising i j x less (slice_get_within cs j y q) in
    let a = ap (λ (c : Cyclic). c.timer.id) (get_or_from_slice_get cs i x x p) in
    let b = ap (λ (c : Cyclic). c.timer.id) (get_or_from_slice_get cs j y x q) in omega (arith, l, a, b)

module _ {R : Type 0} (view : R → FiringView) (id : ℕ) where
  pub stays_found : (f : Taken → ℕ) (s : SystemView R) → AreLawful view s → on_cpus f id s.cpus ≡ over_stays f id s
  stays_found f s lawful = sum_as (on_cpu f id) _ s.cpus.cpus
      (λ n cpu at. sum_found (λ (c : Cyclic). c.timer.id) (λ c. f (stay_on c)) id cpu.cyclics
      (cyclics_rise cpu.cyclics (lawful n cpu at).rising))

  pub records_found : (h : Record → ℕ) (s : SystemView R) → HasRisingIds s.records
      → sum_by (λ (r : Record). cond (r.id == id) (h r) 0) s.records ≡ option_map_or h (found id s.records) 0
  records_found h s rising = sum_found (λ (r : Record). r.id) h id s.records (λ i j x y less p q. rising i j x y less p q)

-- another cyclic, which no call touched
module _ {R : Type 0} (id : ℕ) (h : Cyclic → ℕ) where
  abbrev in_cpu : CpuView R → ℕ
  in_cpu cpu = option_map_or h (cyclic_in id cpu) 0

  abbrev here : List (CpuView R) → ℕ → Option Cyclic
  here xs n = option_and_then (cyclic_in id) (slice_get xs n)

  nothing_here : (xs : List (CpuView R)) → ((n : ℕ) → None ≡ here xs n) → sum_by in_cpu xs ≡ 0
  nothing_here [] same = refl
  nothing_here (x ∷ xs) same =
      let a = sum_by-cons in_cpu x xs in let b = ap (λ o. option_map_or h o 0) (same 0) in
      let c = nothing_here xs (λ n. same (suc n)) in omega (arith, a, b, c)

  same_here : (xs ys : List (CpuView R)) → ((n : ℕ) → here xs n ≡ here ys n) → sum_by in_cpu xs ≡ sum_by in_cpu ys
  same_here [] [] same = refl
  same_here [] (y ∷ ys) same = sym (nothing_here (y ∷ ys) same)
  same_here (x ∷ xs) [] same = nothing_here (x ∷ xs) (λ n. sym (same n))
  same_here (x ∷ xs) (y ∷ ys) same =
      let a = sum_by-cons in_cpu x xs in let b = sum_by-cons in_cpu y ys in let c = ap (λ o. option_map_or h o 0) (same 0) in
      let d = same_here xs ys (λ n. same (suc n)) in omega (arith, a, b, c, d)

pub untouched_stays : {R : Type 0} (id : ℕ) (f : Taken → ℕ) (s t : SystemView R) → IsUntouched id s t
    → over_stays f id t ≡ over_stays f id s
untouched_stays id f s t u = same_here id (λ c. f (stay_on c)) t.cpus.cpus s.cpus.cpus u.cyclics
