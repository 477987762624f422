-- An omnipresent cyclic, by the component that each CPU has of it.
use Rattle.std.proofs.Common.{◌≡◌, ◌≢◌, ℕ, zero, suc, ◌+◌, ◌<◌, ◌≤◌, Bool, true, false, cond, List, [], ◌∷◌, map, length, sum_by}
use Rattle.std.proofs.Common.{refl, ap, sym, ◌∙◌, subst, arith, Option, Some, None}
use Rattle.std.specs.Prelude.{slice_set, slice_index_or}
use Rattle.std.specs.Option.{option_map, option_map_or}
use Rattle.std.proofs.lemmas.List.{get_or-set_same, get_or-set_other, length-set}
use Rattle.std.proofs.lemmas.List.Sums.{sum_by-cons}
use mathlib.Core.Logic.{dite}
use native.Mathlib.Decide.{ℕ_discrete}
use Rattle.cyc_types.specs.Series.{due, next}
use Rattle.cyc_level.proofs.Maps.{some_same}
use Rattle.cyc_model.specs.Cpu.{CyclicState, Cpu}
use Rattle.cyc_model.specs.State.{State, Everywhere, OnAll, absent, cpu_of, cpus_from}
use Rattle.cyc_model.specs.Places.{placement_of, is_being_removed}
use Rattle.cyc_model.proofs.Rising.{found, due_of_found}
use Rattle.cyc_model.proofs.Placing.{placement_known}
use Rattle.cyc_model.proofs.Spread.{Good}
use Rattle.cyc_expected.specs.Course.{component_begins_at, components_from}
use Rattle.cyc_expected.proofs.Seen.{seen_at}
use Rattle.cyc_expected.proofs.Fires.{Later}
use Rattle.cyc_expected.proofs.Running.{found_in, Left}

-- what is told of a component: its next expiration and its interval
abbrev pub series_of : CyclicState → ℕ × ℕ
series_of x = (x.timer.moment, x.timer.interval)

-- of the one that the CPU has of an id
abbrev pub series_on : ℕ → Cpu → Option (ℕ × ℕ)
series_on id c = option_map series_of (found id c.cyclics)

-- the component with this next expiration, where there is one
abbrev pub with_interval : ℕ → Option ℕ → Option (ℕ × ℕ)
with_interval interval o = option_map (λ moment. (moment, interval)) o

-- it is omnipresent, each CPU has just the component that is told, and its removal is not open
pub record Spread (id : ℕ) (e : Everywhere) (moments : List (Option ℕ)) (s : State) : Type 0 where
  pub stays : is_being_removed id s ≡ false
  pub placement : placement_of id s ≡ Some (OnAll e)
  pub long : length moments ≡ length s.cpus
  pub here : (m : ℕ) → series_on id (cpu_of m s) ≡ with_interval e.interval (slice_index_or moments m None)

module _ (id : ℕ) (e : Everywhere) (moments : List (Option ℕ)) (s : State) (h : Spread id e moments s) where
  pub spread_given : Good s → id ≤ s.last_id
  spread_given g = (placement_known id s (OnAll e) g.base.rise h.placement).1

  -- where nothing of it changes
  pub spread_left : (t : State) → length t.cpus ≡ length s.cpus → Left id s t → Spread id e moments t
  spread_left t long left = record {
    stays = left.shut h.stays;
    placement = left.placement ∙ h.placement;
    long = h.long ∙ sym long;
    here = λ m. ap (option_map series_of) (seen_at (found_in id) s t left.found_ m) ∙ h.here m;
  }

  -- where the component on one CPU changes
  pub spread_one : (n : ℕ) (o : Option ℕ) (t : State) → n < length s.cpus → length t.cpus ≡ length s.cpus
      → is_being_removed id t ≡ false → placement_of id t ≡ placement_of id s
      → ((m : ℕ) → m ≢ n → found id (cpu_of m t).cyclics ≡ found id (cpu_of m s).cyclics)
      → series_on id (cpu_of n t) ≡ with_interval e.interval o
      → Spread id e (slice_set moments n o) t
  spread_one n o t within long stays placement others own = record {
    stays = stays;
    placement = placement ∙ h.placement;
    long = length-set moments n o ∙ (h.long ∙ sym long);
    here = λ m. dite (ℕ_discrete m n)
        (λ same. subst (λ k. series_on id (cpu_of k t) ≡ with_interval e.interval (slice_index_or (slice_set moments n o) k None))
        (sym same) (own ∙ ap (with_interval e.interval)
        (sym (get_or-set_same moments n o None (subst (λ k. n < k) (sym h.long) within)))))
        (λ far. ap (option_map series_of) (others m far) ∙ (h.here m
        ∙ ap (with_interval e.interval) (sym (get_or-set_other moments n m o None far))));
  }

-- ---- the components as they begin

pub components_long : (k : ℕ) (e : Everywhere) (now : ℕ) (ups : List Bool) → length (components_from k e now ups) ≡ length ups
components_long k e now [] = refl
components_long k e now (up ∷ ups) = ap suc (components_long (k + 1) e now ups)

pub components_at : (k : ℕ) (e : Everywhere) (now : ℕ) (ups : List Bool) (n : ℕ)
    → slice_index_or (components_from k e now ups) n None
    ≡ cond (slice_index_or ups n false) (Some (component_begins_at (k + n) e now)) None
components_at k e now [] n = refl
components_at k e now (up ∷ ups) zero =
    let z : k ≡ k + 0 = omega arith in ap (λ (j : ℕ). cond up (Some (component_begins_at j e now)) None) z
components_at k e now (up ∷ ups) (suc n) = components_at (k + 1) e now ups n
    ∙ (let z : k + 1 + n ≡ k + suc n = omega arith in
    ap (λ (j : ℕ). cond (slice_index_or ups n false) (Some (component_begins_at j e now)) None) z)

-- ---- what is due, and what comes after it

module _ (interval now : ℕ) where
  -- of one component
  abbrev pub due_then : Option ℕ → ℕ
  due_then o = option_map_or (λ moment. due moment interval now) o 0

  abbrev pub next_then : Option ℕ → Option ℕ
  next_then o = option_map (λ moment. next moment interval now) o

  pub due_there : (o : Option CyclicState) (m : Option ℕ) → option_map series_of o ≡ with_interval interval m
      → due_of_found now o ≡ due_then m
  due_there None None is = refl
  due_there None (Some m) is = absurd (cc)
  due_there (Some x) None is = absurd (cc)
  due_there (Some x) (Some m) is =
      let same = some_same (series_of x) (m, interval) is in λ i. due (same i).0 (same i).1 now

  pub next_there : (o p : Option CyclicState) (m : Option ℕ) → option_map series_of o ≡ with_interval interval m → Later now o p
      → option_map series_of p ≡ with_interval interval (next_then m)
  next_there None p None is later = ap (option_map series_of) later
  next_there None p (Some m) is later = absurd (cc)
  next_there (Some x) p None is later = absurd (cc)
  next_there (Some x) p (Some m) is later =
      let same = some_same (series_of x) (m, interval) is in
      ap (option_map series_of) later.1
      ∙ λ i. Some ((later.2 ∙ (λ j. next (same j).0 (same j).1 now)) i, (later.3 ∙ (λ j. (same j).1)) i)

  pub next_at : (moments : List (Option ℕ)) (m : ℕ)
      → slice_index_or (map next_then moments) m None ≡ next_then (slice_index_or moments m None)
  next_at [] m = refl
  next_at (o ∷ os) zero = refl
  next_at (o ∷ os) (suc m) = next_at os m

-- a sum over the numbers of the CPUs that pass a test, of what those CPUs have in another list
pub sum_numbers : (test : Cpu → Bool) (h : ℕ → ℕ) (g : Option ℕ → ℕ) (k : ℕ) (cs : List Cpu) (ms : List (Option ℕ))
    → length ms ≡ length cs
    → ((i : ℕ) → cond (test (slice_index_or cs i absent)) (h (k + i)) 0 ≡ g (slice_index_or ms i None))
    → sum_by h (cpus_from k test cs) ≡ sum_by g ms
sum_numbers test h g k [] [] long same = refl
sum_numbers test h g k [] (m ∷ ms) long same = absurd (omega (arith, long))
sum_numbers test h g k (c ∷ cs) [] long same = absurd (omega (arith, long))
sum_numbers test h g k (c ∷ cs) (m ∷ ms) long same =
    by (test c) (same 0) (sum_numbers test h g (k + 1) cs ms (omega (arith, long))
    (λ i. ap (λ (j : ℕ). cond (test (slice_index_or cs i absent)) (h j) 0) (shift k i) ∙ same (suc i)))
  where
    shift : (a b : ℕ) → a + 1 + b ≡ a + suc b
    shift a b = omega arith

    by : (b : Bool) → cond b (h (k + 0)) 0 ≡ g m → sum_by h (cpus_from (k + 1) test cs) ≡ sum_by g ms
        → sum_by h (cond b (k ∷ cpus_from (k + 1) test cs) (cpus_from (k + 1) test cs)) ≡ sum_by g (m ∷ ms)
    by true one rest =
        let a = sum_by-cons h k (cpus_from (k + 1) test cs) in let b = sum_by-cons g m ms in
        let z : k + 0 ≡ k = omega arith in let w = ap h z in omega (arith, a, b, w, one, rest)
    by false one rest = let b = sum_by-cons g m ms in omega (arith, b, one, rest)
