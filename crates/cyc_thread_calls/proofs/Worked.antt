-- The definitions, computed on worked scripts.
use Rattle.std.proofs.Common.{◌≡◌, ℕ, zero, suc, ◌+◌, ◌<◌, ◌≤◌, arith, sym, subst, Bool, true, false, Some, None, List, [], ◌∷◌}
use Rattle.std.proofs.Common.{◌++◌, map, refl}
use Rattle.std.specs.Prelude.{pos, negsuc, ℤ, codes}
use Rattle.std.specs.Fmt.{digits}
use Rattle.cyc_types.specs.Limits.{cyclics as most_cyclics}
use Rattle.cyc_types.specs.declared.level.Level.TheVariants as level
use Rattle.cyc_script.specs.declared.step.Step.{Step}
use Rattle.cyc_script.specs.declared.step.Step.TheVariants.{Add, Remove, Advance, Juggle, Offline, Online, Suspend, Resume}
use Rattle.cyc_model.proofs.Steps.{add, omni, reprogram, reprogram_on}
use Rattle.cyc_expected.specs.Expected.{Met, expected}
use Rattle.cyc_threads.proofs.Spots.{same_some}
use Rattle.cyc_thread_calls.specs.Calm.{IsStep, Parts, AreParted, AreCalm}
use Rattle.cyc_text.specs.Lines.{reported}
use Rattle.cyc_thread_calls.specs.Way.{calm_way}
use Rattle.cyc_thread_calls.specs.Text.{calm_counts, report_from}

-- which steps are accepted
abbrev taken : ℕ → List Step → List Bool
taken cpus steps = map (λ (m : Met). m.accepted) (calm_way cpus steps)

-- four names on four CPUs, one of which is removed, and moves among them
abbrev four : List Step
four = add level.High 0 10 10 ∷ add level.Lock 1 5 10 ∷ add level.Low 2 0 7 ∷ omni level.Low 3 10 10 1 ∷ Advance 100 ∷
    Remove 1 ∷ Juggle 0 ∷ Advance 200 ∷ []

all_of_it_is_taken : taken 4 four ≡ true ∷ true ∷ true ∷ true ∷ true ∷ true ∷ true ∷ true ∷ []
all_of_it_is_taken = refl

the_high_one : expected 4 (calm_way 4 four) 0 ≡ 20
the_high_one = refl

a_removal_ends_it : expected 4 (calm_way 4 four) 1 ≡ 10
a_removal_ends_it = refl

a_start_of_0_is_the_first_multiple : expected 4 (calm_way 4 four) 2 ≡ 28
a_start_of_0_is_the_first_multiple = refl

each_component_starts_later : expected 4 (calm_way 4 four) 3 ≡ 77
each_component_starts_later = refl

-- the bytes of its report, with these names
its_report : report_from (calm_counts 4 four) 0 (codes "a" ∷ codes "b" ∷ codes "c" ∷ codes "o" ∷ [])
    ≡ codes "a expired 20 called 20 lost 0 pending 0\n" ++ codes "b expired 10 called 10 lost 0 pending 0\n"
    ++ codes "c expired 28 called 28 lost 0 pending 0\n" ++ codes "o expired 77 called 77 lost 0 pending 0\n"
unfolding reported digits
its_report = refl

-- while the system is suspended no advance is accepted, and the first after it makes all that is due
abbrev stopped : List Step
stopped = add level.High 0 10 10 ∷ Suspend ∷ Advance 35 ∷ Suspend ∷ Resume ∷ Resume ∷ Advance 36 ∷ []

no_advance_is_taken_while_suspended : taken 1 stopped ≡ true ∷ true ∷ false ∷ false ∷ true ∷ false ∷ true ∷ []
no_advance_is_taken_while_suspended = refl

one_advance_after_a_resume_makes_all_that_is_due : expected 1 (calm_way 1 stopped) 0 ≡ 3
one_advance_after_a_resume_makes_all_that_is_due = refl

-- a refused advance sets the clock
a_refused_advance_sets_the_clock :
    expected 1 (calm_way 1 (Suspend ∷ Advance 25 ∷ add level.High 0 0 10 ∷ Resume ∷ Advance 30 ∷ [])) 0 ≡ 1
a_refused_advance_sets_the_clock = refl

-- a step is refused for its numbers
abbrev start_of : ℤ → ℤ → Step
start_of start interval = Add (record { name = 0; level = level.High; start = start; interval = interval })

a_start_is_not_negative : taken 1 (start_of (negsuc 0) (pos 10) ∷ []) ≡ false ∷ []
a_start_is_not_negative = refl

an_interval_is_at_least_1 : taken 1 (start_of (pos 0) (pos 0) ∷ []) ≡ false ∷ []
an_interval_is_at_least_1 = refl

an_interval_of_1_is_one : taken 1 (start_of (pos 0) (pos 1) ∷ []) ≡ true ∷ []
an_interval_of_1_is_one = refl

a_moment_is_not_negative : taken 1 (add level.High 0 10 10 ∷ reprogram 0 (negsuc 4) ∷ []) ≡ true ∷ false ∷ []
a_moment_is_not_negative = refl

-- or for what its name has
a_name_that_was_refused_has_nothing :
    taken 1 (start_of (pos 0) (pos 0) ∷ Remove 0 ∷ reprogram 0 (pos 5) ∷ []) ≡ false ∷ false ∷ false ∷ []
a_name_that_was_refused_has_nothing = refl

what_was_removed_is_gone : taken 1 (add level.High 0 10 10 ∷ Remove 0 ∷ Juggle 0 ∷ Remove 0 ∷ reprogram 0 (pos 5) ∷ [])
    ≡ true ∷ true ∷ true ∷ false ∷ false ∷ []
what_was_removed_is_gone = refl

one_that_is_on_one_cpu_has_no_components :
    taken 2 (add level.High 0 10 10 ∷ reprogram_on 0 (pos 5) 0 ∷ reprogram 0 (pos 5) ∷ []) ≡ true ∷ false ∷ true ∷ []
one_that_is_on_one_cpu_has_no_components = refl

an_omnipresent_one_has_one_on_each_cpu :
    taken 2 (omni level.High 0 10 10 0 ∷ reprogram 0 (pos 5) ∷ reprogram_on 0 (pos 5) 1 ∷ reprogram_on 0 (pos 5) 2 ∷ [])
    ≡ true ∷ false ∷ true ∷ false ∷ []
an_omnipresent_one_has_one_on_each_cpu = refl

no_cpu_comes_back : taken 2 (Online 0 ∷ Online 5 ∷ []) ≡ false ∷ false ∷ []
no_cpu_comes_back = refl

-- ---- calm scripts

none_is : {A : Type 0} {x : A} → None ≡ Some x → ⊥
none_is {A = A} {x = x} e = cc

-- between two removes stands a juggle, before which a run waits
parted : List Step
parted = Remove 0 ∷ Juggle 0 ∷ Remove 1 ∷ []

a_juggle_parts_two_removes : AreCalm parted 2
unfolding parted
a_juggle_parts_two_removes = record {
  apart = apart;
  online = online;
  few = omega arith;
}
  where
    apart : (i j a b : ℕ) → i < j → IsStep parted i (Remove a) → IsStep parted j (Remove b) → AreParted parted i j
    apart zero zero a b less p q = absurd (omega (arith, less))
    apart zero (suc zero) a b less p q = absurd (let odd : Some (Juggle 0) ≡ Some (Remove b) = q in cc)
    apart zero (suc (suc zero)) a b less p q = record {
      position = 1;
      step = Juggle 0;
      after = omega arith;
      before = omega arith;
      here = refl;
      parts = tt;
    }
    apart zero (suc (suc (suc j))) a b less p q = absurd (none_is q)
    apart (suc zero) j a b less p q = absurd (let odd : Some (Juggle 0) ≡ Some (Remove a) = p in cc)
    apart (suc (suc zero)) zero a b less p q = absurd (omega (arith, less))
    apart (suc (suc zero)) (suc zero) a b less p q = absurd (omega (arith, less))
    apart (suc (suc zero)) (suc (suc zero)) a b less p q = absurd (omega (arith, less))
    apart (suc (suc zero)) (suc (suc (suc j))) a b less p q = absurd (none_is q)
    apart (suc (suc (suc i))) j a b less p q = absurd (none_is p)

    online : (i n : ℕ) → IsStep parted i (Offline n) → ⊥
    online zero n p = let odd : Some (Remove 0) ≡ Some (Offline n) = p in cc
    online (suc zero) n p = let odd : Some (Juggle 0) ≡ Some (Offline n) = p in cc
    online (suc (suc zero)) n p = let odd : Some (Remove 1) ≡ Some (Offline n) = p in cc
    online (suc (suc (suc i))) n p = none_is p

-- an advance does not
advanced : List Step
advanced = Remove 0 ∷ Advance 5 ∷ Remove 1 ∷ []

an_advance_does_not : AreCalm advanced 2 → ⊥
unfolding advanced
an_advance_does_not calm = by (calm.apart 0 2 0 1 (omega arith) refl refl)
  where
    at : (k : ℕ) (x : Step) → 0 < k → k < 2 → IsStep advanced k x → Parts x → ⊥
    at zero x low high here parts = omega (arith, low)
    at (suc zero) x low high here parts = subst Parts (sym (same_some here)) parts
    at (suc (suc k)) x low high here parts = omega (arith, high)

    by : AreParted advanced 0 2 → ⊥
    by r = at r.position r.step r.after r.before r.here r.parts

-- nor is a script with an offline calm, or one with more names than a CPU can have cyclics
an_offline_is_not_calm : AreCalm (Offline 0 ∷ []) 0 → ⊥
an_offline_is_not_calm calm = calm.online 0 0 refl

names_too_many : AreCalm [] (most_cyclics + 1) → ⊥
names_too_many calm = let few : most_cyclics + 1 ≤ most_cyclics = calm.few in omega (arith, few)

-- one with as many is
names_enough : AreCalm [] most_cyclics
names_enough = record {
  apart = λ i j a b less p q. absurd (none_is p);
  online = λ i n p. none_is p;
  few = omega arith;
}
