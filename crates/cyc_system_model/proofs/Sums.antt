-- Sums over CPUs, over numbers of CPUs, and over what ended stays left.
use Rattle.std.proofs.Common.{◌≡◌, ℕ, suc, ◌+◌, ◌<◌, ◌≤◌, eq-eqb, ne_eqb, Bool, true, false, cond, List, [], ◌∷◌, length, map}
use Rattle.std.proofs.Common.{get_or, sum_by, Some, None, refl, ap, sym, ◌∙◌, arith}
use Rattle.std.proofs.lemmas.List.Sums.{sum_by-cons}
use mathlib.Core.Logic.{dite}
use native.Mathlib.Decide.{ℕ_discrete}
use Rattle.cyc_types.specs.declared.firing.Sent.{Sent}
use Rattle.cyc_types.specs.Counting.{no_counts}
use Rattle.cyc_system_model.specs.Rows.{Cyclic as Timed}
use Rattle.cyc_cpu.specs.Cpu.{HasNoCyclic, HasRisingCyclics}
use Rattle.cyc_model.specs.Cpu.{CyclicState, Cpu, is_of}
use Rattle.cyc_model.specs.State.{absent, kept_if, cpus_from}
use Rattle.cyc_model.proofs.Rising.{found, first_is, first_not, tally}
use Rattle.cyc_system_model.specs.ShownCpu.{shown_cyclic}

-- ---- the cyclics of one CPU

pub tally_none : (g : CyclicState → ℕ) (id : ℕ) (cs : List CyclicState) → found id cs ≡ None → tally g id cs ≡ 0
tally_none g id [] none = refl
tally_none g id (c ∷ cs) none =
    let a = sum_by-cons (λ x. cond (is_of id x) (g x) 0) c cs in
    let b = by (is_of id c) none (λ e. tally_none g id cs e) in
    omega (arith, a, b)
  where
    by : (b : Bool) → cond b (Some c) (found id cs) ≡ None → (found id cs ≡ None → tally g id cs ≡ 0)
        → cond b (g c) 0 + tally g id cs ≡ 0
    by true e rest = absurd (let isnt : Some c ≡ None = e in cc)
    by false e rest = let r = rest e in omega (arith, r)

none_found : (id : ℕ) (cs : List Timed) → HasNoCyclic id cs → found id (map shown_cyclic cs) ≡ None
none_found id [] none = refl
none_found id (c ∷ cs) none =
    ap (λ b. cond b (Some (shown_cyclic c)) (found id (map shown_cyclic cs))) (ne_eqb c.timer.id id (none 0 c (omega arith)))
    ∙ none_found id cs (λ k d low. none (suc k) d (omega (arith, low)))

later_rise : (c : Timed) (cs : List Timed) → HasRisingCyclics (c ∷ cs) → HasRisingCyclics cs
later_rise c cs rising i j d less low = rising (suc i) (suc j) d (omega (arith, less)) (omega (arith, low))

-- the ids rise: it is what the one of them has
pub tally_one : (g : CyclicState → ℕ) (id : ℕ) (cs : List Timed) (x : CyclicState) → HasRisingCyclics cs
    → found id (map shown_cyclic cs) ≡ Some x
    → tally g id (map shown_cyclic cs) ≡ g x
tally_one g id [] x rising is = absurd (let isnt : None ≡ Some x = is in cc)
tally_one g id (c ∷ cs) x rising is = dite (ℕ_discrete c.timer.id id)
    (λ e.
    let a = sum_by-cons (λ y. cond (is_of id y) (g y) 0) (shown_cyclic c) (map shown_cyclic cs) in
    let first = first_is id (shown_cyclic c) (map shown_cyclic cs) e in
    let own : shown_cyclic c ≡ x = same (shown_cyclic c) x (sym first ∙ is) in
    let rest = tally_none g id (map shown_cyclic cs) (none_found id cs (λ k d low same_id.
    let less = rising 0 (suc k) d (omega arith) (omega (arith, low)) in omega (arith, less, e, same_id))) in
    let b : cond (is_of id (shown_cyclic c)) (g (shown_cyclic c)) 0 ≡ g (shown_cyclic c) = ap (λ t. cond t (g (shown_cyclic c))
    0) (eq-eqb c.timer.id id e) in
    let d = ap g own in
    omega (arith, a, rest, b, d))
    (λ ne.
    let a = sum_by-cons (λ y. cond (is_of id y) (g y) 0) (shown_cyclic c) (map shown_cyclic cs) in
    let r = tally_one g id cs x (later_rise c cs rising) (sym (first_not id (shown_cyclic c) (map shown_cyclic cs) ne) ∙ is) in
    let b : cond (is_of id (shown_cyclic c)) (g (shown_cyclic c)) 0 ≡ 0 = ap (λ t. cond t (g (shown_cyclic c)) 0) (ne_eqb
    c.timer.id id ne) in
    omega (arith, a, r, b))
  where
    same : (a b : CyclicState) → Some a ≡ Some b → a ≡ b
    same a b e = cc

-- ---- the CPUs of which a test holds

-- a sum over their numbers is one over all CPUs, where it is 0 on the others
pub sum_numbers : (g : ℕ → ℕ) (f : Cpu → ℕ) (test : Cpu → Bool) (k : ℕ) (cs ds : List Cpu) → length cs ≡ length ds
    → ((i : ℕ) → i < length ds → g (k + i) ≡ f (get_or ds i absent))
    → ((i : ℕ) → i < length ds → test (get_or cs i absent) ≡ false → f (get_or ds i absent) ≡ 0)
    → sum_by g (cpus_from k test cs) ≡ sum_by f ds
sum_numbers g f test k [] [] long same other = refl
sum_numbers g f test k [] (d ∷ ds) long same other = absurd (omega (arith, long))
sum_numbers g f test k (c ∷ cs) [] long same other = absurd (omega (arith, long))
sum_numbers g f test k (c ∷ cs) (d ∷ ds) long same other =
    let rest = sum_numbers g f test (k + 1) cs ds (omega (arith, long))
    (λ i low. ap g (next k i) ∙ same (suc i) (omega (arith, low))) (λ i low. other (suc i) (omega (arith, low))) in
    let a = sum_by-cons f d ds in
    by (test c) refl rest a
  where
    next : (a b : ℕ) → a + 1 + b ≡ a + suc b
    next a b = omega arith

    zero_more : (a : ℕ) → a + 0 ≡ a
    zero_more a = omega arith

    by : (b : Bool) → test c ≡ b → sum_by g (cpus_from (k + 1) test cs) ≡ sum_by f ds → sum_by f (d ∷ ds) ≡ f d + sum_by f ds
        → sum_by g (kept_if b k (cpus_from (k + 1) test cs)) ≡ sum_by f (d ∷ ds)
    by true is rest a =
        let e = sum_by-cons g k (cpus_from (k + 1) test cs) in
        let own : g k ≡ f d = ap g (sym (zero_more k)) ∙ same 0 (omega arith) in
        omega (arith, rest, a, e, own)
    by false is rest a = let none = other 0 (omega arith) is in omega (arith, rest, a, none)

-- ---- ended stays

none_sum : (f : Sent → ℕ) (xs : List Sent) → ((i : ℕ) → f (get_or xs i no_counts) ≡ 0) → sum_by f xs ≡ 0
none_sum f [] none = refl
none_sum f (x ∷ xs) none =
    let a = sum_by-cons f x xs in
    let b = none 0 in
    let r = none_sum f xs (λ i. none (suc i)) in
    omega (arith, a, b, r)

-- a sum over all CPUs is one over the record, which has none of CPUs that aren't there
pub sum_ended : (g : ℕ → ℕ) (f : Sent → ℕ) (k : ℕ) (cs : List Cpu) (xs : List Sent) → length cs ≤ length xs
    → ((i : ℕ) → g (k + i) ≡ f (get_or xs i no_counts)) → ((i : ℕ) → length cs ≤ i → f (get_or xs i no_counts) ≡ 0)
    → sum_by g (cpus_from k (λ c. true) cs) ≡ sum_by f xs
sum_ended g f k [] xs long same past = sym (none_sum f xs (λ i. past i (omega arith)))
sum_ended g f k (c ∷ cs) [] long same past = absurd (omega (arith, long))
sum_ended g f k (c ∷ cs) (x ∷ xs) long same past =
    let rest = sum_ended g f (k + 1) cs xs (omega (arith, long)) (λ i. ap g (next k i) ∙ same (suc i))
    (λ i low. past (suc i) (omega (arith, low))) in
    let a = sum_by-cons f x xs in
    let e = sum_by-cons g k (cpus_from (k + 1) (λ (d : Cpu). true) cs) in
    let own : g k ≡ f x = ap g (sym (zero_more k)) ∙ same 0 in
    omega (arith, rest, a, e, own)
  where
    next : (a b : ℕ) → a + 1 + b ≡ a + suc b
    next a b = omega arith

    zero_more : (a : ℕ) → a + 0 ≡ a
    zero_more a = omega arith

pub none_in_all : (f : Cpu → ℕ) (cs : List Cpu) → ((m : ℕ) → m < length cs → f (get_or cs m absent) ≡ 0) → sum_by f cs ≡ 0
none_in_all f [] none = refl
none_in_all f (c ∷ cs) none =
    let a = sum_by-cons f c cs in let b = none 0 (omega arith) in
    let r = none_in_all f cs (λ m within. none (suc m) (omega (arith, within))) in omega (arith, a, b, r)
