-- Where a cyclic goes: a CPU that is online and is not the source.
use Rattle.std.proofs.Common.{◌≡◌, ◌≢◌, ℕ, zero, suc, ◌+◌, Bool, true, false, cond, not, Option, Some, None, List, [], ◌∷◌}
use Rattle.std.proofs.Common.{filter, refl, sym, ap, ◌∙◌, subst, arith}
use Rattle.std.specs.Prelude.{nat_lt}
use Rattle.std.specs.List.{slice_get}
use Rattle.std.specs.Option.{option_map_or}
use Rattle.cyc_agreement.specs.Cpus.{CpusView, numbers_from, online_cpus}
use Rattle.cyc_agreement.specs.Destination.{len_of, fewer, fewest, is_not, destination}
use Rattle.cyc_agreement.specs.System.{is_online}
use Rattle.cyc_agreement.proofs.Spots.{same_some, none_some}
use Rattle.cyc_agreement.proofs.Lists.{true_eq, false_true}

-- all of these are so
pub Each : (ℕ → Type 0) → List ℕ → Type 0
Each P [] = Unit {0}
Each P (n ∷ ns) = P n × Each P ns

pub each_of : {P Q : ℕ → Type 0} → ((n : ℕ) → P n → Q n) → (ns : List ℕ) → Each P ns → Each Q ns
unfolding Each
each_of f [] h = tt
each_of f (n ∷ ns) h = (f n h.0, each_of f ns h.1)

filtered : (P : ℕ → Type 0) (test : ℕ → Bool) (ns : List ℕ) → Each P ns → Each (λ n. P n × (test n ≡ true)) (filter test ns)
unfolding Each
filtered P test [] h = tt
filtered P test (n ∷ ns) h = by (test n) refl (filtered P test ns h.1)
  where
    by : (b : Bool) → test n ≡ b → Each (λ m. P m × (test m ≡ true)) (filter test ns)
        → Each (λ m. P m × (test m ≡ true)) (cond b (n ∷ filter test ns) (filter test ns))
    by true e rest = ((h.0, e), rest)
    by false e rest = rest

-- a number from k on whose test is true
abbrev pub Passes : ℕ → List Bool → ℕ → Type 0
Passes k xs n = (j : ℕ) × (n ≡ k + j) × (slice_get xs j ≡ Some true)

pub numbered : (k : ℕ) (xs : List Bool) → Each (Passes k xs) (numbers_from k xs)
unfolding Each
numbered k [] = tt
numbered k (true ∷ xs) = (
  (0, omega arith, refl),
  each_of (λ n h. (suc h.0, (let e = h.1 in omega (arith, e)), h.2)) _
      (numbered (k + 1) xs),
)
numbered k (false ∷ xs) = each_of (λ n h. (suc h.0, (let e = h.1 in omega (arith, e)), h.2)) _ (numbered (k + 1) xs)

pub is_online_at : {R : Type 0} (v : CpusView R) (n : ℕ) → slice_get v.online n ≡ Some true → is_online n v ≡ true
is_online_at v n e = ap (λ o. option_map_or (λ online. online) o false) e

pub online_at : {R : Type 0} (v : CpusView R) (n : ℕ) → is_online n v ≡ true → slice_get v.online n ≡ Some true
online_at v n e = by (slice_get v.online n) e
  where
    by : (o : Option Bool) → option_map_or (λ online. online) o false ≡ true → o ≡ Some true
    by None h = absurd (false_true h)
    by (Some b) h = ap Some h

pub each_online : {R : Type 0} (v : CpusView R) → Each (λ n. is_online n v ≡ true) (online_cpus v)
each_online v = each_of (λ n h. is_online_at v n (ap (λ k. slice_get v.online k) (let e = h.1 in omega (arith, e)) ∙ h.2))
    (online_cpus v) (numbered 0 v.online)

chosen : {R : Type 0} (P : ℕ → Type 0) (v : CpusView R) (ns : List ℕ) (d : ℕ) → Each P ns → fewest ns v ≡ Some d → P d
unfolding Each
chosen P v [] d h e = absurd (none_some e)
chosen P v (n ∷ ns) d h e = subst P (same_some e) (by (fewest ns v) (λ m. chosen P v ns m h.1))
  where
    pick : (b : Bool) (m : ℕ) → P m → P (cond b m n)
    pick true m p = p
    pick false m p = h.0

    by : (o : Option ℕ) → ((m : ℕ) → o ≡ Some m → P m) → P (fewer n o v)
    by None q = h.0
    by (Some m) q = pick (nat_lt (len_of m v) (len_of n v)) m (q m refl)

not_source : (source : Option ℕ) (n : ℕ) → is_not source n ≡ true → source ≢ Some n
not_source None n h e = none_some e
not_source (Some m) n h e = false_true (sym (ap not (true_eq n m (sym (same_some e)))) ∙ h)

-- the destination is online, and is not the source
pub destination_fits : {R : Type 0} (source : Option ℕ) (v : CpusView R) (d : ℕ) → destination source v ≡ Some d
    → (is_online d v ≡ true) × (source ≢ Some d)
destination_fits source v d e =
    let (on, apart) = chosen _ v (filter (is_not source) (online_cpus v)) d
    (filtered _ (is_not source) (online_cpus v) (each_online v)) e in
    (on, not_source source d apart)

none_left : (test : ℕ → Bool) (k : ℕ) (xs : List Bool) (j : ℕ) → slice_get xs j ≡ Some true → test (k + j) ≡ true
    → filter test (numbers_from k xs) ≡ [] → ⊥
none_left test k [] j at fit e = none_some at
none_left test k (true ∷ xs) zero at fit e = by (test k) (sym (ap test (let z : k + 0 ≡ k = omega arith in z)) ∙ fit) e
  where
    by : (b : Bool) → b ≡ true → cond b (k ∷ filter test (numbers_from (k + 1) xs)) (filter test (numbers_from (k + 1) xs)) ≡ []
        → ⊥
    by true p h = (let impossible : k ∷ filter test (numbers_from (k + 1) xs) ≡ [] = h in cc)
    by false p h = false_true p
none_left test k (true ∷ xs) (suc j) at fit e =
    by (test k) e (none_left test (k + 1) xs j at (ap test (let z : k + 1 + j ≡ k + suc j = omega arith in z) ∙ fit))
  where
    by : (b : Bool) → cond b (k ∷ filter test (numbers_from (k + 1) xs)) (filter test (numbers_from (k + 1) xs)) ≡ []
        → (filter test (numbers_from (k + 1) xs) ≡ [] → ⊥) → ⊥
    by true h rest = (let impossible : k ∷ filter test (numbers_from (k + 1) xs) ≡ [] = h in cc)
    by false h rest = rest h
none_left test k (false ∷ xs) zero at fit e = false_true (same_some at)
none_left test k (false ∷ xs) (suc j) at fit e =
    none_left test (k + 1) xs j at (ap test (let z : k + 1 + j ≡ k + suc j = omega arith in z) ∙ fit) e

no_choice : {R : Type 0} (v : CpusView R) (ns : List ℕ) → fewest ns v ≡ None → ns ≡ []
no_choice v [] e = refl
no_choice v (n ∷ ns) e = absurd (none_some (sym e))

-- where a CPU is online that is not the source, there is a destination
pub destination_is : {R : Type 0} (source : Option ℕ) (v : CpusView R) (n : ℕ) → is_online n v ≡ true → is_not source n ≡ true
    → destination source v ≡ None → ⊥
destination_is source v n on apart e = none_left (is_not source) 0 v.online n (online_at v n on)
    (ap (is_not source) (let z : 0 + n ≡ n = omega arith in z) ∙ apart)
    (no_choice v (filter (is_not source) (online_cpus v)) e)
