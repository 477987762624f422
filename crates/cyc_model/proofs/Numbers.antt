-- The numbers of the CPUs that pass a test, and calls on each of them.
use Rattle.std.proofs.Common.{◌≡◌, ◌≢◌, ℕ, zero, suc, ◌+◌, ◌<◌, ◌≤◌, ◌==◌, ◌||◌, eq-eqb, Bool, true, false, cond, List, [], ◌∷◌}
use Rattle.std.proofs.Common.{length, Option, Some, None, refl, ap, sym, ◌∙◌, subst, inl, inr, ⊎_elim, ◌⊎◌, arith}
use Rattle.std.specs.Prelude.{⊤, nat_lt, filter, slice_index_or}
use Rattle.std.specs.Option.{option_map_or}
use Rattle.std.specs.List.{list_any}
use mathlib.Core.Logic.{dite}
use native.Mathlib.Decide.{ℕ_discrete}
use Rattle.cyc_level.proofs.Maps.{some_same}
use Rattle.cyc_model.specs.Cpu.{Cpu}
use Rattle.cyc_model.specs.State.{State, Outcome, each, absent, cpu_of, cpus_from, numbers, cpus_online}
use Rattle.cyc_model.specs.Places.{is_being_removed, smaller_cpu, smallest_cpu, is_other_cpu, destination_of, cyclics_on}
use Rattle.cyc_model.proofs.Base.{Goes, goes_append, goes_nothing}

-- whether the number is among these
abbrev pub Has : ℕ → List ℕ → Type 0
Has m [] = ⊥
Has m (n ∷ ns) = (m ≡ n) ⊎ Has m ns

-- they rise, from this one on
abbrev pub RiseFrom : ℕ → List ℕ → Type 0
RiseFrom low [] = ⊤
RiseFrom low (n ∷ ns) = (low ≤ n) × RiseFrom (n + 1) ns

pub has_above : (low m : ℕ) (ns : List ℕ) → RiseFrom low ns → Has m ns → low ≤ m
has_above low m [] rise has = absurd has
has_above low m (n ∷ ns) rise has = let a = rise.0 in ⊎_elim (λ e. omega (arith, a, e))
    (λ h. let b = has_above (n + 1) m ns rise.1 h in omega (arith, a, b)) has

rise_low : (low more : ℕ) (ns : List ℕ) → low ≤ more → RiseFrom more ns → RiseFrom low ns
rise_low low more [] le h = tt
rise_low low more (n ∷ ns) le h = (let a = h.0 in omega (arith, a, le), h.1)

-- a number is among these, or it isn't
pub has_or_not : (m : ℕ) (ns : List ℕ) → Has m ns ⊎ (Has m ns → ⊥)
has_or_not m [] = inr (λ h. h)
has_or_not m (n ∷ ns) = dite (ℕ_discrete m n) (λ e. inl (inl e))
    (λ ne. ⊎_elim (λ h. inl (inr h)) (λ no. inr (λ h. ⊎_elim ne no h)) (has_or_not m ns))

-- they are no more than the CPUs
pub numbers_few : (test : Cpu → Bool) (k : ℕ) (cs : List Cpu) → length (cpus_from k test cs) ≤ length cs
numbers_few test k [] = omega arith
numbers_few test k (c ∷ cs) = by (test c) (numbers_few test (k + 1) cs)
  where
    by : (b : Bool) → length (cpus_from (k + 1) test cs) ≤ length cs
        → length (cond b (k ∷ cpus_from (k + 1) test cs) (cpus_from (k + 1) test cs)) ≤ suc (length cs)
    by true h = omega (arith, h)
    by false h = omega (arith, h)

module _ (test : Cpu → Bool) where
  pub numbers_rise : (k : ℕ) (cs : List Cpu) → RiseFrom k (cpus_from k test cs)
  numbers_rise k [] = tt
  numbers_rise k (c ∷ cs) = by (test c) (numbers_rise (k + 1) cs)
    where
      by : (b : Bool) → RiseFrom (k + 1) (cpus_from (k + 1) test cs)
          → RiseFrom k (cond b (k ∷ cpus_from (k + 1) test cs) (cpus_from (k + 1) test cs))
      by true rest = (omega arith, rest)
      by false rest = rise_low k (k + 1) (cpus_from (k + 1) test cs) (omega arith) rest

  has_from : (k m : ℕ) (cs : List Cpu) → Has m (cpus_from k test cs)
      → (i : ℕ) × (m ≡ k + i) × (i < length cs) × (test (slice_index_or cs i absent) ≡ true)
  has_from k m [] has = absurd has
  has_from k m (c ∷ cs) has = by (test c) refl has (has_from (k + 1) m cs)
    where
      later : Has m (cpus_from (k + 1) test cs)
          → (Has m (cpus_from (k + 1) test cs) → (i : ℕ) × (m ≡ k + 1 + i) × (i < length cs)
          × (test (slice_index_or cs i absent) ≡ true))
          → (i : ℕ) × (m ≡ k + i) × (i < suc (length cs)) × (test (slice_index_or (c ∷ cs) i absent) ≡ true)
      later h rest = let r = rest h in let e = r.1 in let w = r.2 in (suc r.0, omega (arith, e), omega (arith, w), r.3)

      by : (b : Bool) → test c ≡ b → Has m (cond b (k ∷ cpus_from (k + 1) test cs) (cpus_from (k + 1) test cs))
          → (Has m (cpus_from (k + 1) test cs) → (i : ℕ) × (m ≡ k + 1 + i) × (i < length cs)
          × (test (slice_index_or cs i absent) ≡ true))
          → (i : ℕ) × (m ≡ k + i) × (i < suc (length cs)) × (test (slice_index_or (c ∷ cs) i absent) ≡ true)
      by true is h rest = ⊎_elim (λ e. (0, omega (arith, e), omega arith, is)) (λ r. later r rest) h
      by false is h rest = later h rest

  from_has : (k i : ℕ) (cs : List Cpu) → i < length cs → test (slice_index_or cs i absent) ≡ true
      → Has (k + i) (cpus_from k test cs)
  from_has k i [] within is = absurd (omega (arith, within))
  from_has k zero (c ∷ cs) within is = subst
      (λ b. Has (k + 0) (cond b (k ∷ cpus_from (k + 1) test cs) (cpus_from (k + 1) test cs))) (sym is)
      (inl (plus_none k))
    where
      plus_none : (j : ℕ) → j + 0 ≡ j
      plus_none j = omega arith
  from_has k (suc i) (c ∷ cs) within is = by (test c) (subst (λ j. Has j (cpus_from (k + 1) test cs)) (shift k i)
      (from_has (k + 1) i cs (omega (arith, within)) is))
    where
      shift : (a b : ℕ) → a + 1 + b ≡ a + suc b
      shift a b = omega arith

      by : (b : Bool) → Has (k + suc i) (cpus_from (k + 1) test cs)
          → Has (k + suc i) (cond b (k ∷ cpus_from (k + 1) test cs) (cpus_from (k + 1) test cs))
      by true h = inr h
      by false h = h

  pub numbers_pass : (m : ℕ) (s : State) → Has m (numbers test s) → (m < length s.cpus) × (test (cpu_of m s) ≡ true)
  numbers_pass m s has =
      let r = has_from 0 m s.cpus has in let e = r.1 in let w = r.2 in
      let same : m ≡ r.0 = omega (arith, e) in
      (omega (arith, same, w), ap (λ (i : ℕ). test (slice_index_or s.cpus i absent)) same ∙ r.3)

  pub pass_numbers : (m : ℕ) (s : State) → m < length s.cpus → test (cpu_of m s) ≡ true → Has m (numbers test s)
  pass_numbers m s within is = subst (λ j. Has j (numbers test s)) (none_plus m) (from_has 0 m s.cpus within is)
    where
      none_plus : (j : ℕ) → 0 + j ≡ j
      none_plus j = omega arith

-- ---- a call on each of them

-- what one turn does on its CPU, and on no other
pub record Turned (R : ℕ → Cpu → Cpu → Type 0) (Inv : State → Type 0) (n : ℕ) (s : State) (o : Outcome) : Type 0 where
  pub goes : Goes o.acts s o.state
  pub inv : Inv o.state
  pub own : R n (cpu_of n s) (cpu_of n o.state)
  pub others : (m : ℕ) → m ≢ n → cpu_of m o.state ≡ cpu_of m s

pub record Looped (R : ℕ → Cpu → Cpu → Type 0) (Inv : State → Type 0) (ns : List ℕ) (s : State) (o : Outcome) : Type 0 where
  pub goes : Goes o.acts s o.state
  pub inv : Inv o.state
  pub own : (m : ℕ) → Has m ns → R m (cpu_of m s) (cpu_of m o.state)
  pub others : (m : ℕ) → (Has m ns → ⊥) → cpu_of m o.state ≡ cpu_of m s

module _ (f : ℕ → State → Outcome) (P : ℕ → Cpu → Type 0) (R : ℕ → Cpu → Cpu → Type 0) (Inv : State → Type 0)
    (turn : (n : ℕ) (s : State) → n < length s.cpus → Inv s → P n (cpu_of n s) → Turned R Inv n s (f n s)) where
  pub looped : (low : ℕ) (ns : List ℕ) (s : State) → RiseFrom low ns → ((m : ℕ) → Has m ns → m < length s.cpus) → Inv s
      → ((m : ℕ) → Has m ns → P m (cpu_of m s)) → Looped R Inv ns s (each f ns s)
  looped low [] s rise within inv ready = record {
    goes = goes_nothing s s refl refl (λ id g. g);
    inv = inv;
    own = λ m has. absurd has;
    others = λ m no. refl;
  }
  looped low (n ∷ ns) s rise within inv ready =
      let one = turn n s (within n (inl refl)) inv (ready n (inl refl)) in
      let t = (f n s).state in
      let far : (m : ℕ) → Has m ns → m ≢ n = λ m has e. let a = has_above (n + 1) m ns rise.1 has
      in absurd (omega (arith, a, e)) in
      let rest = looped (n + 1) ns t rise.1
      (λ m has. subst (λ k. m < k) (sym one.goes.tells.as_many) (within m (inr has))) one.inv
      (λ m has. subst (P m) (sym (one.others m (far m has))) (ready m (inr has))) in record {
        goes = goes_append (f n s).acts (each f ns t).acts s t (each f ns t).state one.goes rest.goes;
        inv = rest.inv;
        own = λ m has. ⊎_elim
            (λ e. subst (λ k. R k (cpu_of k s) (cpu_of k (each f ns t).state)) (sym e)
            (subst (λ c. R n (cpu_of n s) c) (sym (rest.others n (λ h. far n h refl))) one.own))
            (λ h. subst (λ c. R m c (cpu_of m (each f ns t).state)) (one.others m (far m h)) (rest.own m h))
            has;
        others = λ m no. rest.others m (λ h. no (inr h)) ∙ one.others m (λ e. no (inl e));
      }

-- ---- destinations

fewest_has : (ns : List ℕ) (s : State) (k : ℕ) → smallest_cpu ns s ≡ Some k → Has k ns
fewest_has [] s k is = absurd (cc)
fewest_has (n ∷ ns) s k is = by (smallest_cpu ns s) (some_same (smaller_cpu n (smallest_cpu ns s) s) k is) (fewest_has ns s)
  where
    pick : (b : Bool) (a c : ℕ) → (cond b a c ≡ a) ⊎ (cond b a c ≡ c)
    pick true a c = inl refl
    pick false a c = inr refl

    by : (o : Option ℕ) → smaller_cpu n o s ≡ k → ((j : ℕ) → o ≡ Some j → Has j ns) → (k ≡ n) ⊎ Has k ns
    by None e more = inl (sym e)
    by (Some m) e more = ⊎_elim (λ p. inr (subst (λ j. Has j ns) (sym p ∙ e) (more m refl))) (λ p. inl (sym e ∙ p))
        (pick (nat_lt (cyclics_on m s) (cyclics_on n s)) m n)

filter_has : (test : ℕ → Bool) (m : ℕ) (ns : List ℕ) → Has m (filter test ns) → Has m ns × (test m ≡ true)
filter_has test m [] has = absurd has
filter_has test m (n ∷ ns) has = by (test n) refl has (filter_has test m ns)
  where
    by : (b : Bool) → test n ≡ b → Has m (cond b (n ∷ filter test ns) (filter test ns))
        → (Has m (filter test ns) → Has m ns × (test m ≡ true))
        → ((m ≡ n) ⊎ Has m ns) × (test m ≡ true)
    by true is h more = ⊎_elim (λ e. (inl e, ap test e ∙ is)) (λ r. let q = more r in (inr q.0, q.1)) h
    by false is h more = let q = more h in (inr q.0, q.1)

has_filter : (test : ℕ → Bool) (m : ℕ) (ns : List ℕ) → Has m ns → test m ≡ true → Has m (filter test ns)
has_filter test m [] has is = absurd has
has_filter test m (n ∷ ns) has is = ⊎_elim
    (λ e. subst (λ b. Has m (cond b (n ∷ filter test ns) (filter test ns))) (sym (ap test (sym e) ∙ is)) (inl e))
    (λ h. by (test n) (has_filter test m ns h is)) has
  where
    by : (b : Bool) → Has m (filter test ns) → Has m (cond b (n ∷ filter test ns) (filter test ns))
    by true h = inr h
    by false h = h

-- a destination is an online CPU, and not the source, if there is one
pub destination_online : (source : Option ℕ) (s : State) (m : ℕ) → Has m (cpus_online s) → is_other_cpu source m ≡ true
    → Has (destination_of source s) (cpus_online s) × (is_other_cpu source (destination_of source s) ≡ true)
destination_online source s m has apart = by (filter (is_other_cpu source) (cpus_online s)) refl
    (has_filter (is_other_cpu source) m (cpus_online s) has apart)
  where
    by : (ns : List ℕ) → filter (is_other_cpu source) (cpus_online s) ≡ ns → Has m ns
        → Has (destination_of source s) (cpus_online s) × (is_other_cpu source (destination_of source s) ≡ true)
    by [] is h = absurd h
    by (n ∷ ns) is h =
        let k = smaller_cpu n (smallest_cpu ns s) s in
        let e : destination_of source s ≡ k = ap (λ xs. option_map_or (λ (i : ℕ). i) (smallest_cpu xs s) 0) is in
        let there : Has k (filter (is_other_cpu source) (cpus_online s)) = subst (λ xs. Has k xs) (sym is)
        (fewest_has (n ∷ ns) s k refl) in
        let q = filter_has (is_other_cpu source) k (cpus_online s) there in
        (subst (λ j. Has j (cpus_online s)) (sym e) q.0, ap (is_other_cpu source) e ∙ q.1)

-- ---- open removals

pub not_leaving : (id : ℕ) (s : State) → is_being_removed id s ≡ false → (m : ℕ) → (cpu_of m s).removal ≢ Some id
not_leaving id s closed m = by s.cpus m closed
  where
    first : (c : Cpu) → c.removal ≡ Some id → option_map_or (λ busy. busy == id) c.removal false ≡ true
    first c is = ap (λ o. option_map_or (λ busy. busy == id) o false) is ∙ eq-eqb id id refl

    or_true : (b : Bool) → (true || b) ≡ true
    or_true b = refl

    split : (a b : Bool) → (a || b) ≡ false → (a ≡ false) × (b ≡ false)
    split true b e = absurd (cc)
    split false b e = (refl, e)

    by : (cs : List Cpu) (n : ℕ) → list_any (λ c. option_map_or (λ busy. busy == id) c.removal false) cs ≡ false
        → (slice_index_or cs n absent).removal ≢ Some id
    by [] n e is = absurd (cc)
    by (c ∷ cs) zero e is = let q = (split (option_map_or (λ busy. busy == id) c.removal false)
        (list_any (λ d. option_map_or (λ busy. busy == id) d.removal false) cs) e).0 in
        let p = first c is in absurd (let no : true ≡ false = sym p ∙ q in cc)
    by (c ∷ cs) (suc n) e is = by cs n (split (option_map_or (λ busy. busy == id) c.removal false)
        (list_any (λ d. option_map_or (λ busy. busy == id) d.removal false) cs) e).1 is
