-- The cyclics of a CPU, by rising ids.
use Rattle.std.proofs.Common.{◌≡◌, ◌≢◌, ℕ, zero, suc, ◌+◌, ◌<◌, ◌≤◌, ◌==◌, eq-eqb, ne_eqb, Bool, true, false, cond, List, [], ◌∷◌}
use Rattle.std.proofs.Common.{length, map, sum_by, refl, ap, sym, ◌∙◌, subst, arith}
use Rattle.std.specs.Prelude.{⊤, Option, Some, None, is_some, not, nat_lt, find, flat_map, ◌||◌}
use Rattle.std.specs.Option.{option_map, option_map_or}
use Rattle.std.specs.List.{list_any}
use Rattle.std.proofs.lemmas.List.Sums.{sum_by-append, sum_by-cons}
use Rattle.std.proofs.lemmas.Bool.{ltb-true, ltb-false}
use mathlib.Core.Logic.{dite}
use native.Mathlib.Decide.{ℕ_discrete}
use Rattle.cyc_types.specs.Series.{due}
use Rattle.cyc_types.specs.Expirations.{Expiration, series, due_of, expirations, times_of}
use Rattle.cyc_types.proofs.Laws.{count_expirations, times_series, times_series_other}
use Rattle.cyc_level.proofs.Maps.{some_same}
use Rattle.cyc_model.specs.Cpu.{CyclicState, timers_on, is_of, others}
use Rattle.cyc_model.specs.Moving.{put_in}
pub use Rattle.cyc_types.proofs.Laws.{times_cons}

-- the ids rise, above this one
abbrev pub Rising : ℕ → List CyclicState → Type 0
Rising low [] = ⊤
Rising low (x ∷ xs) = (low < x.timer.id) × Rising x.timer.id xs

abbrev pub found : ℕ → List CyclicState → Option CyclicState
found id cs = find (is_of id) cs

-- what is found among one more
abbrev pub with_first : Bool → CyclicState → Option CyclicState → Option CyclicState
with_first b x o = cond b (Some x) o

pub first_is : (id : ℕ) (x : CyclicState) (xs : List CyclicState) → x.timer.id ≡ id → found id (x ∷ xs) ≡ Some x
first_is id x xs e = ap (λ (b : Bool). with_first b x (found id xs)) (eq-eqb x.timer.id id e)

pub first_not : (id : ℕ) (x : CyclicState) (xs : List CyclicState) → x.timer.id ≢ id → found id (x ∷ xs) ≡ found id xs
first_not id x xs ne = ap (λ (b : Bool). with_first b x (found id xs)) (ne_eqb x.timer.id id ne)

pub not_first : (id : ℕ) (y : CyclicState) (ys : List CyclicState) → found id (y ∷ ys) ≡ None → y.timer.id ≢ id
not_first id y ys none s = let no : Some y ≡ None = sym (first_is id y ys s) ∙ none in absurd (cc)

pub found_id : (id : ℕ) (x : CyclicState) (cs : List CyclicState) → found id cs ≡ Some x → x.timer.id ≡ id
found_id id x [] e = absurd (cc)
found_id id x (y ∷ ys) e = dite (ℕ_discrete y.timer.id id)
    (λ same. subst (λ (z : CyclicState). z.timer.id ≡ id) (some_same y x (sym (first_is id y ys same) ∙ e)) same)
    (λ ne. found_id id x ys (sym (first_not id y ys ne) ∙ e))

pub any_found : (id : ℕ) (cs : List CyclicState) → list_any (is_of id) cs ≡ is_some (found id cs)
any_found id [] = refl
any_found id (x ∷ xs) = by (is_of id x) (any_found id xs)
  where
    by : (b : Bool) → list_any (is_of id) xs ≡ is_some (found id xs)
        → (b || list_any (is_of id) xs) ≡ is_some (with_first b x (found id xs))
    by true h = refl
    by false h = h

-- below the least there is nothing
pub found_low : (low id : ℕ) (cs : List CyclicState) → Rising low cs → id ≤ low → found id cs ≡ None
found_low low id [] h le = refl
found_low low id (x ∷ xs) h le =
    let a = h.0 in
    first_not id x xs (λ (e : x.timer.id ≡ id). omega (arith, a, le, e)) ∙ found_low x.timer.id id xs h.1 (omega (arith, a, le))

rising_low : (low more : ℕ) (cs : List CyclicState) → low ≤ more → Rising more cs → Rising low cs
rising_low low more [] le h = tt
rising_low low more (x ∷ xs) le h = (let a = h.0 in omega (arith, a, le), h.1)

-- ---- changes that keep ids

abbrev pub SameId : (CyclicState → CyclicState) → Type 0
SameId f = (x : CyclicState) → (f x).timer.id ≡ x.timer.id

module _ (f : CyclicState → CyclicState) (same : SameId f) where
  pub found_map : (id : ℕ) (cs : List CyclicState) → found id (map f cs) ≡ option_map f (found id cs)
  found_map id [] = refl
  found_map id (x ∷ xs) = dite (ℕ_discrete x.timer.id id)
      (λ e. first_is id (f x) (map f xs) (same x ∙ e) ∙ ap (option_map f) (sym (first_is id x xs e)))
      (λ ne. first_not id (f x) (map f xs) (λ e. ne (sym (same x) ∙ e)) ∙ found_map id xs
      ∙ ap (option_map f) (sym (first_not id x xs ne)))

  pub rising_map : (low : ℕ) (cs : List CyclicState) → Rising low cs → Rising low (map f cs)
  rising_map low [] h = tt
  rising_map low (x ∷ xs) h =
      (subst (λ k. low < k) (sym (same x)) h.0, subst (λ k. Rising k (map f xs)) (sym (same x)) (rising_map x.timer.id xs h.1))

pub length_mapped : (f : CyclicState → CyclicState) (cs : List CyclicState) → length (map f cs) ≡ length cs
length_mapped f [] = refl
length_mapped f (x ∷ xs) = ap suc (length_mapped f xs)

-- ---- one more

abbrev put : Bool → CyclicState → CyclicState → List CyclicState → List CyclicState → List CyclicState
put b x y ys rest = cond b (x ∷ y ∷ ys) (y ∷ rest)

pub length_put : (x : CyclicState) (cs : List CyclicState) → length (put_in x cs) ≡ suc (length cs)
length_put x [] = refl
length_put x (y ∷ ys) = by (nat_lt x.timer.id y.timer.id) (length_put x ys)
  where
    by : (b : Bool) → length (put_in x ys) ≡ suc (length ys) → length (put b x y ys (put_in x ys)) ≡ suc (suc (length ys))
    by true h = refl
    by false h = ap suc h

pub put_other : (id : ℕ) (x : CyclicState) (cs : List CyclicState) → x.timer.id ≢ id → found id (put_in x cs) ≡ found id cs
put_other id x [] ne = first_not id x [] ne
put_other id x (y ∷ ys) ne = by (nat_lt x.timer.id y.timer.id) (put_other id x ys ne)
  where
    by : (b : Bool) → found id (put_in x ys) ≡ found id ys → found id (put b x y ys (put_in x ys)) ≡ found id (y ∷ ys)
    by true rest = first_not id x (y ∷ ys) ne
    by false rest = ap (with_first (is_of id y) y) rest

pub put_same : (id : ℕ) (x : CyclicState) (cs : List CyclicState) → x.timer.id ≡ id → found id cs ≡ None
    → found id (put_in x cs) ≡ Some x
put_same id x [] e none = first_is id x [] e
put_same id x (y ∷ ys) e none = by (nat_lt x.timer.id y.timer.id)
    (put_same id x ys e (sym (first_not id y ys (not_first id y ys none)) ∙ none))
  where
    by : (b : Bool) → found id (put_in x ys) ≡ Some x → found id (put b x y ys (put_in x ys)) ≡ Some x
    by true rest = first_is id x (y ∷ ys) e
    by false rest = first_not id y (put_in x ys) (not_first id y ys none) ∙ rest

pub rising_put : (low : ℕ) (x : CyclicState) (cs : List CyclicState) → low < x.timer.id → Rising low cs
    → found x.timer.id cs ≡ None
    → Rising low (put_in x cs)
rising_put low x [] above h none = (above, tt)
rising_put low x (y ∷ ys) above h none = by (nat_lt x.timer.id y.timer.id) refl
    (λ more. rising_put y.timer.id x ys more h.1 (sym (first_not x.timer.id y ys (not_first x.timer.id y ys none)) ∙ none))
  where
    by : (b : Bool) → nat_lt x.timer.id y.timer.id ≡ b → (y.timer.id < x.timer.id → Rising y.timer.id (put_in x ys))
        → Rising low (put b x y ys (put_in x ys))
    by true is rest = (above, (ltb-true x.timer.id y.timer.id is, h.1))
    by false is rest =
        let le = ltb-false x.timer.id y.timer.id is in let far = not_first x.timer.id y ys none in
        (h.0, rest (omega (arith, le, far)))

-- ---- one less

abbrev kept : Bool → CyclicState → List CyclicState → List CyclicState
kept b x xs = cond b (x ∷ xs) xs

others_first : (gone : ℕ) (x : CyclicState) (xs : List CyclicState) → x.timer.id ≡ gone → others gone (x ∷ xs) ≡ others gone xs
others_first gone x xs e = ap (λ (b : Bool). kept (not b) x (others gone xs)) (eq-eqb x.timer.id gone e)

others_rest : (gone : ℕ) (x : CyclicState) (xs : List CyclicState) → x.timer.id ≢ gone → others gone (x ∷ xs) ≡ x ∷ others gone xs
others_rest gone x xs ne = ap (λ (b : Bool). kept (not b) x (others gone xs)) (ne_eqb x.timer.id gone ne)

pub found_gone : (gone : ℕ) (cs : List CyclicState) → found gone (others gone cs) ≡ None
found_gone gone [] = refl
found_gone gone (x ∷ xs) = dite (ℕ_discrete x.timer.id gone)
    (λ e. ap (found gone) (others_first gone x xs e) ∙ found_gone gone xs)
    (λ ne. ap (found gone) (others_rest gone x xs ne) ∙ first_not gone x (others gone xs) ne ∙ found_gone gone xs)

pub found_others : (id gone : ℕ) (cs : List CyclicState) → id ≢ gone → found id (others gone cs) ≡ found id cs
found_others id gone [] far = refl
found_others id gone (x ∷ xs) far = dite (ℕ_discrete x.timer.id gone)
    (λ e. ap (found id) (others_first gone x xs e) ∙ found_others id gone xs far
    ∙ sym (first_not id x xs (λ s. far (sym s ∙ e))))
    (λ ne. ap (found id) (others_rest gone x xs ne) ∙ ap (with_first (is_of id x) x) (found_others id gone xs far))

pub length_others : (gone : ℕ) (cs : List CyclicState) → length (others gone cs) ≤ length cs
length_others gone [] = omega arith
length_others gone (x ∷ xs) = by (not (is_of gone x)) (length_others gone xs)
  where
    by : (b : Bool) → length (others gone xs) ≤ length xs → length (kept b x (others gone xs)) ≤ length (x ∷ xs)
    by true h = omega (arith, h)
    by false h = omega (arith, h)

pub rising_others : (low gone : ℕ) (cs : List CyclicState) → Rising low cs → Rising low (others gone cs)
rising_others low gone [] h = tt
rising_others low gone (x ∷ xs) h = by (not (is_of gone x)) (rising_others x.timer.id gone xs h.1)
  where
    by : (b : Bool) → Rising x.timer.id (others gone xs) → Rising low (kept b x (others gone xs))
    by true rest = (h.0, rest)
    by false rest = rising_low low x.timer.id (others gone xs) (let a = h.0 in omega (arith, a)) rest

-- ---- sums

-- what these cyclics have of an id
abbrev pub tally : (CyclicState → ℕ) → ℕ → List CyclicState → ℕ
tally g id cs = sum_by (λ x. cond (is_of id x) (g x) 0) cs

abbrev pub of_found : (CyclicState → ℕ) → Option CyclicState → ℕ
of_found g o = option_map_or g o 0

-- it is what the one of them has
pub tally_found : (g : CyclicState → ℕ) (low id : ℕ) (cs : List CyclicState) → Rising low cs
    → tally g id cs ≡ of_found g (found id cs)
tally_found g low id [] h = refl
tally_found g low id (x ∷ xs) h = dite (ℕ_discrete x.timer.id id)
    (λ e. sum_by-cons (λ (y : CyclicState). cond (is_of id y) (g y) 0) x xs
    ∙ ap (λ (b : Bool). cond b (g x) 0 + tally g id xs) (eq-eqb x.timer.id id e)
    ∙ ap (λ (n : ℕ). g x + n) (tally_found g x.timer.id id xs h.1
    ∙ ap (of_found g) (found_low x.timer.id id xs h.1 (omega (arith, e))))
    ∙ plus_none (g x) ∙ ap (of_found g) (sym (first_is id x xs e)))
    (λ ne. sum_by-cons (λ (y : CyclicState). cond (is_of id y) (g y) 0) x xs
    ∙ ap (λ (b : Bool). cond b (g x) 0 + tally g id xs) (ne_eqb x.timer.id id ne)
    ∙ none_plus (tally g id xs) ∙ tally_found g x.timer.id id xs h.1 ∙ ap (of_found g) (sym (first_not id x xs ne)))
  where
    plus_none : (n : ℕ) → n + 0 ≡ n
    plus_none n = omega arith

    none_plus : (n : ℕ) → 0 + n ≡ n
    none_plus n = omega arith

-- ---- expirations

-- what is due of one of these
abbrev pub due_of_found : ℕ → Option CyclicState → ℕ
due_of_found now o = option_map_or (λ (x : CyclicState). due x.timer.moment x.timer.interval now) o 0

times_listed : (now low id : ℕ) (cs : List CyclicState) → Rising low cs
    → times_of id (flat_map (due_of now) (timers_on cs)) ≡ due_of_found now (found id cs)
unfolding due_of
times_listed now low id [] h = refl
times_listed now low id (x ∷ xs) h =
    let a = sum_by-append (λ (q : Expiration). cond (q.id == id) 1 0) (due_of now x.timer) (flat_map (due_of now) (timers_on
    xs)) in
    let r = times_listed now x.timer.id id xs h.1 in
    let d : ℕ = due x.timer.moment x.timer.interval now in
    dite (ℕ_discrete x.timer.id id)
    (λ e. let none : due_of_found now (found id xs) ≡ 0 = ap (due_of_found now)
    (found_low x.timer.id id xs h.1 (omega (arith, e))) in
    let b : times_of id (series x.timer.id x.timer.moment x.timer.interval d) ≡ d =
    ap (λ (k : ℕ). times_of k (series x.timer.id x.timer.moment x.timer.interval d)) (sym e)
    ∙ times_series x.timer.id x.timer.moment x.timer.interval d in
    let goal : due_of_found now (found id (x ∷ xs)) ≡ d = ap (due_of_found now) (first_is id x xs e) in
    omega (arith, a, b, r, none, goal))
    (λ ne. let b = times_series_other id x.timer.id x.timer.moment x.timer.interval d ne in
    let goal : due_of_found now (found id (x ∷ xs)) ≡ due_of_found now (found id xs) = ap (due_of_found now)
    (first_not id x xs ne) in
    omega (arith, a, b, r, goal))

-- a fire has as many expirations of an id as are due of its cyclic
pub times_found : (now low id : ℕ) (cs : List CyclicState) → Rising low cs
    → times_of id (expirations now (timers_on cs)) ≡ due_of_found now (found id cs)
times_found now low id cs h = count_expirations now (timers_on cs) (λ q. q.id == id) ∙ times_listed now low id cs h
