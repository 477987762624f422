use Rattle.std.proofs.Common.{◌≡◌, ◌≢◌, ℕ, zero, suc, ◌+◌, ◌<◌, ◌==◌, Bool, true, false, cond, List, [], ◌∷◌, refl, sym, ap, ◌∙◌}
use Rattle.std.proofs.Common.{arith, length, flat_map, sum_by, count_by, get_or}
use Rattle.std.proofs.lemmas.Bool.Decides.{nat_tests}
use Rattle.std.proofs.lemmas.List.Concat.{length-flat_map}
use Rattle.std.proofs.lemmas.List.Sums.{sum_by-append, sum_by-cons}
use Rattle.cyc_types.specs.Series.{due, next}
use Rattle.cyc_types.specs.Expirations.{Expiration, is_before, put_in_order, ascending, series, due_of, expirations, times_of}
use Rattle.cyc_types.specs.Expirations.{moment_after_some, after_expirations, Precedes, IsAscending}
use Rattle.cyc_types.specs.Timers.{Timer, HasDistinctIds}
use Rattle.cyc_types.proofs.Order.{before_total, length_ascending}
use Rattle.cyc_types.proofs.Dues.{length_due_of}

put_in_ascending : (p : Expiration) (xs : List Expiration) → IsAscending xs → IsAscending (put_in_order p xs)
put_in_ascending p [] h = (tt, tt)
put_in_ascending p (x ∷ xs) h = at (is_before p x) refl (put_in_ascending p xs h.1)
  where
    next_is : (b : Bool) (y : Expiration) (ys : List Expiration) → is_before x p ≡ true → is_before x y ≡ true
        → Precedes x (cond b (p ∷ y ∷ ys) (y ∷ put_in_order p ys))
    next_is true y ys k l = k
    next_is false y ys k l = l

    next : (xs : List Expiration) → is_before x p ≡ true → Precedes x xs → Precedes x (put_in_order p xs)
    next [] k l = k
    next (y ∷ ys) k l = next_is (is_before p y) y ys k l

    at : (b : Bool) → is_before p x ≡ b → IsAscending (put_in_order p xs)
        → IsAscending (cond b (p ∷ x ∷ xs) (x ∷ put_in_order p xs))
    at true is rest = (is, h)
    at false is rest = (next xs (before_total p x is) h.0, rest)

is_ascending : (xs : List Expiration) → IsAscending (ascending xs)
is_ascending [] = tt
is_ascending (x ∷ xs) = put_in_ascending x (ascending xs) (is_ascending xs)

pub expirations_ascend : (now : ℕ) (ts : List Timer) → IsAscending (expirations now ts)
unfolding expirations
expirations_ascend now ts = is_ascending (flat_map (due_of now) ts)

pub length_expirations : (now : ℕ) (ts : List Timer) → length (expirations now ts) ≡ sum_by (λ t. due t.moment t.interval now) ts
unfolding expirations
length_expirations now ts = length_ascending (flat_map (due_of now) ts) ∙ length-flat_map (due_of now) ts
    ∙ ap (λ (f : Timer → ℕ). sum_by f ts) (λ i t. length_due_of now t i)

count_cons : (f : Expiration → Bool) (p : Expiration) (xs : List Expiration)
    → count_by f (p ∷ xs) ≡ cond (f p) 1 0 + count_by f xs
count_cons f p xs = sum_by-cons (λ (q : Expiration). cond (f q) 1 0) p xs

count_put_in : (f : Expiration → Bool) (p : Expiration) (xs : List Expiration)
    → count_by f (put_in_order p xs) ≡ cond (f p) 1 0 + count_by f xs
count_put_in f p [] = count_cons f p []
count_put_in f p (x ∷ xs) = at (is_before p x) (count_put_in f p xs)
  where
    at : (b : Bool) → count_by f (put_in_order p xs) ≡ cond (f p) 1 0 + count_by f xs
        → count_by f (cond b (p ∷ x ∷ xs) (x ∷ put_in_order p xs)) ≡ cond (f p) 1 0 + count_by f (x ∷ xs)
    at true rest = count_cons f p (x ∷ xs)
    at false rest = (let a = count_cons f x (put_in_order p xs) in let b = count_cons f x xs in omega (arith, a, b, rest))

-- the order changes no count
count_ascending : (f : Expiration → Bool) (xs : List Expiration) → count_by f (ascending xs) ≡ count_by f xs
count_ascending f [] = refl
count_ascending f (x ∷ xs) = count_put_in f x (ascending xs) ∙ ap (λ n. cond (f x) 1 0 + n) (count_ascending f xs)
    ∙ sym (count_cons f x xs)

pub count_expirations : (now : ℕ) (ts : List Timer) (f : Expiration → Bool)
    → count_by f (expirations now ts) ≡ count_by f (flat_map (due_of now) ts)
unfolding expirations
count_expirations now ts f = count_ascending f (flat_map (due_of now) ts)

pub times_cons : (id : ℕ) (p : Expiration) (xs : List Expiration) → times_of id (p ∷ xs) ≡ cond (p.id == id) 1 0 + times_of id xs
times_cons id p xs = count_cons (λ (q : Expiration). q.id == id) p xs

times_ascending : (id : ℕ) (xs : List Expiration) → times_of id (ascending xs) ≡ times_of id xs
times_ascending id xs = count_ascending (λ (q : Expiration). q.id == id) xs

abbrev tally : Bool → ℕ
tally b = cond b 1 0

pub times_series : (id e t n : ℕ) → times_of id (series id e t n) ≡ n
times_series id e t zero = refl
times_series id e t (suc n) =
    let a = times_cons id (record { moment = e; id = id }) (series id (e + t) t n) in
    let yes : (id == id) ≡ true = grind (arith, nat_tests) in
    let one : tally (id == id) ≡ 1 = ap tally yes in
    let r = times_series id (e + t) t n in omega (arith, a, one, r)

pub times_series_other : (id other e t n : ℕ) → other ≢ id → times_of id (series other e t n) ≡ 0
times_series_other id other e t zero ne = refl
times_series_other id other e t (suc n) ne =
    let a = times_cons id (record { moment = e; id = other }) (series other (e + t) t n) in
    let no : (other == id) ≡ false = grind (arith, nat_tests) in
    let none : tally (other == id) ≡ 0 = ap tally no in
    let r = times_series_other id other (e + t) t n ne in omega (arith, a, none, r)

-- an id of none of these timers
pub times_none : (now id : ℕ) (ts : List Timer) → ((k : ℕ) (d : Timer) → k < length ts → (get_or ts k d).id ≢ id)
    → times_of id (flat_map (due_of now) ts) ≡ 0
unfolding due_of
times_none now id [] h = refl
times_none now id (t ∷ ts) h =
    let a = sum_by-append (λ (q : Expiration). cond (q.id == id) 1 0) (due_of now t) (flat_map (due_of now) ts) in
    let b = times_series_other id t.id t.moment t.interval (due t.moment t.interval now) (h 0 t (omega arith)) in
    let r = times_none now id ts (λ k d low. h (suc k) d (omega (arith, low))) in
    omega (arith, a, b, r)

times_each : (now : ℕ) (ts : List Timer) (i : ℕ) (d : Timer) → HasDistinctIds ts → i < length ts →
    times_of (get_or ts i d).id (flat_map (due_of now) ts) ≡ due (get_or ts i d).moment (get_or ts i d).interval now
unfolding due_of
times_each now [] i d distinct low = absurd (omega arith)
times_each now (t ∷ ts) zero d distinct low =
    let a = sum_by-append (λ (q : Expiration). cond (q.id == t.id) 1 0) (due_of now t) (flat_map (due_of now) ts) in
    let b = times_series t.id t.moment t.interval (due t.moment t.interval now) in
    let r = times_none now t.id ts (λ k e low_k q. (let no : suc k ≡ 0 = distinct (suc k) 0 e (omega (arith, low_k)) low q in
    absurd (omega (arith, no)))) in
    omega (arith, a, b, r)
times_each now (t ∷ ts) (suc i) d distinct low =
    let o = get_or ts i d in
    let a = sum_by-append (λ (q : Expiration). cond (q.id == o.id) 1 0) (due_of now t) (flat_map (due_of now) ts) in
    let apart : t.id ≢ o.id = λ q. (let no : 0 ≡ suc i = distinct 0 (suc i) d (omega arith) low q in absurd (omega (arith, no)))
    in
    let b = times_series_other o.id t.id t.moment t.interval (due t.moment t.interval now) apart in
    let r = times_each now ts i d (λ j k e low_j low_k q.
    (let same : suc j ≡ suc k = distinct (suc j) (suc k) e (omega (arith, low_j)) (omega (arith, low_k)) q in
    omega (arith, same))) (omega (arith, low)) in
    omega (arith, a, b, r)

pub times_expirations : (now : ℕ) (ts : List Timer) (i : ℕ) (d : Timer) → HasDistinctIds ts → i < length ts →
    times_of (get_or ts i d).id (expirations now ts) ≡ due (get_or ts i d).moment (get_or ts i d).interval now
unfolding expirations
times_expirations now ts i d distinct low = times_ascending (get_or ts i d).id (flat_map (due_of now) ts)
    ∙ times_each now ts i d distinct low

-- an id of no cyclic has no share
pub times_others : (now id : ℕ) (ts : List Timer) → ((k : ℕ) (d : Timer) → k < length ts → (get_or ts k d).id ≢ id)
    → times_of id (expirations now ts) ≡ 0
unfolding expirations
times_others now id ts h = times_ascending id (flat_map (due_of now) ts) ∙ times_none now id ts h

moment_all : (e t now j : ℕ) → j ≡ due e t now → moment_after_some e t now j ≡ next e t now
moment_all e t now j h = grind (arith, nat_tests)

pub moment_next : (now : ℕ) (made : List Expiration) (t : Timer) → times_of t.id made ≡ due t.moment t.interval now
    → (after_expirations now made t).moment ≡ next t.moment t.interval now
unfolding after_expirations
moment_next now made t h = moment_all t.moment t.interval now (times_of t.id made) h

pub count_due : (now : ℕ) (made : List Expiration) (t : Timer) → times_of t.id made ≡ due t.moment t.interval now
    → (after_expirations now made t).expired ≡ t.expired + due t.moment t.interval now
unfolding after_expirations
count_due now made t h = ap (λ n. t.expired + n) h
