use Rattle.std.proofs.Common.{◌≡◌, ◌≢◌, ℕ, zero, suc, ◌+◌, ◌*◌, ◌<◌, ◌≤◌, ◌==◌, true, false, cond, List, [], ◌∷◌, ◌++◌, refl, sym}
use Rattle.std.proofs.Common.{ap, ◌∙◌, subst, arith, length, inl, inr, get_or, take, drop, map, flat_map, All, append_assoc}
use Rattle.std.proofs.Common.{append-nil, length-append}
use Rattle.std.proofs.Math.ListN.{set}
use Rattle.std.specs.List.{AllByRecursion}
use Rattle.std.proofs.lemmas.Bool.{cases_eq}
use Rattle.std.proofs.lemmas.Bool.Decides.{nat_tests}
use Rattle.std.proofs.lemmas.List.{set_split, set-get_or, length-set, length-map, get_or-set_same, get_or-set_other, get_or-map}
use Rattle.std.proofs.lemmas.List.{get_or_default, same_lists}
use Rattle.std.proofs.lemmas.List.Concat.{flat_map-append, length-flat_map}
use Rattle.std.proofs.lemmas.List.Elements.{All-set, recursion_from_All, All-from_get_or}
use Rattle.std.proofs.lemmas.List.Sums.{sum_by-append, sum_by-le}
use Rattle.cyc_types.specs.Limits.{cyclics}
use Rattle.cyc_types.specs.Series.{due, next, never, late}
use Rattle.cyc_types.specs.Expirations.{Expiration, is_before, due_of, expirations, ascending, times_of, moment_after_some}
use Rattle.cyc_types.specs.Expirations.{after_expirations, all_after, next_of}
use Rattle.cyc_types.specs.Timers.{Timer, HasDistinctIds, IsSoundTimer, earliest}
use Rattle.cyc_types.proofs.Order.{ascending_least, length_ascending}
use Rattle.cyc_types.proofs.Dues.{due_of_first, due_of_step, due_of_all, due_of_none, moment_more, length_due_of, due_small}

-- the timer at this position comes no later than any
abbrev pub IsLeastAt : List Timer → ℕ → Type 0
IsLeastAt ts i = (k : ℕ) (d : Timer) → k < length ts → is_before (next_of (get_or ts i d)) (next_of (get_or ts k d)) ≡ true

-- the facts of one expiration of the timer t, which leaves it as u
pub record Expires (now : ℕ) (t u : Timer) : Type 0 where
  pub same_id : u.id ≡ t.id
  pub same_level : u.level ≡ t.level
  pub same_interval : u.interval ≡ t.interval
  pub count : u.expired ≡ t.expired + 1
  pub step : due t.moment t.interval now ≡ 1 + due u.moment t.interval now
  pub as_next : next t.moment t.interval now ≡ next u.moment t.interval now
  pub follows : 0 < due u.moment t.interval now → u.moment ≡ t.moment + t.interval
  pub later : t.moment ≤ u.moment

all_append : (P : Expiration → Type 0) (xs ys : List Expiration) → AllByRecursion P xs → AllByRecursion P ys
    → AllByRecursion P (xs ++ ys)
all_append P [] ys a b = b
all_append P (x ∷ xs) ys a b = (a.0, all_append P xs ys a.1 b)

flat_all : (P : Expiration → Type 0) (now : ℕ) (ts : List Timer) → AllByRecursion (λ t. AllByRecursion P (due_of now t)) ts
    → AllByRecursion P (flat_map (due_of now) ts)
flat_all P now [] h = tt
flat_all P now (t ∷ ts) h = all_append P (due_of now t) (flat_map (due_of now) ts) h.0 (flat_all P now ts h.1)

rec_map : (P Q : Timer → Type 0) → ((t : Timer) → P t → Q t) → (ts : List Timer) → AllByRecursion P ts → AllByRecursion Q ts
rec_map P Q f [] h = tt
rec_map P Q f (t ∷ ts) h = (f t h.0, rec_map P Q f ts h.1)

before_itself : (t u : Timer) → u.id ≡ t.id → t.moment ≤ u.moment → is_before (next_of t) (next_of u) ≡ true
before_itself t u same later = grind (arith, nat_tests)

-- the least timer's expiration is the first of the list, and the rest are those after it
pub expirations_step : (now : ℕ) (ts : List Timer) (i : ℕ) (t u : Timer) → i < length ts → t ≡ get_or ts i t → IsLeastAt ts i
    → Expires now t u →
    expirations now ts ≡ next_of t ∷ expirations now (set ts i u)
unfolding expirations
expirations_step now ts i t u low is least e =
    let f = λ (x : Timer). due_of now x in
    let front = flat_map f (take i ts) in
    let back = flat_map f (drop (suc i) ts) in
    let split : ts ≡ take i ts ++ t ∷ drop (suc i) ts = sym (set-get_or ts i t) ∙ ap (set ts i) (sym is) ∙ set_split ts i t low in
    let was : flat_map f ts ≡ front ++ (next_of t ∷ (f u ++ back)) =
    ap (flat_map f) split ∙ flat_map-append f (take i ts) (t ∷ drop (suc i) ts)
    ∙ ap (λ x. front ++ (x ++ back)) (due_of_step now t u e.same_id e.same_interval e.step e.follows) in
    let new : flat_map f (set ts i u) ≡ front ++ (f u ++ back) =
    ap (flat_map f) (set_split ts i u low) ∙ flat_map-append f (take i ts) (u ∷ drop (suc i) ts) in
    let below : All (λ x. is_before (next_of t) (next_of x) ≡ true) ts =
    All-from_get_or (λ x. is_before (next_of t) (next_of x) ≡ true) ts t (λ k within.
    subst (λ y. is_before (next_of y) (next_of (get_or ts k t)) ≡ true) (sym is) (least k t within)) in
    let both = All-set (λ x. is_before (next_of t) (next_of x) ≡ true) ts i u (before_itself t u e.same_id e.later) below in
    let each = rec_map (λ x. is_before (next_of t) (next_of x) ≡ true)
    (λ x. AllByRecursion (λ q. is_before (next_of t) q ≡ true) (due_of now x)) (λ x h. due_of_all (next_of t) now x h)
    (set ts i u)
    (recursion_from_All (λ x. is_before (next_of t) (next_of x) ≡ true) (set ts i u) both) in
    let all = flat_all (λ q. is_before (next_of t) q ≡ true) now (set ts i u) each in
    ap ascending was
    ∙ ascending_least front (next_of t) (f u ++ back) (subst (AllByRecursion (λ q. is_before (next_of t) q ≡ true)) new all)
    ∙ ap (λ xs. next_of t ∷ ascending xs) (sym new)

-- where each timer is later, nothing is due
pub expirations_none : (now : ℕ) (ts : List Timer) → AllByRecursion (λ t. now < t.moment) ts → expirations now ts ≡ []
unfolding expirations
expirations_none now ts all = ap ascending (none ts all)
  where
    none : (ts : List Timer) → AllByRecursion (λ t. now < t.moment) ts → flat_map (due_of now) ts ≡ []
    none [] h = refl
    none (t ∷ ts) h = ap (λ x. x ++ flat_map (due_of now) ts) (due_of_none now t h.0) ∙ none ts h.1

-- one fire has a bounded number of expirations
pub expirations_few : (now : ℕ) (ts : List Timer) → All (λ t. 0 < t.interval) ts
    → length (expirations now ts) ≤ length ts * (late + 2)
unfolding expirations
expirations_few now ts some =
    let a = length_ascending (flat_map (due_of now) ts) in
    let b = length-flat_map (due_of now) ts in
    let c = sum_by-le (λ t. length (due_of now t)) (late + 2) ts
    (λ k d h. (let few = due_small (get_or ts k d).moment (get_or ts k d).interval now (some k d h) in let l =
    length_due_of now (get_or ts k d) in omega (arith, few, l))) in
    omega (arith, a, b, c)

-- the timer of this cyclic, after these expirations, has the rest of its own before it
pub record Tracks (now : ℕ) (made : List Expiration) (t : Timer) : Type 0 where
  pub left : times_of t.id made + due (moment_after_some t.moment t.interval now (times_of t.id made)) t.interval now
      ≡ due t.moment t.interval now
  pub same : next (moment_after_some t.moment t.interval now (times_of t.id made)) t.interval now ≡ next t.moment t.interval now

-- a fire that has made these expirations
pub record Firing (now : ℕ) (made : List Expiration) (ts cur : List Timer) : Type 0 where
  pub is : cur ≡ all_after now made ts
  pub tracks : (k : ℕ) (d : Timer) → k < length ts → Tracks now made (get_or ts k d)
  pub whole : expirations now ts ≡ made ++ expirations now cur

times_more_same : (id : ℕ) (made : List Expiration) (p : Expiration) → p.id ≡ id
    → times_of id (made ++ p ∷ []) ≡ times_of id made + 1
times_more_same id made p h =
    let a = sum_by-append (λ (q : Expiration). cond (q.id == id) 1 0) made (p ∷ []) in
    let yes : (p.id == id) ≡ true = grind (arith, nat_tests) in
    let one : times_of id (p ∷ []) ≡ 1 = ap (λ b. 0 + cond b 1 0) yes in
    omega (arith, a, one)

times_more_other : (id : ℕ) (made : List Expiration) (p : Expiration) → p.id ≢ id
    → times_of id (made ++ p ∷ []) ≡ times_of id made
times_more_other id made p h =
    let a = sum_by-append (λ (q : Expiration). cond (q.id == id) 1 0) made (p ∷ []) in
    let no : (p.id == id) ≡ false = grind (arith, nat_tests) in
    let none : times_of id (p ∷ []) ≡ 0 = ap (λ b. 0 + cond b 1 0) no in
    omega (arith, a, none)

-- the timer that expired
after_same : (now : ℕ) (made : List Expiration) (o t u : Timer) → t ≡ after_expirations now made o → Tracks now made o
    → Expires now t u →
    (u ≡ after_expirations now (made ++ next_of t ∷ []) o) × Tracks now (made ++ next_of t ∷ []) o
unfolding after_expirations
after_same now made o t u is h e =
    let j = times_of o.id made in
    let same_id : t.id ≡ o.id = ap (λ (x : Timer). x.id) is in
    let same_interval : t.interval ≡ o.interval = ap (λ (x : Timer). x.interval) is in
    let moment : moment_after_some o.moment o.interval now j ≡ t.moment = sym (ap (λ (x : Timer). x.moment) is) in
    let more : times_of o.id (made ++ next_of t ∷ []) ≡ j + 1 = times_more_same o.id made (next_of t) same_id in
    let left : j + due t.moment o.interval now ≡ due o.moment o.interval now = ap (λ m. j + due m o.interval now) (sym moment)
    ∙ h.left in
    let same : next t.moment o.interval now ≡ next o.moment o.interval now = ap (λ m. next m o.interval now) (sym moment)
    ∙ h.same in
    let step : due t.moment o.interval now ≡ 1 + due u.moment o.interval now =
    subst (λ v. due t.moment v now ≡ 1 + due u.moment v now) same_interval e.step in
    let as_next : next t.moment o.interval now ≡ next u.moment o.interval now =
    subst (λ v. next t.moment v now ≡ next u.moment v now) same_interval e.as_next in
    let follows = subst (λ v. 0 < due u.moment v now → u.moment ≡ t.moment + v) same_interval e.follows in
    let at : moment_after_some o.moment o.interval now (j + 1) ≡ u.moment =
    moment_more o.moment o.interval now j t.moment u.moment moment left same step as_next follows in
    let now_at : u.moment ≡ moment_after_some o.moment o.interval now (times_of o.id (made ++ next_of t ∷ [])) = sym at
    ∙ ap (moment_after_some o.moment o.interval now) (sym more) in
    let id' = e.same_id ∙ same_id in
    let level' : u.level ≡ o.level = e.same_level ∙ ap (λ (x : Timer). x.level) is in
    let interval' = e.same_interval ∙ same_interval in
    let count' : u.expired ≡ o.expired + times_of o.id (made ++ next_of t ∷ []) =
    (let c = e.count in let b = ap (λ (x : Timer). x.expired) is in omega (arith, c, b, more)) in (
      (λ i. record { id = id' i; level = level' i; moment = now_at i; interval = interval' i; expired = count' i }),
      record {
        left = ap (λ m. times_of o.id (made ++ next_of t ∷ []) + due m o.interval now) (sym now_at)
            ∙ omega (arith, more, left, step);
        same = ap (λ m. next m o.interval now) (sym now_at) ∙ sym as_next ∙ same;
      },
    )

-- a timer that did not
after_other : (now : ℕ) (made : List Expiration) (p : Expiration) (o : Timer) → p.id ≢ o.id → Tracks now made o →
    (after_expirations now made o ≡ after_expirations now (made ++ p ∷ []) o) × Tracks now (made ++ p ∷ []) o
unfolding after_expirations
after_other now made p o other h =
    let same = times_more_other o.id made p other in (
      ap (λ j. record o { moment = moment_after_some o.moment o.interval now j; expired = o.expired + j }) (sym same),
      record {
        left = ap (λ j. j + due (moment_after_some o.moment o.interval now j) o.interval now) same ∙ h.left;
        same = ap (λ j. next (moment_after_some o.moment o.interval now j) o.interval now) same ∙ h.same;
      },
    )

pub after_id : (now : ℕ) (made : List Expiration) (o : Timer) → (after_expirations now made o).id ≡ o.id
unfolding after_expirations
after_id now made o = refl

pub fire_step : (now : ℕ) (made : List Expiration) (ts cur : List Timer) (i : ℕ) (t u : Timer) → Firing now made ts cur
    → HasDistinctIds ts →
    i < length cur → t ≡ get_or cur i t → IsLeastAt cur i → Expires now t u → Firing now (made ++ next_of t ∷ []) ts (set cur i u)
unfolding all_after
fire_step now made ts cur i t u f distinct low is least e =
    let long : length cur ≡ length ts = ap length f.is ∙ length-map ts (after_expirations now made) in
    let within : i < length ts = omega (arith, long) in
    let o = get_or ts i t in
    let from : t ≡ after_expirations now made o = is ∙ ap (λ xs. get_or xs i t) f.is
    ∙ get_or-map (after_expirations now made) ts i t t within in
    let (now_is, now_tracks) = after_same now made o t u from (f.tracks i t within) e in
    let same_id : t.id ≡ o.id = ap (λ (x : Timer). x.id) from ∙ after_id now made o in
    let apart = λ (k : ℕ) (d : Timer) (h : k < length ts) (n : k ≢ i) (eq : t.id ≡ (get_or ts k d).id).
    n (sym (distinct i k d within h (ap (λ (x : Timer). x.id) (get_or_default ts i d t within) ∙ sym same_id ∙ eq))) in
    record {
      is = same_lists (set cur i u) (map (after_expirations now (made ++ next_of t ∷ [])) ts) (length-set cur i u ∙ long
          ∙ sym (length-map ts (after_expirations now (made ++ next_of t ∷ [])))) (λ k d h.
          let h' : k < length ts = (let l = length-set cur i u in omega (arith, l, long)) in
          let right = get_or-map (after_expirations now (made ++ next_of t ∷ [])) ts k d d h' in
          elim (cases_eq k i) [
            | inl eq ↦ subst (λ n. get_or (set cur i u) n d ≡ get_or (map (after_expirations now (made
                ++ next_of t ∷ [])) ts) n d) (sym eq)
                (get_or-set_same cur i u d low ∙ now_is ∙ ap (after_expirations now (made
                ++ next_of t ∷ [])) (get_or_default ts i t d within)
                ∙ sym (get_or-map (after_expirations now (made ++ next_of t ∷ [])) ts i d d within))
            | inr ne ↦ get_or-set_other cur i k u d ne ∙ ap (λ xs. get_or xs k d) f.is
                ∙ get_or-map (after_expirations now made) ts k d d h'
                ∙ (after_other now made (next_of t) (get_or ts k d) (apart k d h' ne) (f.tracks k d h')).0 ∙ sym right
          ]);
      tracks = λ k d h. elim (cases_eq k i) [
        | inl eq ↦ subst (λ n. Tracks now (made ++ next_of t ∷ []) (get_or ts n d)) (sym eq)
            (subst (Tracks now (made ++ next_of t ∷ [])) (get_or_default ts i t d within) now_tracks)
        | inr ne ↦ (after_other now made (next_of t) (get_or ts k d) (apart k d h ne) (f.tracks k d h)).1
      ];
      whole = f.whole ∙ ap (λ xs. made ++ xs) (expirations_step now cur i t u low is least e)
          ∙ sym (append_assoc made (next_of t ∷ []) (expirations now (set cur i u)));
    }

map_self : {X : Type 0} (f : X → X) → ((x : X) → f x ≡ x) → (xs : List X) → xs ≡ map f xs
map_self f h [] = refl
map_self f h (x ∷ xs) = λ i. sym (h x) i ∷ map_self f h xs i

pub fire_start : (now : ℕ) (ts : List Timer) → Firing now [] ts ts
unfolding all_after after_expirations
fire_start now ts = record {
  is = map_self (after_expirations now []) (λ t. (let z : t.expired + 0 ≡ t.expired = omega arith in ap (λ n. record t {
    expired = n;
  }) z))
      ts;
  tracks = λ k d h. record { left = omega arith; same = refl };
  whole = refl;
}

-- the fire is over
pub fire_done : (now : ℕ) (made : List Expiration) (ts cur : List Timer) → Firing now made ts cur
    → AllByRecursion (λ t. now < t.moment) cur → expirations now ts ≡ made
fire_done now made ts cur f later = f.whole ∙ ap (λ xs. made ++ xs) (expirations_none now cur later) ∙ append-nil made

-- the number made fits
pub fire_bound : (now : ℕ) (made : List Expiration) (ts cur : List Timer) → Firing now made ts cur → All IsSoundTimer ts
    → length ts ≤ cyclics → length made ≤ cyclics * (late + 2)
fire_bound now made ts cur f sound few =
    let a = ap length f.whole in
    let b = length-append made (expirations now cur) in
    let c = expirations_few now ts (λ k d h. (sound k d h).some) in
    omega (arith, a, b, c)

-- what is left before and after one expiration
pub fire_left : (now : ℕ) (ts : List Timer) (i : ℕ) (t u : Timer) → i < length ts → t ≡ get_or ts i t → IsLeastAt ts i
    → Expires now t u → length (expirations now (set ts i u)) < length (expirations now ts)
fire_left now ts i t u low is least e = let s = ap length (expirations_step now ts i t u low is least e) in omega (arith, s)

-- the least timer's moment is the earliest
pub earliest_least : (ts : List Timer) (i : ℕ) (t : Timer) → i < length ts → t ≡ get_or ts i t → IsLeastAt ts i
    → All (λ t. t.moment ≤ never) ts → t.moment ≡ earliest ts
earliest_least ts i t low is least bound =
    let at = least_is ts i t low is in
    let all = below ts t.moment (λ k h. let o =
    subst (λ x. is_before (next_of x) (next_of (get_or ts k t)) ≡ true) (sym is) (least k t h) in
    before_le t (get_or ts k t) o) in
    let top : t.moment ≤ never = subst (λ x. x.moment ≤ never) (sym is) (bound i t low) in
    omega (arith, at, all top)
  where
    before_le : (t u : Timer) → is_before (next_of t) (next_of u) ≡ true → t.moment ≤ u.moment
    before_le t u h = grind (arith, nat_tests)

    least_is : (ts : List Timer) (i : ℕ) (t : Timer) → i < length ts → t ≡ get_or ts i t → earliest ts ≤ t.moment
    least_is [] i t low is = absurd (omega arith)
    least_is (x ∷ xs) zero t low is = (let e = ap (λ (x : Timer). x.moment) is in omega (arith, e))
    least_is (x ∷ xs) (suc i) t low is = (let r = least_is xs i t (omega arith) is in omega (arith, r))

    below : (ts : List Timer) (m : ℕ) → ((k : ℕ) → k < length ts → m ≤ (get_or ts k t).moment) → m ≤ never → m ≤ earliest ts
    below [] m h top = top
    below (x ∷ xs) m h top = (let a = h 0 (omega arith) in let r = below xs m (λ k low. h (suc k) (omega arith)) top in
        omega (arith, a, r))

all_without : (P : Expiration → Type 0) (xs : List Expiration) (y : Expiration) (ys : List Expiration)
    → AllByRecursion P (xs ++ y ∷ ys) → AllByRecursion P (xs ++ ys)
all_without P [] y ys h = h.1
all_without P (x ∷ xs) y ys h = (h.0, all_without P xs y ys h.1)

-- the least timer, where it is due, gives the first of the list
pub expirations_first : (now : ℕ) (ts : List Timer) (i : ℕ) (t : Timer) → i < length ts → t ≡ get_or ts i t → IsLeastAt ts i
    → t.moment ≤ now →
    (rest : List Expiration) × (expirations now ts ≡ next_of t ∷ rest)
unfolding expirations
expirations_first now ts i t low is least reached =
    let f = λ (x : Timer). due_of now x in
    let front = flat_map f (take i ts) in
    let back = flat_map f (drop (suc i) ts) in
    let (rest, first) = due_of_first now t reached in
    let split : ts ≡ take i ts ++ t ∷ drop (suc i) ts = sym (set-get_or ts i t) ∙ ap (set ts i) (sym is) ∙ set_split ts i t low in
    let was : flat_map f ts ≡ front ++ (next_of t ∷ (rest ++ back)) =
    ap (flat_map f) split ∙ flat_map-append f (take i ts) (t ∷ drop (suc i) ts) ∙ ap (λ x. front ++ (x ++ back)) first in
    let below : All (λ x. is_before (next_of t) (next_of x) ≡ true) ts =
    All-from_get_or (λ x. is_before (next_of t) (next_of x) ≡ true) ts t (λ k within.
    subst (λ y. is_before (next_of y) (next_of (get_or ts k t)) ≡ true) (sym is) (least k t within)) in
    let each = rec_map (λ x. is_before (next_of t) (next_of x) ≡ true)
    (λ x. AllByRecursion (λ q. is_before (next_of t) q ≡ true) (due_of now x)) (λ x h. due_of_all (next_of t) now x h) ts
    (recursion_from_All (λ x. is_before (next_of t) (next_of x) ≡ true) ts below) in
    let all = subst (AllByRecursion (λ q. is_before (next_of t) q ≡ true)) was
    (flat_all (λ q. is_before (next_of t) q ≡ true) now ts each) in (
      ascending (front ++ (rest ++ back)),
      ap ascending was ∙ ascending_least front (next_of t) (rest ++ back)
          (all_without (λ q. is_before (next_of t) q ≡ true) front (next_of t) (rest ++ back) all),
    )

-- where a fire stands, it has made the front of the list
pub fire_front : (now : ℕ) (made : List Expiration) (ts cur : List Timer) (i : ℕ) (t : Timer) → Firing now made ts cur →
    i < length cur → t ≡ get_or cur i t → IsLeastAt cur i → t.moment ≤ now → (rest : List Expiration)
    × (expirations now ts ≡ made ++ next_of t ∷ rest)
fire_front now made ts cur i t f low is least reached =
    let (rest, first) = expirations_first now cur i t low is least reached in
    (rest, f.whole ∙ ap (λ xs. made ++ xs) first)
