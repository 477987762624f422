-- A fire at any point of its list: the expirations that are left are those of the cyclics as they stand.
use Rattle.std.proofs.Common.{◌≡◌, ℕ, zero, suc, ◌+◌, ◌<◌, ◌≤◌, Bool, true, false, cond, List, [], ◌∷◌, ◌++◌, refl, sym, ap, ◌∙◌}
use Rattle.std.proofs.Common.{subst, arith, length, inl, inr, get_or, All, append_assoc, append-nil, min, ◌*◌, ◌-◌, ◌/◌}
use Rattle.std.proofs.Math.ListN.{set}
use Rattle.std.proofs.Math.Nat.{lt-div-mul-add}
use Rattle.std.proofs.lemmas.List.Elements.{All-set, recursion_from_All, All-from_get_or}
use Rattle.std.specs.Prelude.{nat_lt}
use Rattle.std.specs.List.{AllByRecursion}
use Rattle.std.proofs.lemmas.Bool.{cases_lt}
use Rattle.std.proofs.lemmas.Bool.Decides.{nat_tests}
use Rattle.std.proofs.lemmas.List.{get_or_default}
use Rattle.cyc_types.specs.Series.{due, next, never, late}
use Rattle.cyc_types.specs.Expirations.{Expiration, is_before, expirations, next_of}
use Rattle.cyc_types.specs.Timers.{Timer, HasDistinctIds, IsSoundTimer}
use Rattle.cyc_types.proofs.Order.{before_total, before_trans}
use Rattle.cyc_types.proofs.Dues.{due_step, due_later, next_later}
use Rattle.cyc_types.proofs.Firings.{IsLeastAt, Expires, Firing, fire_step, expirations_none, expirations_first}
use Rattle.cyc_types.proofs.Firings.{expirations_step}
use Rattle.cyc_timers.proofs.Nexts.{next_step}

-- every list of cyclics has a first to expire
least : (t : Timer) (ts : List Timer) → (i : ℕ) × (i < length (t ∷ ts)) × IsLeastAt (t ∷ ts) i
least t [] = (
  0,
  omega arith,
  λ k d low. subst (λ n. is_before (next_of t) (next_of (get_or (t ∷ []) n d)) ≡ true)
      (let z : 0 ≡ k = omega (arith, low) in z) (itself t),
)
  where
    itself : (x : Timer) → is_before (next_of x) (next_of x) ≡ true
    itself x = grind (arith, nat_tests)
least t (u ∷ us) =
    let (i, low, first) = least u us in
    pick (is_before (next_of t) (next_of (get_or (u ∷ us) i t))) i refl low first
  where
    itself : (x : Timer) → is_before (next_of x) (next_of x) ≡ true
    itself x = grind (arith, nat_tests)

    pick : (b : Bool) (i : ℕ) → is_before (next_of t) (next_of (get_or (u ∷ us) i t)) ≡ b → i < length (u ∷ us)
        → IsLeastAt (u ∷ us) i →
        (j : ℕ) × (j < length (t ∷ u ∷ us)) × IsLeastAt (t ∷ u ∷ us) j
    pick true i is low first = (0, omega arith, at)
      where
        at : IsLeastAt (t ∷ u ∷ us) 0
        at zero d h = itself t
        at (suc k) d h = before_trans (next_of t) (next_of (get_or (u ∷ us) i t)) (next_of (get_or (u ∷ us) k d)) is
            (subst (λ x. is_before (next_of x) (next_of (get_or (u ∷ us) k d)) ≡ true) (get_or_default (u ∷ us) i d t low)
            (first k d (omega (arith, h))))
    pick false i is low first = (suc i, omega (arith, low), at)
      where
        at : IsLeastAt (t ∷ u ∷ us) (suc i)
        at zero d h = subst (λ x. is_before (next_of x) (next_of t) ≡ true) (get_or_default (u ∷ us) i t d low)
            (before_total (next_of t) (next_of (get_or (u ∷ us) i t)) is)
        at (suc k) d h = first k d (omega (arith, h))

-- the moment after one expiration of a cyclic that is due: the next of its series, or where it is late the first above now
abbrev pub step_on : ℕ → ℕ → ℕ → ℕ
step_on e t now = cond (nat_lt (e + t + late) now) (next e t now) (min (e + t) never)

-- the cyclic after it
abbrev pub once : ℕ → Timer → Timer
once now t = record t { moment = step_on t.moment t.interval now; expired = t.expired + 1 }

-- a skip ends above now
skip_above : (e t now : ℕ) → e ≤ now → now < never → 0 < t → now < next e t now
skip_above e t now h last some =
    let q = lt-div-mul-add {a = now - e} {b = t} some in
    let d : ((now - e) / t + 1) * t ≡ (now - e) / t * t + t = omega arith in
    let z : next e t now ≡ min (e + ((now - e) / t + 1) * t) never = grind (arith, nat_tests) in
    omega (arith, q, d, z)

skip_due : (e t now : ℕ) → e ≤ now → e + t + late < now → now < never → 0 < t → due e t now ≡ 1
skip_due e t now h far last some = grind (arith, nat_tests)

-- an expiration at a moment that is not skipped, or the one expiration of a cyclic that is late
pub expires : (now : ℕ) (t : Timer) → t.moment ≤ now → now < never → IsSoundTimer t → (u : Timer) × Expires now t u
    × (u.moment ≤ never)
expires now t reached last sound = elim (cases_lt (t.moment + t.interval + late) now) [
  | inl far ↦
      let e = t.moment in
      let v = t.interval in
      let above = skip_above e v now reached last sound.some in
      let one = skip_due e v now reached far last sound.some in
      let none = due_later (next e v now) v now above in
      let same = next_later (next e v now) v now above in
      let z : next e v now ≤ never = next_few e v now sound.moment in (
        record t { moment = next e v now; expired = t.expired + 1 },
        record {
          same_id = refl;
          same_level = refl;
          same_interval = refl;
          count = refl;
          step = omega (arith, one, none);
          as_next =
              sym same;
          follows = λ p. absurd (omega (arith, p, none));
          later = omega (arith, above, reached);
        },
        z,
      )
  | inr near ↦
      let e = t.moment in
      let v = t.interval in
      let d = due_step e v now (min (e + v) never) reached last sound.some refl (omega (arith, near)) in
      let n = next_step e v now (min (e + v) never) reached last sound.some refl in (
        record t { moment = min (e + v) never; expired = t.expired + 1 },
        record {
          same_id = refl;
          same_level = refl;
          same_interval = refl;
          count = refl;
          step = d;
          as_next = n;
          follows =
              λ p. within e v now last p;
          later = omega (arith, (let b = sound.moment in b));
        },
        omega arith,
      )
]
  where
    next_few : (e v now : ℕ) → e ≤ never → next e v now ≤ never
    next_few e v now h = grind (arith, nat_tests)

    -- what is due is no moment that was cut off
    within : (e v now : ℕ) → now < never → 0 < due (min (e + v) never) v now → min (e + v) never ≡ e + v
    within e v now last p = elim (cases_lt now (min (e + v) never)) [
      | inl later ↦ absurd (let z = due_later (min (e + v) never) v now later in omega (arith, z, p))
      | inr here ↦ omega (arith, here)
    ]

no_cons : (x : Expiration) (xs : List Expiration) → x ∷ xs ≡ [] → ⊥
no_cons x xs e = let n = ap length e in omega (arith, n)

first_or : Expiration → List Expiration → Expiration
first_or d [] = d
first_or d (p ∷ ps) = p

no_sooner : (now : ℕ) (t u : Timer) → now < t.moment → is_before (next_of t) (next_of u) ≡ true → now < u.moment
no_sooner now t u later h = grind (arith, nat_tests)

-- where a list begins, its first expiration is due
due_now : (now : ℕ) (c : Timer) (cs : List Timer) (x : Expiration) (xs : List Expiration) → expirations now (c ∷ cs) ≡ x ∷ xs →
    (i : ℕ) (t : Timer) → i < length (c ∷ cs) → t ≡ get_or (c ∷ cs) i t → IsLeastAt (c ∷ cs) i → t.moment ≤ now
due_now now c cs x xs left i t low is first = elim (cases_lt now t.moment) [
  | inl later ↦ absurd (no_cons x xs (sym left ∙ expirations_none now (c ∷ cs) (all_later later)))
  | inr here ↦ here
]
  where
    all_later : now < t.moment → AllByRecursion (λ t. now < t.moment) (c ∷ cs)
    all_later later = recursion_from_All (λ t. now < t.moment) (c ∷ cs)
        (All-from_get_or (λ t. now < t.moment) (c ∷ cs) t (λ k h.
        let o = subst (λ x. is_before (next_of x) (next_of (get_or (c ∷ cs) k t)) ≡ true) (sym is) (first k t h) in
        no_sooner now t (get_or (c ∷ cs) k t) later o))

-- the first expiration is the first of a later fire, too
pub still_first : (now later : ℕ) (ts : List Timer) (x : Expiration) (xs : List Expiration) → now ≤ later
    → expirations now ts ≡ x ∷ xs → (ys : List Expiration) × (expirations later ts ≡ x ∷ ys)
unfolding first_or
still_first now later [] x xs after left = absurd (no_cons x xs (sym left ∙ expirations_none now [] tt))
still_first now later (c ∷ cs) x xs after left =
    let (i, low, first) = least c cs in
    let t = get_or (c ∷ cs) i c in
    let is : t ≡ get_or (c ∷ cs) i t = get_or_default (c ∷ cs) i c t low in
    let reached : t.moment ≤ now = due_now now c cs x xs left i t low is first in
    let (tail, head) = expirations_first now (c ∷ cs) i t low is first reached in
    let (ys, is_first) = expirations_first later (c ∷ cs) i t low is first (omega (arith, reached, after)) in
    let same : next_of t ≡ x = ap (first_or x) (sym head ∙ left) in
    (ys, is_first ∙ ap (λ p. p ∷ ys) same)

-- where a fire stands, it makes what is left of its list
pub goes_through : (now : ℕ) (xs rest made done : List Expiration) (ts base cur : List Timer) → now < never → HasDistinctIds ts
    → HasDistinctIds base → All IsSoundTimer cur →
    Firing now made ts cur → Firing now done base cur → expirations now cur ≡ xs ++ rest →
    (end : List Timer) × Firing now (made ++ xs) ts end × Firing now (done ++ xs) base end × All IsSoundTimer end
unfolding first_or
goes_through now [] rest made done ts base cur last apart other sound f g left = (
  cur,
  subst (λ m. Firing now m ts cur) (sym (append-nil made)) f,
  subst (λ m. Firing now m base cur)
      (sym (append-nil done)) g,
  sound,
)
goes_through now (x ∷ xs) rest made done ts base [] last apart other sound f g left =
    absurd (no_cons x (xs ++ rest) (sym left ∙ expirations_none now [] tt))
goes_through now (x ∷ xs) rest made done ts base (c ∷ cs) last apart other sound f g left =
    let (i, low, first) = least c cs in
    let t = get_or (c ∷ cs) i c in
    let is : t ≡ get_or (c ∷ cs) i t = get_or_default (c ∷ cs) i c t low in
    let reached : t.moment ≤ now = due_now now c cs x (xs ++ rest) left i t low is first in
    let (u, e, few) = expires now t reached last (sound i c low) in
    let (tail, head) = expirations_first now (c ∷ cs) i t low is first reached in
    let same : next_of t ≡ x = ap (first_or x) (sym head ∙ left) in
    let step = expirations_step now (c ∷ cs) i t u low is first e in
    let left' : expirations now (set (c ∷ cs) i u) ≡ xs ++ rest = ap rest_of (sym step ∙ left) in
    let f' = subst (λ p. Firing now (made ++ p ∷ []) ts (set (c ∷ cs) i u)) same
    (fire_step now made ts (c ∷ cs) i t u f apart low is first e) in
    let g' = subst (λ p. Firing now (done ++ p ∷ []) base (set (c ∷ cs) i u)) same
    (fire_step now done base (c ∷ cs) i t u g other low is first e) in
    let s = sound i c low in
    let sound' = All-set IsSoundTimer (c ∷ cs) i u
    (record {
      moment = few;
      some = subst (λ n. 0 < n) (sym e.same_interval) s.some;
      most =
          subst (λ n. n ≤ never) (sym e.same_interval) s.most;
    }) sound in
    let (end, a, b, z) = goes_through now xs rest (made ++ x ∷ []) (done ++ x ∷ []) ts base
    (set (c ∷ cs) i u) last apart other sound' f' g' left' in (
      end,
      subst (λ m. Firing now m ts end) (append_assoc made (x ∷ []) xs) a,
      subst (λ m. Firing now m base end)
          (append_assoc done (x ∷ []) xs) b,
      z,
    )
  where
    rest_of : List Expiration → List Expiration
    rest_of [] = []
    rest_of (p ∷ ps) = ps
