use Rattle.std.proofs.Common.{◌≡◌, ℕ, zero, suc, ◌+◌, ◌-◌, ◌*◌, ◌/◌, ◌<◌, ◌≤◌, ◌==◌, true, false, cond, List, [], ◌∷◌, refl, sym}
use Rattle.std.proofs.Common.{ap, ◌∙◌, arith, length, inl, inr, min, one-add}
use Rattle.std.specs.List.{AllByRecursion}
use Rattle.std.proofs.Math.Nat.{add-div_left}
use Rattle.std.proofs.lemmas.Nat.{div_below}
use Rattle.std.proofs.lemmas.Bool.{cases_lt}
use Rattle.std.proofs.lemmas.Bool.Decides.{nat_tests}
use Rattle.cyc_types.specs.Series.{due, next, never, late}
use Rattle.cyc_types.specs.Expirations.{Expiration, is_before, series, due_of, moment_after_some, next_of}
use Rattle.cyc_types.specs.Timers.{Timer}
use Rattle.cyc_types.proofs.Order.{test_trans}

-- the last one that is due
quotient_last : (e t now : ℕ) → e ≤ now → now < e + t → 0 < t → (now - e) / t ≡ 0
quotient_last e t now h before some = let below = div_below (now - e) t 1 some (omega arith) in omega (arith, below)

-- one that is due before another
quotient_more : (e t now : ℕ) → e + t ≤ now → 0 < t → (now - e) / t ≡ (now - (e + t)) / t + 1
quotient_more e t now h some = let split : now - e ≡ t + (now - (e + t)) = omega arith in ap (λ n. n / t) split
    ∙ add-div_left (now - (e + t)) some

-- a moment that is not too late is one expiration, and the rest are due from the following one
pub due_step : (e t now m : ℕ) → e ≤ now → now < never → 0 < t → m ≡ min (e + t) never → now ≤ e + t + late
    → due e t now ≡ 1 + due m t now
due_step e t now m h last some is near = elim (cases_lt now (e + t)) [
  | inl before ↦ let q = quotient_last e t now h before some in let far : now < m = omega (arith, is) in grind (arith, nat_tests)
  | inr within ↦ let q = quotient_more e t now within some in let same : m ≡ e + t = omega (arith, is) in grind (arith, nat_tests)
]

-- a fire makes at most this many of one cyclic
pub due_small : (e t now : ℕ) → 0 < t → due e t now ≤ late + 2
due_small e t now some = elim (cases_lt now e) [
  | inl before ↦ grind (arith, nat_tests)
  | inr reached ↦ elim (cases_lt (e + t + late) now) [
    | inl far ↦ grind (arith, nat_tests)
    | inr near ↦ let few = div_below (now - e) t (late + 2) some (bound (now - e) t some (omega arith)) in
        grind (arith, nat_tests)
  ]
]
  where
    bound : (n t : ℕ) → 0 < t → n ≤ t + late → n < (late + 2) * t
    bound n t some h = omega arith

pub due_none : (r t now : ℕ) → due r t now ≡ 0 → now < r
due_none r t now h = grind (arith, nat_tests)

pub due_later : (r t now : ℕ) → now < r → due r t now ≡ 0
due_later r t now h = grind (arith, nat_tests)

pub next_later : (r t now : ℕ) → now < r → next r t now ≡ r
next_later r t now h = grind (arith, nat_tests)

-- the series of a cyclic after one expiration
pub series_step : (id e t now m : ℕ) → due e t now ≡ 1 + due m t now → (0 < due m t now → m ≡ e + t) →
    series id e t (due e t now) ≡ (record { moment = e; id = id }) ∷ series id m t (due m t now)
series_step id e t now m h same = ap (series id e t) (h ∙ one-add _)
    ∙ ap (λ rest. (record { moment = e; id = id }) ∷ rest) (tail_at (due m t now) same)
  where
    tail_at : (n : ℕ) → (0 < n → m ≡ e + t) → series id (e + t) t n ≡ series id m t n
    tail_at zero same = refl
    tail_at (suc n) same = ap (λ x. series id x t (suc n)) (sym (same (omega arith)))

pub due_of_step : (now : ℕ) (t u : Timer) → u.id ≡ t.id → u.interval ≡ t.interval
    → due t.moment t.interval now ≡ 1 + due u.moment t.interval now →
    (0 < due u.moment t.interval now → u.moment ≡ t.moment + t.interval) → due_of now t ≡ next_of t ∷ due_of now u
unfolding due_of
due_of_step now t u same every h is = series_step t.id t.moment t.interval now u.moment h is
    ∙ ap (λ id. next_of t ∷ series id u.moment t.interval (due u.moment t.interval now)) (sym same)
    ∙ ap (λ v. next_of t ∷ series u.id u.moment v (due u.moment v now)) (sym every)

-- a whole series comes no earlier than its first
pub series_all : (p : Expiration) (id e t n : ℕ) → is_before p (record { moment = e; id = id }) ≡ true
    → AllByRecursion (λ q. is_before p q ≡ true) (series id e t n)
series_all p id e t zero h = tt
series_all p id e t (suc n) h = (
  h,
  series_all p id (e + t) t n
      (test_trans p.moment p.id e id (e + t) id h (grind (arith, nat_tests))),
)

pub due_of_all : (p : Expiration) (now : ℕ) (t : Timer) → is_before p (next_of t) ≡ true
    → AllByRecursion (λ q. is_before p q ≡ true) (due_of now t)
unfolding due_of
due_of_all p now t h = series_all p t.id t.moment t.interval (due t.moment t.interval now) h

pub length_series : (id e t n : ℕ) → length (series id e t n) ≡ n
length_series id e t zero = refl
length_series id e t (suc n) = ap suc (length_series id (e + t) t n)

pub length_due_of : (now : ℕ) (t : Timer) → length (due_of now t) ≡ due t.moment t.interval now
unfolding due_of
length_due_of now t = length_series t.id t.moment t.interval (due t.moment t.interval now)

pub due_of_none : (now : ℕ) (t : Timer) → now < t.moment → due_of now t ≡ []
unfolding due_of
due_of_none now t h = ap (series t.id t.moment t.interval) (due_later t.moment t.interval now h)

after_first : (e t now m : ℕ) → (j d : ℕ) → d ≡ due e t now → cond (j == 0) e (cond (j == d) (next e t now) (e + j * t)) ≡ m
    → j < d → m ≡ e + j * t
after_first e t now m zero d h is low = let f : e ≡ m = is in omega arith
after_first e t now m (suc j) d h is low =
    let f : (suc j == d) ≡ false = grind (arith, nat_tests) in
    let z : (suc j == 0) ≡ false = grind (arith, nat_tests) in
    sym is ∙ ap (λ b. cond b e (cond (suc j == d) (next e t now) (e + suc j * t))) z
    ∙ ap (λ b. cond b (next e t now) (e + suc j * t)) f

-- one expiration more
pub moment_more : (e t now j m r : ℕ) → moment_after_some e t now j ≡ m → j + due m t now ≡ due e t now
    → next m t now ≡ next e t now →
    due m t now ≡ 1 + due r t now → next m t now ≡ next r t now → (0 < due r t now → r ≡ m + t)
    → moment_after_some e t now (j + 1) ≡ r
moment_more e t now j m r is left same step as_next follows = elim (cases_lt 0 (due r t now)) [
  | inl some ↦
      let at : m ≡ e + j * t = after_first e t now m j (due e t now) refl is (omega arith) in
      let one : (j + 1 == 0) ≡ false = grind (arith, nat_tests) in
      let two : (j + 1 == due e t now) ≡ false = grind (arith, nat_tests) in
      ap (λ b. cond b e (cond (j + 1 == due e t now) (next e t now) (e + (j + 1) * t))) one
      ∙ ap (λ b. cond b (next e t now) (e + (j + 1) * t)) two
      ∙ (let f = follows some in let product : (j + 1) * t ≡ j * t + t = omega arith in omega arith)
  | inr none ↦
      let zero' : due r t now ≡ 0 = omega arith in
      let later = due_none r t now zero' in
      let one : (j + 1 == 0) ≡ false = grind (arith, nat_tests) in
      let two : (j + 1 == due e t now) ≡ true = grind (arith, nat_tests) in
      ap (λ b. cond b e (cond (j + 1 == due e t now) (next e t now) (e + (j + 1) * t))) one
      ∙ ap (λ b. cond b (next e t now) (e + (j + 1) * t)) two
      ∙ sym same ∙ as_next ∙ next_later r t now later
]

-- a timer that is due has a first expiration
pub due_of_first : (now : ℕ) (t : Timer) → t.moment ≤ now → (rest : List Expiration) × (due_of now t ≡ next_of t ∷ rest)
unfolding due_of
due_of_first now t h = first (due t.moment t.interval now) (some t.moment t.interval h)
  where
    some : (e v : ℕ) → e ≤ now → 0 < due e v now
    some e v h = grind (arith, nat_tests)

    first : (n : ℕ) → 0 < n → (rest : List Expiration) × (series t.id t.moment t.interval n ≡ next_of t ∷ rest)
    first zero h = absurd (omega arith)
    first (suc n) h = (series t.id (t.moment + t.interval) t.interval n, refl)
