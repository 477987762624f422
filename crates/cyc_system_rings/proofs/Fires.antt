-- What a whole fire makes of a measure of an id's cyclics.
use Rattle.std.proofs.Common.{◌≡◌, ◌∙◌, ◌==◌, ℕ, suc, ◌+◌, ◌<◌, Bool, true, false, cond, find, Some, None, List, []}
use Rattle.std.proofs.Common.{◌∷◌, map, length, get_or, refl, sym, ap, arith}
use Rattle.std.specs.Prelude.{sum_by}
use Rattle.std.specs.List.{slice_get}
use Rattle.std.proofs.lemmas.List.Sums.{sum_by-cons}
use Rattle.cyc_types.specs.Series.{due, next}
use Rattle.cyc_types.specs.Timers.{Timer, HasDistinctIds}
use Rattle.cyc_types.specs.Expirations.{Expiration, expirations, times_of, after_expirations, all_after}
use Rattle.cyc_types.proofs.Laws.{times_expirations, moment_next, count_due}
use Rattle.cyc_timers.specs.Rows.{Cyclic, timers}
use Rattle.cyc_system_laws.proofs.Spots.{none_some}

-- a sum over lists whose elements are measured alike
pub sums_into : {A : Type 0} (f g : A → ℕ) (xs ys : List A) → length ys ≡ length xs
    → ((n : ℕ) (x y : A) → slice_get xs n ≡ Some x → slice_get ys n ≡ Some y → f y ≡ g x) → sum_by f ys ≡ sum_by g xs
sums_into f g [] [] e each = refl
sums_into f g [] (y ∷ ys) e each = absurd (omega (arith, e))
sums_into f g (x ∷ xs) [] e each = absurd (omega (arith, e))
sums_into f g (x ∷ xs) (y ∷ ys) e each =
    let a = sum_by-cons f y ys in let b = sum_by-cons g x xs in let c = each 0 x y refl refl in
    let d = sums_into f g xs ys (omega (arith, e)) (λ n p q. each (suc n) p q) in omega (arith, a, b, c, d)

sum_timers : (h : Timer → ℕ) (cs : List Cyclic) → sum_by (λ (c : Cyclic). h c.timer) cs ≡ sum_by h (timers cs)
sum_timers h [] = refl
sum_timers h (c ∷ cs) = let a = sum_by-cons (λ (c : Cyclic). h c.timer) c cs in let b = sum_by-cons h c.timer (timers cs) in
    let d = sum_timers h cs in omega (arith, a, b, d)

sum_mapped : (h g : Timer → ℕ) (f : Timer → Timer) (ts : List Timer)
    → ((i : ℕ) (d : Timer) → i < length ts → h (f (get_or ts i d)) ≡ g (get_or ts i d)) → sum_by h (map f ts) ≡ sum_by g ts
sum_mapped h g f [] each = refl
sum_mapped h g f (t ∷ ts) each =
    let a = sum_by-cons h (f t) (map f ts) in let b = sum_by-cons g t ts in let c = each 0 t (omega arith) in
    let d = sum_mapped h g f ts (λ i d low. each (suc i) d (omega (arith, low))) in omega (arith, a, b, c, d)

module _ (id : ℕ) where
  -- a measure of the timers of the id, by next expiration, interval and count
  abbrev pub weigh : (ℕ → ℕ → ℕ → ℕ) → Timer → ℕ
  weigh k t = cond (t.id == id) (k t.moment t.interval t.expired) 0

  -- what it is after a whole fire
  abbrev pub later : ℕ → (ℕ → ℕ → ℕ → ℕ) → ℕ → ℕ → ℕ → ℕ
  later now k moment interval expired = k (next moment interval now) interval (expired + due moment interval now)

  one_later : (now : ℕ) (k : ℕ → ℕ → ℕ → ℕ) (made : List Expiration) (t : Timer)
      → times_of t.id made ≡ due t.moment t.interval now → weigh k (after_expirations now made t) ≡ weigh (later now k) t
  unfolding after_expirations
  one_later now k made t times =
      let m = moment_next now made t times in let c = count_due now made t times in
      λ i. cond (t.id == id) (k (m i) t.interval (c i)) 0

  pub fired_later : (now : ℕ) (k : ℕ → ℕ → ℕ → ℕ) (cs cs' : List Cyclic) → HasDistinctIds (timers cs)
      → timers cs' ≡ all_after now (expirations now (timers cs)) (timers cs)
      → sum_by (λ (c : Cyclic). weigh k c.timer) cs' ≡ sum_by (λ (c : Cyclic). weigh (later now k) c.timer) cs
  unfolding all_after
  fired_later now k cs cs' distinct are =
      let made = expirations now (timers cs) in
      sum_timers (weigh k) cs' ∙ (ap (sum_by (weigh k)) are
      ∙ (sum_mapped (weigh k) (weigh (later now k)) (after_expirations now made) (timers cs)
      (λ i d low. one_later now k made (get_or (timers cs) i d) (times_expirations now (timers cs) i d distinct low))
      ∙ sym (sum_timers (weigh (later now k)) cs)))

  pub none_weigh : (k : ℕ → ℕ → ℕ → ℕ) (cs : List Cyclic) → find (λ (c : Cyclic). c.timer.id == id) cs ≡ None
      → sum_by (λ (c : Cyclic). weigh k c.timer) cs ≡ 0
  none_weigh k [] e = refl
  none_weigh k (c ∷ cs) e = by (c.timer.id == id) refl e (none_weigh k cs)
    where
      by : (b : Bool) → (c.timer.id == id) ≡ b → cond b (Some c) (find (λ (c : Cyclic). c.timer.id == id) cs) ≡ None
          → (find (λ (c : Cyclic). c.timer.id == id) cs ≡ None → sum_by (λ (c : Cyclic). weigh k c.timer) cs ≡ 0)
          → sum_by (λ (c : Cyclic). weigh k c.timer) (c ∷ cs) ≡ 0
      by true is e rest = absurd (none_some (sym e))
      by false is e rest = let a = sum_by-cons (λ (c : Cyclic). weigh k c.timer) c cs in let b = rest e in
          let d = ap (λ (b : Bool). cond b (k c.timer.moment c.timer.interval c.timer.expired) 0) is in omega (arith, a, b, d)
