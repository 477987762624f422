-- What a fire adds to the counts of each id.
use Rattle.std.proofs.Common.{◌≡◌, ◌≢◌, ℕ, suc, zero, ◌+◌, ◌<◌, ◌==◌, Bool, true, false, cond, List, [], ◌∷◌, map, length, get_or}
use Rattle.std.proofs.Common.{Option, Some, None, refl, sym, ap, ◌∙◌, arith, sum_by}
use Rattle.std.proofs.lemmas.Bool.Decides.{nat_tests}
use Rattle.std.proofs.lemmas.List.Sums.{sum_by-cons}
use Rattle.cyc_types.specs.Firing.{FiringCall}
use Rattle.cyc_types.specs.Runs.{lost_by, raised_by}
use Rattle.cyc_types.specs.declared.level.Level.{Level}
use Rattle.cyc_types.specs.declared.level.Level.TheVariants.{Low, Lock, High}
use Rattle.cyc_types.proofs.Runs.{lost_few}
use Rattle.cyc_types.specs.Timers.{Timer, HasDistinctIds}
use Rattle.cyc_types.specs.Expirations.{Expiration, times_of, after_expirations, all_after}
use Rattle.cyc_cpu.specs.Rows.{Cyclic, timers}
use Rattle.cyc_cpu.specs.Acts.{timer_of, is_of_level, same_level, lost_after}
use Rattle.cyc_cpu.specs.Cpu.{HasNoCyclic}
use Rattle.cyc_cpu.specs.Shares.{share}
use Rattle.cyc_cpu.specs.Carried.{expired_of, lost_of}

-- the shares of an id at all levels
abbrev pub shares : List Timer → List Expiration → ℕ → ℕ
shares ts made id = share Lock ts made id + share Low ts made id + share High ts made id

abbrev expired_in : ℕ → Timer → ℕ
expired_in id t = cond (t.id == id) t.expired 0

abbrev timers_expired : ℕ → List Timer → ℕ
timers_expired id ts = sum_by (expired_in id) ts

expired_timers : (id : ℕ) (cs : List Cyclic) → expired_of id cs ≡ timers_expired id (timers cs)
expired_timers id [] = refl
expired_timers id (c ∷ cs) =
    let a = sum_by-cons (λ (c : Cyclic). cond (c.timer.id == id) c.timer.expired 0) c cs in
    let b = sum_by-cons (expired_in id) c.timer (timers cs) in
    let r = expired_timers id cs in omega (arith, a, b, r)

-- at one level exactly
one_level : (own : Level) (n : ℕ) →
    cond (same_level Lock own) n 0 + cond (same_level Low own) n 0 + cond (same_level High own) n 0 ≡ n
one_level Low n = omega arith
one_level Lock n = omega arith
one_level High n = omega arith

-- an id of no timer
abbrev IsAway : ℕ → List Timer → Type 0
IsAway id ts = (k : ℕ) (d : Timer) → k < length ts → (get_or ts k d).id ≢ id

no_timer : (id : ℕ) (ts : List Timer) → IsAway id ts → (timer_of id ts ≡ None) × (timers_expired id ts ≡ 0)
no_timer id [] away = (refl, refl)
no_timer id (t ∷ ts) away =
    let ne : t.id ≢ id = away 0 t (omega arith) in
    let no : (t.id == id) ≡ false = grind (arith, nat_tests) in
    let r = no_timer id ts (λ k d low. away (suc k) d (omega (arith, low))) in
    let a = sum_by-cons (expired_in id) t ts in
    let b = ap (λ (b : Bool). cond b t.expired 0) no in
    let n = r.1 in
    (ap (λ (b : Bool). cond b (Some t) (timer_of id ts)) no ∙ r.0, omega (arith, a, b, n))

pub no_share : (level : Level) (id : ℕ) (ts : List Timer) (made : List Expiration) → timer_of id ts ≡ None →
    share level ts made id ≡ 0
no_share level id ts made none = ap (λ o. cond (is_of_level level o) (times_of id made) 0) none

no_shares : (id : ℕ) (ts : List Timer) (made : List Expiration) → timer_of id ts ≡ None → shares ts made id ≡ 0
no_shares id ts made none =
    let a = no_share Lock id ts made none in let b = no_share Low id ts made none in let c = no_share High id ts made none in
    omega (arith, a, b, c)

no_lost : (id : ℕ) (cs : List Cyclic) → IsAway id (timers cs) → lost_of id cs ≡ 0
no_lost id [] away = refl
no_lost id (c ∷ cs) away =
    let ne : c.timer.id ≢ id = away 0 c.timer (omega arith) in
    let no : (c.timer.id == id) ≡ false = grind (arith, nat_tests) in
    let r = no_lost id cs (λ k d low. away (suc k) d (omega (arith, low))) in
    let a = sum_by-cons (λ (c : Cyclic). cond (c.timer.id == id) c.lost 0) c cs in
    let b = ap (λ (b : Bool). cond b c.lost 0) no in omega (arith, a, b, r)

tail_distinct : (t : Timer) (ts : List Timer) → HasDistinctIds (t ∷ ts) → HasDistinctIds ts
tail_distinct t ts distinct i j d low_i low_j same = let e : suc i ≡ suc j = distinct (suc i) (suc j) d (omega (arith, low_i))
    (omega (arith, low_j)) same in omega (arith, e)

head_away : (t : Timer) (ts : List Timer) (id : ℕ) → HasDistinctIds (t ∷ ts) → t.id ≡ id → IsAway id ts
head_away t ts id distinct is k d low same = let e : suc k ≡ zero = distinct (suc k) 0 d (omega (arith, low)) (omega arith)
    (same ∙ sym is) in absurd (omega (arith, e))

-- the cyclic's own share, or none
share_head : (level : Level) (id : ℕ) (t : Timer) (ts : List Timer) (made : List Expiration) (b : Bool) → (t.id == id) ≡ b →
    share level (t ∷ ts) made id ≡ cond b (cond (same_level level t.level) (times_of id made) 0) (share level ts made id)
share_head level id t ts made true is = ap (λ (b : Bool). cond (is_of_level level (cond b (Some t) (timer_of id ts)))
    (times_of id made) 0) is
share_head level id t ts made false is = ap (λ (b : Bool). cond (is_of_level level (cond b (Some t) (timer_of id ts)))
    (times_of id made) 0) is

fired_timers : (id now : ℕ) (made : List Expiration) (ts : List Timer) → HasDistinctIds ts →
    timers_expired id (map (after_expirations now made) ts) ≡ timers_expired id ts + shares ts made id
unfolding after_expirations
fired_timers id now made [] distinct = refl
fired_timers id now made (t ∷ ts) distinct = at (t.id == id) refl (fired_timers id now made ts (tail_distinct t ts distinct))
  where
    at : (b : Bool) → (t.id == id) ≡ b → timers_expired id (map (after_expirations now made) ts) ≡ timers_expired id ts +
        shares ts made id →
        timers_expired id (map (after_expirations now made) (t ∷ ts)) ≡ timers_expired id (t ∷ ts) + shares (t ∷ ts) made id
    at true is rest =
        let same : t.id ≡ id = grind (arith, nat_tests) in
        let a = sum_by-cons (expired_in id) (after_expirations now made t) (map (after_expirations now made) ts) in
        let b = sum_by-cons (expired_in id) t ts in
        let c = ap (λ (b : Bool). cond b (t.expired + times_of t.id made) 0) is in
        let d = ap (λ (b : Bool). cond b t.expired 0) is in
        let e = ap (λ (j : ℕ). times_of j made) same in
        let x = share_head Lock id t ts made true is in let y = share_head Low id t ts made true is in
        let z = share_head High id t ts made true is in
        let o = one_level t.level (times_of id made) in
        let n = no_timer id ts (head_away t ts id distinct same) in
        let n1 = n.1 in let n2 = no_shares id ts made n.0 in
        omega (arith, a, b, c, d, e, x, y, z, o, n1, n2, rest)
    at false is rest =
        let a = sum_by-cons (expired_in id) (after_expirations now made t) (map (after_expirations now made) ts) in
        let b = sum_by-cons (expired_in id) t ts in
        let c = ap (λ (b : Bool). cond b (t.expired + times_of t.id made) 0) is in
        let d = ap (λ (b : Bool). cond b t.expired 0) is in
        let x = share_head Lock id t ts made false is in let y = share_head Low id t ts made false is in
        let z = share_head High id t ts made false is in
        omega (arith, a, b, c, d, x, y, z, rest)

-- the expirations that a CPU has of an id grow by the shares
pub fired_expired : (id now : ℕ) (made : List Expiration) (cs cs' : List Cyclic) → HasDistinctIds (timers cs) →
    timers cs' ≡ all_after now made (timers cs) →
    expired_of id cs' ≡ expired_of id cs + shares (timers cs) made id
unfolding all_after
fired_expired id now made cs cs' distinct are =
    let a = expired_timers id cs' in let b = expired_timers id cs in let c = ap (timers_expired id) are in
    let d = fired_timers id now made (timers cs) distinct in omega (arith, a, b, c, d)

-- so much, where there is a timer
abbrev where_some : Option Timer → ℕ → ℕ
where_some None n = 0
where_some (Some t) n = n

abbrev rest_of : {A : Type 0} → List A → List A
rest_of [] = []
rest_of (x ∷ xs) = xs

module _ (id now : ℕ) (made : List Expiration) (lock_way low_way : List FiringCall) where
  abbrev lost_then : Cyclic → ℕ
  lost_then c = lost_after lock_way low_way c.timer.id c.lost

  abbrev lost_own : Cyclic → ℕ
  lost_own c = cond (c.timer.id == id) c.lost 0

  lost_pairs : (cs cs' : List Cyclic) → HasDistinctIds (timers cs) → timers cs' ≡ map (after_expirations now made) (timers cs) →
      map (λ (c : Cyclic). c.lost) cs' ≡ map lost_then cs →
      lost_of id cs' ≡ lost_of id cs + where_some (timer_of id (timers cs)) (lost_by id lock_way + lost_by id low_way)
  unfolding after_expirations
  lost_pairs [] [] distinct are losses = refl
  lost_pairs [] (d ∷ cs') distinct are losses = let l : length (d.timer ∷ timers cs') ≡ 0 = ap length are in
      absurd (omega (arith, l))
  lost_pairs (c ∷ cs) [] distinct are losses = let l : 0 ≡ length (after_expirations now made c.timer ∷ map (after_expirations
      now made)
      (timers cs)) = ap length are in absurd (omega (arith, l))
  lost_pairs (c ∷ cs) (d ∷ cs') distinct are losses =
      at (c.timer.id == id) refl (lost_pairs cs cs' (tail_distinct c.timer (timers cs) distinct) (ap rest_of are)
      (ap rest_of losses))
    where
      named : d.timer.id ≡ c.timer.id
      named = ap (λ (xs : List Timer). (get_or xs 0 c.timer).id) are

      grown : d.lost ≡ lost_then c
      grown = ap (λ (xs : List ℕ). get_or xs 0 0) losses

      at : (b : Bool) → (c.timer.id == id) ≡ b → lost_of id cs' ≡ lost_of id cs + where_some (timer_of id (timers cs))
          (lost_by id lock_way + lost_by id low_way) →
          lost_of id (d ∷ cs') ≡ lost_of id (c ∷ cs) + where_some (timer_of id (timers (c ∷ cs)))
          (lost_by id lock_way + lost_by id low_way)
      at true is rest =
          let same : c.timer.id ≡ id = grind (arith, nat_tests) in
          let a = sum_by-cons lost_own d cs' in
          let b = sum_by-cons lost_own c cs in
          let x = ap (λ (j : ℕ). cond (j == id) d.lost 0) named ∙ ap (λ (b : Bool). cond b d.lost 0) is in
          let y = ap (λ (b : Bool). cond b c.lost 0) is in
          let g = grown ∙ ap (λ (j : ℕ). lost_after lock_way low_way j c.lost) same in
          let t = ap (λ (b : Bool). where_some (cond b (Some c.timer) (timer_of id (timers cs)))
          (lost_by id lock_way + lost_by id low_way)) is in
          let away = head_away c.timer (timers cs) id distinct same in
          let n = no_lost id cs away in
          let m = ap (λ o. where_some o (lost_by id lock_way + lost_by id low_way)) (no_timer id (timers cs) away).0 in
          omega (arith, a, b, x, y, g, t, n, m, rest)
      at false is rest =
          let a = sum_by-cons lost_own d cs' in
          let b = sum_by-cons lost_own c cs in
          let x = ap (λ (j : ℕ). cond (j == id) d.lost 0) named ∙ ap (λ (b : Bool). cond b d.lost 0) is in
          let y = ap (λ (b : Bool). cond b c.lost 0) is in
          let t = ap (λ (b : Bool). where_some (cond b (Some c.timer) (timer_of id (timers cs)))
          (lost_by id lock_way + lost_by id low_way)) is in
          omega (arith, a, b, x, y, t, rest)

-- where no timer has the id it was not raised, and lost nothing
where_raised : (o : Option Timer) (id : ℕ) (lock_way low_way : List FiringCall) →
    (o ≡ None → (raised_by id lock_way ≡ 0) × (raised_by id low_way ≡ 0)) →
    where_some o (lost_by id lock_way + lost_by id low_way) ≡ lost_by id lock_way + lost_by id low_way
where_raised (Some t) id lock_way low_way none = refl
where_raised None id lock_way low_way none =
    let n = none refl in let n0 = n.0 in let n1 = n.1 in let x = lost_few id lock_way in let y = lost_few id low_way in
    omega (arith, n0, n1, x, y)

-- the losses that a CPU has of an id grow by those of its raises
pub fired_lost : (id now : ℕ) (made : List Expiration) (lock_way low_way : List FiringCall) (cs cs' : List Cyclic) →
    HasDistinctIds (timers cs) → timers cs' ≡ all_after now made (timers cs) →
    map (λ (c : Cyclic). c.lost) cs' ≡ map (λ (c : Cyclic). lost_after lock_way low_way c.timer.id c.lost) cs →
    raised_by id lock_way ≡ share Lock (timers cs) made id → raised_by id low_way ≡ share Low (timers cs) made id →
    lost_of id cs' ≡ lost_of id cs + (lost_by id lock_way + lost_by id low_way)
unfolding all_after
fired_lost id now made lock_way low_way cs cs' distinct are losses lock low =
    let a = lost_pairs id now made lock_way low_way cs cs' distinct are losses in
    let b = where_raised (timer_of id (timers cs)) id lock_way low_way (λ none. (
      lock ∙ no_share Lock id (timers cs) made none,
      low ∙ no_share Low id (timers cs) made none,
    )) in
    omega (arith, a, b)

-- an id of no cyclic has no timer
pub no_cyclic : (id : ℕ) (cs : List Cyclic) → HasNoCyclic id cs → timer_of id (timers cs) ≡ None
no_cyclic id [] none = refl
no_cyclic id (c ∷ cs) none =
    let ne : c.timer.id ≢ id = none 0 c (omega arith) in
    let no : (c.timer.id == id) ≡ false = grind (arith, nat_tests) in
    ap (λ (b : Bool). cond b (Some c.timer) (timer_of id (timers cs))) no
    ∙ no_cyclic id cs (λ k d low. none (suc k) d (omega (arith, low)))

same_ids : (id now : ℕ) (made : List Expiration) (ts : List Timer) → timer_of id ts ≡ None →
    timer_of id (map (after_expirations now made) ts) ≡ None
unfolding after_expirations
same_ids id now made [] none = refl
same_ids id now made (t ∷ ts) none = at (t.id == id) refl (same_ids id now made ts)
  where
    at : (b : Bool) → (t.id == id) ≡ b → (timer_of id ts ≡ None → timer_of id (map (after_expirations now made) ts) ≡ None) →
        timer_of id (map (after_expirations now made) (t ∷ ts)) ≡ None
    at true is rest = (let found = ap (λ (b : Bool). cond b (Some t) (timer_of id ts)) is in
        let wrong : Some t ≡ None = sym found ∙ none in absurd (cc))
    at false is rest =
        (let skip = ap (λ (b : Bool). cond b (Some t) (timer_of id ts)) is in
        ap (λ (b : Bool). cond b (Some (after_expirations now made t)) (timer_of id (map (after_expirations now made) ts))) is
        ∙ rest (sym skip ∙ none))

cyclic_none : (id : ℕ) (cs : List Cyclic) → timer_of id (timers cs) ≡ None → HasNoCyclic id cs
cyclic_none id [] none k d low same = absurd (omega (arith, low))
cyclic_none id (c ∷ cs) none k d low same = at (c.timer.id == id) refl k low same (λ e j less is. cyclic_none id cs e j d less is)
  where
    at : (b : Bool) → (c.timer.id == id) ≡ b → (k : ℕ) → k < length (c ∷ cs) → (get_or (c ∷ cs) k d).timer.id ≡ id →
        (timer_of id (timers cs) ≡ None → (j : ℕ) → j < length cs → (get_or cs j d).timer.id ≡ id → ⊥) → ⊥
    at true is k low same rest = (let found = ap (λ (b : Bool). cond b (Some c.timer) (timer_of id (timers cs))) is in
        let wrong : Some c.timer ≡ None = sym found ∙ none in cc)
    at false is zero low same rest = (let yes : (c.timer.id == id) ≡ true = grind (arith, nat_tests) in
        let wrong : true ≡ false = sym yes ∙ is in cc)
    at false is (suc k) low same rest = (let skip = ap (λ (b : Bool). cond b (Some c.timer) (timer_of id (timers cs))) is in
        rest (sym skip ∙ none) k (omega (arith, low)) same)

-- a fire brings in no id
pub fired_away : (id now : ℕ) (made : List Expiration) (cs cs' : List Cyclic) → timers cs' ≡ all_after now made (timers cs) →
    HasNoCyclic id cs → HasNoCyclic id cs'
unfolding all_after
fired_away id now made cs cs' are none = cyclic_none id cs' (ap (timer_of id) are ∙ same_ids id now made (timers cs)
    (no_cyclic id cs none))
