-- One turn of a fire: what holds before it holds after it.
use Rattle.std.proofs.Common.{◌≡◌, ℕ, zero, suc, ◌+◌, ◌<◌, ◌≤◌, true, Option, Some, List, [], ◌∷◌, ◌++◌, All, refl, sym, ap, ◌∙◌}
use Rattle.std.proofs.Common.{subst, arith, length, get_or, map, inl, inr, length-append}
use Rattle.std.proofs.Math.ListN.{set}
use Rattle.std.proofs.lemmas.Bool.{cases_eq}
use Rattle.std.proofs.lemmas.Bool.Decides.{nat_tests}
use Rattle.std.proofs.lemmas.List.{length-set, length-map, get_or-set_same, get_or-set_other, get_or_default, get_or-map, map-set}
use Rattle.std.proofs.lemmas.List.Elements.{All-set}
use Rattle.cyc_types.specs.Series.{due, next, never}
use Rattle.cyc_types.specs.declared.Raise.{Ghosts as Raise}
use Rattle.cyc_types.specs.Firing.{Sound}
use Rattle.cyc_types.specs.declared.level.Level.{Level}
use Rattle.cyc_types.specs.declared.level.Level.TheVariants.{Low, Lock, High}
use Rattle.cyc_types.specs.Expirations.{Expiration, expirations, next_of, is_before}
use Rattle.cyc_types.specs.Timers.{Timer, IsSoundTimer}
use Rattle.cyc_types.proofs.Firings.{Firing, Expires, fire_step, fire_left, fire_front}
use Rattle.cyc_timers.specs.declared.table.Record.{Record}
use Rattle.cyc_timers.specs.Rows.{Row, Cyclic, IsRow, IsRising, IsRecordOf, IsFirstAt, timers, timers_of, cyclic_of, cyclics_of}
use Rattle.cyc_timers.specs.Rows.{with_counts}
use Rattle.cyc_timers.specs.Acts.{Sides, way_losses, lost_after, timer_of, acting}
use Rattle.cyc_timers.specs.Ends.{IsEnd, IsReady, lock_and_low}
use Rattle.cyc_timers.specs.Made.{Makes, fire_state}
use Rattle.cyc_timers.proofs.Sparing.{none_high}
use Rattle.cyc_timers.proofs.Acting.{One, acts_more, losses_on}
use Rattle.cyc_timers.proofs.Readying.{Advances, ids_apart, end_raised, end_other, counted_still}
use Rattle.cyc_timers.proofs.Making.{raised_edits, same_end, losses_same, losses_other, distinct, origin, found_at, same_id}
use Rattle.cyc_timers.proofs.Making.{ids_more, losses_more, length-all}
use Rattle.cyc_timers.proofs.Tables.{timer_of_row, timers_long}

-- what the expiration after one that is due is
pub record Following (moment interval now m : ℕ) : Type 0 where
  pub due_is : due moment interval now ≡ 1 + due m interval now
  pub next_is : next moment interval now ≡ next m interval now
  pub follows : 0 < due m interval now → m ≡ moment + interval
  pub later : moment ≤ m
  pub bound : m ≤ never

-- a row after one of its expirations
abbrev pub row_after : Row → ℕ → ℕ → Row
row_after r m n = record {
  timer = record {
    id = r.timer.id;
    level = r.timer.level;
    interval = r.timer.interval;
    moment =
        m;
    expired = r.timer.expired + 1;
  };
  lost = r.lost + n;
  carried = r.carried;
  index = r.index;
}

pub advances : (r : Row) (m n : ℕ) → Advances r (row_after r m n) n
advances r m n = record { id = refl; level = refl; index = refl; expired = refl; lost = refl; carried = refl }

-- the row that the code writes
pub written : (r : Row) (m n : ℕ) (kept : Record) → IsRecordOf kept r
    → with_counts m (kept.expired + 1) (kept.lost + n) r ≡ row_after r m n
written r m n kept (level, interval, expired, lost, carried) =
    λ j. record {
      timer = record {
        id = r.timer.id;
        level = r.timer.level;
        interval = r.timer.interval;
        moment = m;
        expired =
            expired j + 1;
      };
      lost = lost j + n;
      carried = r.carried;
      index = r.index;
    }

expires : (now : ℕ) (r : Row) (m n : ℕ) → Following r.timer.moment r.timer.interval now m
    → Expires now r.timer (row_after r m n).timer
expires now r m n f = record {
  same_id = refl;
  same_level = refl;
  same_interval = refl;
  count = refl;
  step = f.due_is;
  as_next =
      f.next_is;
  follows = f.follows;
  later = f.later;
}

pub timers_set : (rows : List Row) (i : ℕ) (u : Row) → timers_of (set rows i u) ≡ set (timers_of rows) i u.timer
timers_set rows i u = ap timers (map-set cyclic_of rows i u) ∙ map-set (λ (c : Cyclic). c.timer) (cyclics_of rows) i (cyclic_of u)

-- the timer of a row
pub timer_is : (rows : List Row) (i : ℕ) (r : Row) → IsRow rows i r → r.timer ≡ get_or (timers_of rows) i r.timer
timer_is rows i r is = sym (timer_of_row rows i r.timer r is.0 ∙ ap (λ (x : Row). x.timer) is.1)

pub timer_low : (rows : List Row) (i : ℕ) (r : Row) → IsRow rows i r → i < length (timers_of rows)
timer_low rows i r is = (let l = timers_long rows in let a = is.0 in omega (arith, l, a))

-- what the cyclics carried in, after a change of one row that leaves it
carried_set : (rows : List Row) (i : ℕ) (r u : Row) → IsRow rows i r → u.carried ≡ r.carried
    → map (λ (c : Cyclic). c.carried) (cyclics_of (set rows i u)) ≡ map (λ (c : Cyclic). c.carried) (cyclics_of rows)
carried_set [] i r u is same = absurd (let a = is.0 in omega (arith, a))
carried_set (x ∷ rows) zero r u is same =
    (λ j. (same ∙ ap (λ (y : Row). y.carried) (sym is.1)) j ∷ map (λ (c : Cyclic). c.carried) (cyclics_of rows))
carried_set (x ∷ rows) (suc i) r u is same =
    (let rest = carried_set rows i r u ((let a = is.0 in omega (arith, a)), is.1) same in λ j. x.carried ∷ rest j)

rising_set : (rows : List Row) (i : ℕ) (r u : Row) → IsRow rows i r → u.timer.id ≡ r.timer.id → IsRising rows
    → IsRising (set rows i u)
rising_set rows i r u is same rising j k d less low =
    let l = length-set rows i u in
    let low_k : k < length rows = omega (arith, l, low) in
    let a = id_at_position j (omega (arith, less, low_k)) in
    let b = id_at_position k low_k in
    let h = rising j k d less low_k in
    omega (arith, a, b, h)
  where
    id_at_position : (x : ℕ) → x < length rows → (get_or (set rows i u) x d).timer.id ≡ (get_or rows x d).timer.id
    id_at_position x low_x = elim (cases_eq x i) [
      | inl eq ↦ ap (λ n. (get_or (set rows i u) n d).timer.id) eq
          ∙ ap (λ (y : Row). y.timer.id) (get_or-set_same rows i u d is.0) ∙ same
          ∙ ap (λ (y : Row). y.timer.id) (sym (ap (λ n. get_or rows n d) eq ∙ get_or_default rows i d r is.0 ∙ is.1))
      | inr ne ↦ ap (λ (y : Row). y.timer.id) (get_or-set_other rows i x u d ne)
    ]

module _ {C R : Type 0} (called : C → ℕ → C → Type 0) (count : C → ℕ → ℕ) (firing : Raise R) where
  -- what holds of a fire that has made these expirations
  pub record Turns (now size most : ℕ) (lock_marked low_marked : Option ℕ) (rows0 : List Row) (s0 : Sides C R)
      (made : List Expiration) (rows : List Row) (s : Sides C R) (lost : ℕ) : Type 0 where
    pub rising : IsRising rows
    pub sound : All IsSoundTimer (timers_of rows)
    pub ready : IsReady firing.view size most (lock_and_low lock_marked low_marked) (lock_and_low s.lock s.low) rows
    pub fires : Firing now made (timers_of rows0) (timers_of rows)
    pub makes : Makes (acting called count firing) now made (fire_state (cyclics_of rows0) s0)
        (fire_state (cyclics_of rows) s) lost
    pub few : lost ≤ length made

  pub makes_none : (now : ℕ) (cs : List Cyclic) (s : Sides C R) → Firing now [] (timers cs) (timers cs)
      → Makes (acting called count firing) now [] (fire_state cs s)
      (fire_state cs s) 0
  makes_none now cs s f = record {
    acts = record {
      lock_way = [];
      low_way = [];
      called_in_order = refl;
      counted = λ id. omega arith;
      lock_goes = refl;
      low_goes =
          refl;
      lock_raises = tt;
      low_raises = tt;
    };
    timers_are = f.is;
    carried_are = refl;
    losses_are = same cs;
    lost_is = omega arith;
  }
    where
      same : (cs : List Cyclic) → map (λ c. c.lost) cs ≡ map (λ c. lost_after [] [] c.timer.id c.lost) cs
      same [] = refl
      same (c ∷ cs) = (let e : c.lost ≡ c.lost + 0 + 0 = omega arith in let rest = same cs in λ j. e j ∷ rest j)

  lock_step : (l : Level) (size n : ℕ) (marked : Option ℕ) (rows : List Row) (i : ℕ) (r u : Row) (s s' : Sides C R)
      → r.timer.level ≡ l → (o : One called count firing l r.timer.id s s' n) →
      IsEnd Lock size marked (firing.view s.lock) rows → IsRising rows → IsRow rows i r → Advances r u n → r.timer.moment < never
      → (Sound (firing.view s.lock) → Sound (firing.view s'.lock)) →
      IsEnd Lock size marked (firing.view s'.lock) (set rows i u)
  lock_step High size n marked rows i r u s s' at (a, is) ready rising is_r adv soon sound =
      subst (λ x. IsEnd Lock size marked (firing.view x) (set rows i u))
      (sym (same_end firing s.lock s'.lock a.lock_way a.lock_raises a.lock_goes).0)
      (end_other Lock size marked (firing.view s.lock) rows i r u n ready rising is_r adv soon (λ q. let no : ⊥ = cc in no))
  lock_step Low size n marked rows i r u s s' at (a, is) ready rising is_r adv soon sound =
      subst (λ x. IsEnd Lock size marked (firing.view x) (set rows i u))
      (sym (same_end firing s.lock s'.lock a.lock_way a.lock_raises a.lock_goes).0)
      (end_other Lock size marked (firing.view s.lock) rows i r u n ready rising is_r adv soon (λ q. let no : ⊥ = cc in no))
  lock_step Lock size n marked rows i r u s s' at (a, is) ready rising is_r adv soon sound =
      let none = (same_end firing s.low s'.low a.low_way a.low_raises a.low_goes).1 in
      end_raised Lock size marked (firing.view s.lock) rows i r u n ready rising is_r adv soon (firing.view s'.lock)
      (raised_edits firing r.timer.id s.lock s'.lock a.lock_way n a.lock_raises a.lock_goes (omega (arith, is, none))) at
      (sound ready.sound)

  low_step : (l : Level) (size n : ℕ) (marked : Option ℕ) (rows : List Row) (i : ℕ) (r u : Row) (s s' : Sides C R)
      → r.timer.level ≡ l → (o : One called count firing l r.timer.id s s' n) →
      IsEnd Low size marked (firing.view s.low) rows → IsRising rows → IsRow rows i r → Advances r u n → r.timer.moment < never
      → (Sound (firing.view s.low) → Sound (firing.view s'.low)) →
      IsEnd Low size marked (firing.view s'.low) (set rows i u)
  low_step High size n marked rows i r u s s' at (a, is) ready rising is_r adv soon sound =
      subst (λ x. IsEnd Low size marked (firing.view x) (set rows i u))
      (sym (same_end firing s.low s'.low a.low_way a.low_raises a.low_goes).0)
      (end_other Low size marked (firing.view s.low) rows i r u n ready rising is_r adv soon (λ q. let no : ⊥ = cc in no))
  low_step Lock size n marked rows i r u s s' at (a, is) ready rising is_r adv soon sound =
      subst (λ x. IsEnd Low size marked (firing.view x) (set rows i u))
      (sym (same_end firing s.low s'.low a.low_way a.low_raises a.low_goes).0)
      (end_other Low size marked (firing.view s.low) rows i r u n ready rising is_r adv soon (λ q. let no : ⊥ = cc in no))
  low_step Low size n marked rows i r u s s' at (a, is) ready rising is_r adv soon sound =
      let none = (same_end firing s.lock s'.lock a.lock_way a.lock_raises a.lock_goes).1 in
      end_raised Low size marked (firing.view s.low) rows i r u n ready rising is_r adv soon (firing.view s'.low)
      (raised_edits firing r.timer.id s.low s'.low a.low_way n a.low_raises a.low_goes (omega (arith, is, none))) at
      (sound ready.sound)

  -- one turn
  pub turn : (now size most : ℕ) (lock_marked low_marked : Option ℕ) (rows0 : List Row) (s0 : Sides C R) (made : List Expiration)
      (rows : List Row) (s s' : Sides C R) (lost n m i : ℕ) (r : Row) →
      Turns now size most lock_marked low_marked rows0 s0 made rows s lost → IsRising rows0 → IsRow rows i r → IsFirstAt rows i
      → r.timer.moment ≤ now → now < never → r.timer.expired < most →
      Following r.timer.moment r.timer.interval now m → (o : One called count firing r.timer.level r.timer.id s s' n) → n ≤ 1 →
      (Sound (firing.view s.lock) → Sound (firing.view s'.lock)) → (Sound (firing.view s.low) → Sound (firing.view s'.low)) →
      Turns now size most lock_marked low_marked rows0 s0 (made ++ next_of r.timer ∷ []) (set rows i (row_after r m n)) s'
      (lost + n)
  turn now size most lock_marked low_marked rows0 s0 made rows s s' lost n m i r t rising0 is first reached last less f o one
      sound_lock sound_low =
      let u = row_after r m n in
      let ts = timers_of rows0 in
      let adv = advances r m n in
      let soon : r.timer.moment < never = omega (arith, reached, last) in
      let low = timer_low rows i r is in
      let timer = timer_is rows i r is in
      let old_sound = subst IsSoundTimer (sym timer) (t.sound i r.timer low) in
      let new_timers = timers_set rows i u in
      let fires' = subst (λ xs. Firing now (made ++ next_of r.timer ∷ []) ts xs) (sym new_timers)
      (fire_step now made ts (timers_of rows) i r.timer u.timer t.fires (distinct rows0 rising0) low timer first
      (expires now r m n f)) in
      let (origin_timer, found, level) = origin now made ts (timers_of rows) i r.timer t.fires (distinct rows0 rising0) low timer
      in
      let p = next_of r.timer in
      let (c, e1, e2) = acts_more called count firing _ _ _ _ _ _ _ _ _ s0 s s' t.makes.acts o.0
      (ids_more High ts made p origin_timer r.timer.level found level)
      (ids_more Lock ts made p origin_timer r.timer.level found level)
      (ids_more Low ts made p origin_timer r.timer.level found level) in
      let losts = losses_more t.makes.acts.lock_way t.makes.acts.low_way o.0.lock_way o.0.low_way
      (cyclics_of rows0) rows i r u r.timer.id n is refl refl
      (λ j d e low_j.
      let l = timers_long rows in
      let a = same_id now made ts (timers_of rows) j d.timer t.fires.is (omega (arith, l, low_j)) in
      let b = ap (λ (x : Timer). x.id) (timer_of_row rows j d.timer e low_j) in
      let long : length (timers_of rows) ≡ length ts = ap length t.fires.is ∙ length-all now made ts in
      let k = length-map (cyclics_of rows0) (λ (x : Cyclic). x.timer) in
      let g = ap (λ (x : Timer). x.id) (get_or-map (λ (x : Cyclic). x.timer) (cyclics_of rows0) j d d.timer
      (omega (arith, l, low_j, long, k))) in
      sym g ∙ sym a ∙ b)
      (λ j e low_j ne q. ids_apart rows i j r (get_or rows j e) t.rising is
      (low_j, get_or_default rows j (get_or rows j e) e low_j) ne q)
      (let x = losses_same _ r.timer.id o.0.lock_way o.0.lock_raises in let y =
      losses_same _ r.timer.id o.0.low_way o.0.low_raises in let z = o.1 in omega (arith, x, y, z))
      (λ q ne. (
        losses_other _ r.timer.id q o.0.lock_way ne o.0.lock_raises,
        losses_other _ r.timer.id q o.0.low_way ne o.0.low_raises,
      ))
      t.makes.losses_are in
      record {
        rising = rising_set rows i r u is refl t.rising;
        sound = subst (λ xs. All IsSoundTimer xs) (sym new_timers)
            (All-set IsSoundTimer (timers_of rows) i u.timer
            (record { moment = f.bound; some = old_sound.some; most = old_sound.most }) t.sound);
        ready = record {
          lock_end = lock_step r.timer.level size n lock_marked rows i r u s s' refl o t.ready.lock_end t.rising is adv soon
              sound_lock;
          low_end = low_step r.timer.level size n low_marked rows i r u s s' refl o t.ready.low_end t.rising is adv soon
              sound_low;
          counted = counted_still most rows i r u n t.ready.counted is adv one less
              (none_high called count firing r.timer.id n s s' r.timer.level o);
        };
        fires = fires';
        makes = record {
          acts = c;
          timers_are = fires'.is;
          carried_are = carried_set rows i r u is adv.carried ∙ t.makes.carried_are;
          losses_are = losts ∙ (λ j. map (λ (x : Cyclic). lost_after (sym e1 j) (sym e2 j) x.timer.id x.lost) (cyclics_of rows0));
          lost_is = (let a = ap way_losses e1 in let b = ap way_losses e2 in
              let x = losses_on t.makes.acts.lock_way o.0.lock_way in
              let y = losses_on t.makes.acts.low_way o.0.low_way in
              let z = t.makes.lost_is in let w = o.1 in omega (arith, a, b, x, y, z, w));
        };
        few = (let a = t.few in let l = length-append made (p ∷ []) in omega (arith, a, l, one));
      }

  -- one turn, as the code writes it
  pub turn_written : (now size most : ℕ) (lock_marked low_marked : Option ℕ) (rows0 : List Row) (s0 : Sides C R)
      (made : List Expiration) (rows rows' : List Row) (s s' : Sides C R) (lost n m i mo id : ℕ) (r : Row) (kept : Record) →
      Turns now size most lock_marked low_marked rows0 s0 made rows s lost → IsRising rows0 → IsRow rows i r → IsFirstAt rows i
      → r.timer.moment ≡ mo → r.timer.id ≡ id → IsRecordOf kept r → mo ≤ now → now < never →
      kept.expired < most → Following mo kept.interval now m → One called count firing kept.level id s s' n → n ≤ 1 →
      (Sound (firing.view s.lock) → Sound (firing.view s'.lock)) → (Sound (firing.view s.low) → Sound (firing.view s'.low)) →
      rows' ≡ set rows i (with_counts m (kept.expired + 1) (kept.lost + n) r) →
      Turns now size most lock_marked low_marked rows0 s0 (made ++ next_of r.timer ∷ []) rows' s' (lost + n)
  turn_written now size most lock_marked low_marked rows0 s0 made rows rows' s s' lost n m i mo id r kept t rising0 is first
      moment named of reached last less f o one sound_lock sound_low written_is =
      let f' = subst (λ x. Following x r.timer.interval now m) (sym moment) (subst (λ x. Following mo x now m) of.1 f) in
      let o' = subst (λ x. One called count firing r.timer.level x s s' n) (sym named)
      (subst (λ l. One called count firing l id s s' n) of.0 o) in
      let e = of.2 in
      subst (λ xs. Turns now size most lock_marked low_marked rows0 s0 (made ++ next_of r.timer ∷ []) xs s' (lost + n))
      (sym (written_is ∙ ap (set rows i) (written r m n kept of)))
      (turn now size most lock_marked low_marked rows0 s0 made rows s s' lost n m i r t rising0 is first
      (omega (arith, moment, reached)) last (omega (arith, e, less)) f' o' one sound_lock sound_low)

-- less is left after a turn
pub less_left : (now : ℕ) (rows rows' : List Row) (n m i mo : ℕ) (r : Row) (kept : Record) → IsRow rows i r → IsFirstAt rows i
    → r.timer.moment ≡ mo → IsRecordOf kept r → Following mo kept.interval now m →
    rows' ≡ set rows i (with_counts m (kept.expired + 1) (kept.lost + n) r) →
    length (expirations now (timers_of rows')) < length (expirations now (timers_of rows))
less_left now rows rows' n m i mo r kept is first moment of f written_is =
    let f' = subst (λ x. Following x r.timer.interval now m) (sym moment) (subst (λ x. Following mo x now m) of.1 f) in
    let u = row_after r m n in
    subst (λ xs. length (expirations now xs) < length (expirations now (timers_of rows)))
    (sym (ap timers_of (written_is ∙ ap (set rows i) (written r m n kept of)) ∙ timers_set rows i u))
    (fire_left now (timers_of rows) i r.timer u.timer (timer_low rows i r is) (timer_is rows i r is) first (expires now r m n f'))

-- the cyclic of a row is found by its id
pub row_found : (rows : List Row) (i : ℕ) (r : Row) → IsRising rows → IsRow rows i r
    → timer_of r.timer.id (timers_of rows) ≡ Some r.timer
row_found rows i r rising is =
    subst (λ (t : Timer). timer_of t.id (timers_of rows) ≡ Some t) (sym (timer_is rows i r is))
    (found_at (timers_of rows) i r.timer (distinct rows rising) (timer_low rows i r is))

-- where a fire stops, it has made the front of the list
pub front : (now : ℕ) (made : List Expiration) (ts : List Timer) (rows : List Row) (i mo : ℕ) (r : Row)
    → Firing now made ts (timers_of rows) → IsRow rows i r → IsFirstAt rows i → r.timer.moment ≡ mo → mo ≤ now →
    (rest : List Expiration) × (expirations now ts ≡ made ++ next_of r.timer ∷ rest)
front now made ts rows i mo r f is first moment reached =
    fire_front now made ts (timers_of rows) i r.timer f (timer_low rows i r is) (timer_is rows i r is) first
    (omega (arith, moment, reached))

-- where the first is later, all are
pub all_later : (rows : List Row) (now i mo : ℕ) (r : Row) → IsRow rows i r → IsFirstAt rows i → r.timer.moment ≡ mo → now < mo
    → All (λ (t : Timer). now < t.moment) (timers_of rows)
all_later rows now i mo r is first moment later k d low =
    let b = before_le (get_or (timers_of rows) i d) (get_or (timers_of rows) k d) (first k d low) in
    let t = ap (λ (x : Timer). x.moment) (timer_is rows i r is
    ∙ get_or_default (timers_of rows) i r.timer d (timer_low rows i r is)) in
    omega (arith, b, t, moment, later)
  where
    before_le : (t u : Timer) → is_before (next_of t) (next_of u) ≡ true → t.moment ≤ u.moment
    before_le t u h = grind (arith, nat_tests)
