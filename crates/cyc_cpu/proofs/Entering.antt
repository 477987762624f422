-- One cyclic more, and a switch of banks.
use Rattle.std.proofs.Common.{◌≡◌, ◌≢◌, ℕ, ◌+◌, ◌-◌, ◌<◌, ◌≤◌, ◌^◌, ◌⊎◌, inl, inr, Bool, true, false, cond, eqb, Option, Some}
use Rattle.std.proofs.Common.{None, List, [], ◌∷◌, All, refl, sym, ap, ◌∙◌, subst, arith, length, get_or, eq-eqb}
use Rattle.std.specs.Prelude.{insert}
use Rattle.std.proofs.Math.Nat.{pow-le-pow_right}
use Rattle.std.proofs.lemmas.Bool.{cases_lt, cases_eq}
use Rattle.std.proofs.lemmas.Bool.Decides.{nat_tests}
use Rattle.std.proofs.lemmas.List.{get_or_default}
use Rattle.std.proofs.lemmas.List.Edits.{length-insert, get_or-insert_below, get_or-insert_at, get_or-insert_above}
use Rattle.cyc_types.specs.Series.{never}
use Rattle.cyc_types.specs.declared.Raise.{Ghosts as Raise}
use Rattle.cyc_types.specs.Firing.{FiringView, Admits, Expands, Learns, Sound, Stay, MayAdmit}
use Rattle.cyc_types.specs.Runs.{Goes}
use Rattle.cyc_types.specs.declared.level.Level.{Level}
use Rattle.cyc_types.specs.declared.level.Level.TheVariants as level
use Rattle.cyc_timers.specs.Rows.{Row, IsRow, HasNo, cyclic_of}
use Rattle.cyc_cpu.specs.Cpu.{HasCounts}
use Rattle.cyc_timers.specs.Acts.{same_level}
use Rattle.cyc_timers.specs.Ends.{HasStay, HasRow, IsEnd, IsCounted, IsHard, lock_and_low}
use Rattle.cyc_timers.specs.Quiet.{admits_at}
use Rattle.cyc_timers.proofs.Readying.{some_same}

-- a row after one was put in
pub row_in : (rows : List Row) (q k : ℕ) (u x : Row) → q ≤ length rows → IsRow (insert rows q u) k x → (x ≡ u)
    ⊎ ((j : ℕ) × IsRow rows j x)
row_in rows q k u x low is =
    let n = length-insert rows q u low in
    let long = is.0 in
    elim (cases_lt k q) [
      | inl less ↦ inr (k, (omega (arith, less, low), sym (get_or-insert_below rows q u x k less low) ∙ is.1))
      | inr more ↦ elim (cases_eq k q) [
        | inl same ↦ inl (sym is.1 ∙ ap (λ m. get_or (insert rows q u) m x) same ∙ get_or-insert_at rows q u x low)
        | inr ne ↦ (let s : k ≡ (k - 1) + 1 = omega (arith, more, ne) in
            inr (
              k - 1,
              (
                omega (arith, long, n, s),
                sym (ap (λ m. get_or (insert rows q u) m x) s
                    ∙ get_or-insert_above rows q u x (k - 1) (omega (arith, more, ne)) low) ∙ is.1,
              ),
            ))
      ]
    ]

pub row_old : (rows : List Row) (q j : ℕ) (u x : Row) → q ≤ length rows → IsRow rows j x → (k : ℕ) × IsRow (insert rows q u) k x
row_old rows q j u x low is =
    let n = length-insert rows q u low in
    let long = is.0 in
    elim (cases_lt j q) [
      | inl less ↦ (j, (omega (arith, long, n), get_or-insert_below rows q u x j less low ∙ is.1))
      | inr more ↦ (j + 1, (omega (arith, long, n), get_or-insert_above rows q u x j more low ∙ is.1))
    ]

pub still_in : (rows : List Row) (q : ℕ) (u : Row) (level : Level) (id : ℕ) → q ≤ length rows → HasRow level id rows
    → HasRow level id (insert rows q u)
still_in rows q u level id low (k, x, is, named, at) = (let (m, is') = row_old rows q k u x low is in (m, x, is', named, at))

pub row_put : (rows : List Row) (q : ℕ) (u : Row) → q ≤ length rows → IsRow (insert rows q u) q u
row_put rows q u low = (let n = length-insert rows q u low in omega (arith, n, low), get_or-insert_at rows q u u low)

-- a row that has just what it carried in
pub record Carries (u : Row) : Type 0 where
  pub sent : u.timer.expired ≡ u.carried.sent
  pub lost : u.lost ≡ u.carried.lost

-- no row has the id
pub no_row : (id : ℕ) (rows : List Row) (k : ℕ) (r : Row) → HasNo id rows → IsRow rows k r → r.timer.id ≢ id
no_row id rows k r none is same = none k r is.0 (ap (λ (x : Row). x.timer.id) is.1 ∙ same)

none_of : (o : Option Stay) → ((s : Stay) → o ≡ Some s → ⊥) → o ≡ None
none_of None h = refl
none_of (Some s) h = absurd (h s refl)

-- an end may admit an id that is not here, at an index that no row has
pub may_admit : (soft : Level) (size : ℕ) (marked : Option ℕ) (v : FiringView) (rows : List Row) (id index : ℕ)
    → IsEnd soft size marked v rows → HasNo id rows → All (λ r. r.index ≢ index) rows → index < size → MayAdmit id index v
may_admit soft size marked v rows id index ready none fresh low = (
  none_of (v.stays id) (λ s h. (let (k, r, is, named, at) = ready.only id s h in no_row id rows k r none is named)),
  (λ j s h same. (let (k, r, is, named, at) = ready.only j s h in
      let (s', stay, (i, sent, lost)) = ready.here k r is at in
      let eq = some_same s s' (v.stays j) h (ap v.stays (sym named) ∙ stay) in
      fresh k r is.0 (ap (λ (x : Row). x.index) is.1 ∙ sym i ∙ ap (λ (x : Stay). x.index) (sym eq) ∙ same))),
  (let z = ready.size_is in omega (arith, z, low)),
  ready.free,
)

module _ (soft : Level) (size : ℕ) (marked : Option ℕ) (v : FiringView) (rows : List Row) (q id index : ℕ) (u : Row)
    (ready : IsEnd soft size marked v rows) (low : q ≤ length rows) (none : HasNo id rows) (unmarked : marked ≢ Some id)
    (named : u.timer.id ≡ id) (carries : Carries u) where
  removed_in : (k : ℕ) (x : Row) → IsRow (insert rows q u) k x → marked ≡ Some x.timer.id → x.timer.moment ≡ never
  removed_in k x is h = elim (row_in rows q k u x low is) [
    | inl eq ↦ absurd (unmarked (h ∙ ap (λ (y : Row). Some y.timer.id) eq ∙ ap Some named))
    | inr (j, old) ↦ ready.removed j x old h
  ]

  -- the end that admitted it
  pub end_entered : (w : FiringView) → Learns v (Admits id index) w → Sound w → u.timer.level ≡ soft → u.index ≡ index
      → IsEnd soft size marked w (insert rows q u)
  end_entered w l sound at indexed =
      let new : Stay = record { index = index; sent = 0; lost = 0; seen = 0 } in
      let stays = λ (j : ℕ). ap (λ (x : FiringView). x.stays j) l in
      let mine : w.stays id ≡ Some new = stays id
      ∙ (let yes : eqb id id ≡ true = eq-eqb id id refl in ap (λ b. cond b (Some new) (v.stays id)) yes) in
      let others = λ (j : ℕ) (ne : j ≢ id). stays j
      ∙ (let no : eqb j id ≡ false = grind (arith, nat_tests) in ap (λ b. cond b (Some new) (v.stays j)) no) in
      record {
        sound = sound;
        free = ap (λ (x : FiringView). x.hand_free) l ∙ ready.free;
        size_is = ready.size_is ∙ ap (λ (x : FiringView). 2 ^ x.bank) (sym l);
        marked_is = ap (λ (x : FiringView). x.marked) l ∙ ready.marked_is;
        here = λ k x is at_x. elim (row_in rows q k u x low is) [
          | inl eq ↦ subst (HasStay w) (sym eq) (
            new,
            ap w.stays named
                ∙ mine,
            (sym indexed, (let a = carries.sent in omega (arith, a)), (let a = carries.lost in omega (arith, a))),
          )
          | inr (j, old) ↦ (let (s, stay, rest) = ready.here j x old at_x in
              (s, others x.timer.id (no_row id rows j x none old) ∙ stay, rest))
        ];
        only = λ j s h. elim (cases_eq j id) [
          | inl same ↦ (q, u, row_put rows q u low, named ∙ sym same, at)
          | inr ne ↦ still_in rows q u soft j low (ready.only j s (sym (others j ne) ∙ h))
        ];
        over = λ j s h some. elim (cases_eq j id) [
          | inl same ↦ (let eq : s ≡ new = some_same s new (w.stays id) (sym (ap w.stays same) ∙ h) mine in let a =
              ap (λ (x : Stay). x.lost) eq in absurd (omega (arith, a, some)))
          | inr ne ↦ (let c = ap (λ (x : FiringView). x.ceiling) l in let o = ready.over j s (sym (others j ne) ∙ h) some in
              omega (arith, o, c))
        ];
        marked_here = λ j h. still_in rows q u soft j low (ready.marked_here j h);
        removed = removed_in;
      }

  -- the end of another level
  pub end_beside : u.timer.level ≢ soft → IsEnd soft size marked v (insert rows q u)
  end_beside off = record {
    sound = ready.sound;
    free = ready.free;
    size_is = ready.size_is;
    marked_is = ready.marked_is;
    here = λ k x is at_x. elim (row_in rows q k u x low is) [
      | inl eq ↦ absurd (off (ap (λ (y : Row). y.timer.level) (sym eq) ∙ at_x))
      | inr (j, old) ↦ ready.here j x old at_x
    ];
    only = λ j s h. still_in rows q u soft j low (ready.only j s h);
    over = ready.over;
    marked_here = λ j h. still_in rows q u soft j low (ready.marked_here j h);
    removed = removed_in;
  }

pub counted_entered : (most : ℕ) (rows : List Row) (q : ℕ) (u : Row) → q ≤ length rows → IsCounted most rows
    → u.lost ≤ u.timer.expired → u.timer.expired ≤ most → Carries u → IsCounted most (insert rows q u)
counted_entered most rows q u low counted few less carries k d long =
    let x = get_or (insert rows q u) k d in
    elim (row_in rows q k u x low (long, get_or_default (insert rows q u) k x d long)) [
      | inl eq ↦ (let a = carries.sent in let b = carries.lost in
          subst (λ (y : Row). HasCounts most (cyclic_of y)) (sym eq)
          (record { some = few; few = less; carried = omega (arith, a); carried_lost = omega (arith, b); high = λ at. b }))
      | inr (j, old) ↦ subst (λ (y : Row). HasCounts most (cyclic_of y)) old.1 (counted j x old.0)
    ]

entered_at : {R : Type 0} (firing : Raise R) (soft own : Level) (size : ℕ)
    (marked : Option ℕ) (e f : R) (rows : List Row) (q id index : ℕ) (u : Row) →
    IsEnd soft size marked (firing.view e) rows → q ≤ length rows → HasNo id rows → marked ≢ Some id → u.timer.id ≡ id
    → u.timer.level ≡ own → u.index ≡ index → Carries u → (Sound (firing.view e) → Sound (firing.view f)) →
    (b : Bool) → (b ≡ true → own ≡ soft) → (b ≡ false → own ≢ soft) → Goes firing e (cond b (Admits id index ∷ []) []) f
    → IsEnd soft size marked (firing.view f) (insert rows q u)
entered_at firing soft own size marked e f rows q id index u ready low none unmarked named at indexed carries sound true on off
    (m, (stepped, learns), last) =
    end_entered soft size marked (firing.view e) rows q id index u ready low none unmarked named carries (firing.view f)
    (subst (λ x. Learns (firing.view e) (Admits id index) (firing.view x)) last learns) (sound ready.sound) (at ∙ on refl) indexed
entered_at firing soft own size marked e f rows q id index u ready low none unmarked named at indexed carries sound false on
    off g =
    subst (λ x. IsEnd soft size marked (firing.view x) (insert rows q u)) g
    (end_beside soft size marked (firing.view e) rows q id index u ready low none unmarked named carries
    (λ h. off refl (sym at ∙ h)))

lock_yes : (own : Level) → same_level level.Lock own ≡ true → own ≡ level.Lock
lock_yes level.Low h = absurd (cc)
lock_yes level.Lock h = refl
lock_yes level.High h = absurd (cc)

lock_no : (own : Level) → same_level level.Lock own ≡ false → own ≢ level.Lock
lock_no level.Low h q = absurd (cc)
lock_no level.Lock h q = absurd (cc)
lock_no level.High h q = absurd (cc)

low_yes : (own : Level) → same_level level.Low own ≡ true → own ≡ level.Low
low_yes level.Low h = refl
low_yes level.Lock h = absurd (cc)
low_yes level.High h = absurd (cc)

low_no : (own : Level) → same_level level.Low own ≡ false → own ≢ level.Low
low_no level.Low h q = absurd (cc)
low_no level.Lock h q = absurd (cc)
low_no level.High h q = absurd (cc)

marks_same : {R : Type 0} (firing : Raise R) (b : Bool) (id index : ℕ) (e f : R)
    → Goes firing e (cond b (Admits id index ∷ []) []) f → (firing.view f).marked ≡ (firing.view e).marked
marks_same firing true id index e f (m, (stepped, learns), last) = ap (λ x. (firing.view x).marked) (sym last)
    ∙ ap (λ (x : FiringView). x.marked) learns
marks_same firing false id index e f g = ap (λ x. (firing.view x).marked) (sym g)

-- the CPU with one cyclic more
pub hard_entered : {R : Type 0} (firing : Raise R) (size most : ℕ) (removal : Option ℕ)
    (lock low lock' low' : R) (rows : List Row) (q id index : ℕ) (own : Level) (u : Row) →
    IsHard firing.view size most removal (lock_and_low lock low) rows → q ≤ length rows → HasNo id rows → removal ≢ Some id
    → u.timer.id ≡ id
    → u.timer.level ≡ own → u.index ≡ index → Carries u → u.lost ≤ u.timer.expired → u.timer.expired ≤ most →
    Goes firing lock (admits_at level.Lock own id index) lock' → Goes firing low (admits_at level.Low own id index) low'
    → (Sound (firing.view lock) → Sound (firing.view lock')) → (Sound (firing.view low) → Sound (firing.view low')) →
    IsHard firing.view size most removal (lock_and_low lock' low') (insert rows q u)
hard_entered firing size most removal lock low lock' low' rows q id index own u h bound none still named at indexed carries few
    less lock_goes low_goes sound_lock sound_low =
    let k = marks_same firing _ id index lock lock' lock_goes in
    let w = marks_same firing _ id index low low' low_goes in
    record {
      ready = record {
        lock_end = subst (λ m. IsEnd level.Lock size m (firing.view lock') (insert rows q u)) (sym k)
            (entered_at firing level.Lock own size (firing.view lock).marked lock lock' rows q id index u h.ready.lock_end bound
            none
            (λ m. still (h.lock_marked id m)) named at indexed carries sound_lock _ (lock_yes own) (lock_no own) lock_goes);
        low_end = subst (λ m. IsEnd level.Low size m (firing.view low') (insert rows q u)) (sym w)
            (entered_at firing level.Low own size (firing.view low).marked low low' rows q id index u h.ready.low_end bound none
            (λ m. still (h.low_marked id m)) named at indexed carries sound_low _ (low_yes own) (low_no own) low_goes);
        counted = counted_entered most rows q u bound h.ready.counted few less carries;
      };
      lock_marked = λ i m. h.lock_marked i (sym k ∙ m);
      low_marked = λ i m. h.low_marked i (sym w ∙ m);
      is_open = λ i m. elim (h.is_open i m) [
        | inl marked ↦ inl (k ∙ marked)
        | inr marked ↦ inr (w ∙ marked)
      ];
    }

-- a greater power is of a greater number
pub pow_order : (a b : ℕ) → 2 ^ a < 2 ^ b → a < b
pow_order a b h = elim (cases_lt a b) [
  | inl less ↦ less
  | inr more ↦ let p = pow-le-pow_right {n = 2} (omega arith) {i = b} {j = a} more in absurd (omega (arith, p, h))
]

end_expanded : (soft : Level) (size : ℕ) (marked : Option ℕ) (v w : FiringView) (rows : List Row) (bank : ℕ)
    → IsEnd soft size marked v rows → Learns v (Expands bank) w → Sound w → IsEnd soft (2 ^ bank) marked w rows
end_expanded soft size marked v w rows bank ready l sound = record {
  sound = sound;
  free = ap (λ (x : FiringView). x.hand_free) l ∙ ready.free;
  size_is = ap (λ (x : FiringView). 2 ^ x.bank) (sym l);
  marked_is = ap (λ (x : FiringView). x.marked) l ∙ ready.marked_is;
  here = λ k r is at. (let (s, stay, rest) = ready.here k r is at in
      (s, ap (λ (x : FiringView). x.stays r.timer.id) l ∙ stay, rest));
  only = λ id s h. ready.only id s (sym (ap (λ (x : FiringView). x.stays id) l) ∙ h);
  over = λ id s h some. (let c = ap (λ (x : FiringView). x.ceiling) l in let o =
      ready.over id s (sym (ap (λ (x : FiringView). x.stays id) l) ∙ h) some in omega (arith, o, c));
  marked_here = ready.marked_here;
  removed = ready.removed;
}

-- the CPU after a switch of both ends
pub hard_expanded : {R : Type 0} (view : R → FiringView) (size size' most : ℕ) (removal : Option ℕ) (lock low lock' low' : R)
    (rows : List Row) (bank : ℕ) → IsHard view size most removal (lock_and_low lock low) rows → size' ≡ 2 ^ bank →
    Learns (view lock) (Expands bank) (view lock') → Sound (view lock') → Learns (view low) (Expands bank) (view low')
    → Sound (view low') → IsHard view size' most removal (lock_and_low lock' low') rows
hard_expanded view size size' most removal lock low lock' low' rows bank h is k sk w sw =
    let mk = ap (λ (x : FiringView). x.marked) k in
    let mw = ap (λ (x : FiringView). x.marked) w in
    subst (λ n. IsHard view n most removal (lock_and_low lock' low') rows) (sym is) (record {
      ready = record {
        lock_end = subst (λ m. IsEnd level.Lock (2 ^ bank) m (view lock') rows) (sym mk)
            (end_expanded level.Lock size (view lock).marked (view lock) (view lock') rows bank h.ready.lock_end k sk);
        low_end = subst (λ m. IsEnd level.Low (2 ^ bank) m (view low') rows) (sym mw)
            (end_expanded level.Low size (view low).marked (view low) (view low') rows bank h.ready.low_end w sw);
        counted = h.ready.counted;
      };
      lock_marked = λ id q. h.lock_marked id (sym mk ∙ q);
      low_marked = λ id q. h.low_marked id (sym mw ∙ q);
      is_open = λ id q. elim (h.is_open id q) [
        | inl marked ↦ inl (mk ∙ marked)
        | inr marked ↦ inr (mw ∙ marked)
      ];
    })
