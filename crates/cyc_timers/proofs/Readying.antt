-- One expiration leaves both ends ready for the next.
use Rattle.std.proofs.Common.{◌≡◌, ◌≢◌, ℕ, ◌+◌, ◌-◌, ◌<◌, ◌≤◌, ◌^◌, ◌⊎◌, inl, inr, Bool, true, false, cond, eqb, Option, Some}
use Rattle.std.proofs.Common.{None, List, [], ◌∷◌, refl, sym, ap, ◌∙◌, subst, arith, length, get_or, eq-eqb}
use Rattle.std.proofs.Math.ListN.{set}
use Rattle.std.proofs.lemmas.Bool.{cases_lt, cases_eq}
use Rattle.std.proofs.lemmas.Bool.Decides.{nat_tests}
use Rattle.std.proofs.lemmas.List.{length-set, get_or-set_same, get_or-set_other, get_or_default}
use Rattle.std.proofs.lemmas.List.Elements.{All-set}
use Rattle.cyc_types.specs.Series.{never}
use Rattle.cyc_types.specs.declared.Raise.{Ghosts as Raise}
use Rattle.cyc_types.specs.Firing.{FiringView, Raises, Loads, Looks, Learns, Sound, Stay, MayRaise, edited, edit_stay}
use Rattle.cyc_types.specs.Firing.{seen_in}
use Rattle.cyc_types.specs.Runs.{Goes}
use Rattle.cyc_types.specs.declared.firing.Raised.{Raised}
use Rattle.cyc_types.specs.declared.firing.Raised.TheVariants.{First, More, Lost}
use Rattle.cyc_types.specs.declared.level.Level.{Level}
use Rattle.cyc_types.specs.declared.level.Level.TheVariants as level
use Rattle.cyc_types.specs.declared.firing.Sent.{Sent}
use Rattle.cyc_timers.specs.Rows.{Row, IsRow, IsRising, cyclic_of}
use Rattle.cyc_timers.specs.Made.{HasCounts}
use Rattle.cyc_timers.specs.Acts.{loss_in}
use Rattle.cyc_timers.specs.Ends.{HasStay, HasRow, IsEnd, IsCounted, IsHard, lock_and_low}
use Rattle.cyc_timers.specs.Quiet.{asks_at, KeepsStays}

-- a row after one of its expirations, of which this many were lost
pub record Advances (r u : Row) (n : ℕ) : Type 0 where
  pub id : u.timer.id ≡ r.timer.id
  pub level : u.timer.level ≡ r.timer.level
  pub index : u.index ≡ r.index
  pub expired : u.timer.expired ≡ r.timer.expired + 1
  pub lost : u.lost ≡ r.lost + n
  pub carried : u.carried ≡ r.carried

-- a row after a change of one row
pub row_cases : (rows : List Row) (i k : ℕ) (u x : Row) → i < length rows → IsRow (set rows i u) k x → ((k ≡ i) × (x ≡ u))
    ⊎ ((k ≢ i) × IsRow rows k x)
row_cases rows i k u x low is = elim (cases_eq k i) [
  | inl same ↦ inl (same, sym is.1 ∙ ap (λ n. get_or (set rows i u) n x) same ∙ get_or-set_same rows i u x low)
  | inr ne ↦ inr (
    ne,
    (
      (let l = length-set rows i u in let a = is.0 in omega (arith, l, a)),
      sym (get_or-set_other rows i k u x ne) ∙ is.1,
    ),
  )
]

pub row_kept : (rows : List Row) (i k : ℕ) (u x : Row) → k ≢ i → IsRow rows k x → IsRow (set rows i u) k x
row_kept rows i k u x ne is = (
  (let l = length-set rows i u in let a = is.0 in omega (arith, l, a)),
  get_or-set_other rows i k u x ne ∙ is.1,
)

pub row_new : (rows : List Row) (i : ℕ) (u : Row) → i < length rows → IsRow (set rows i u) i u
row_new rows i u low = ((let l = length-set rows i u in omega (arith, l, low)), get_or-set_same rows i u u low)

-- a row of a level stays one where another row changes, or its own but for id and level
pub still_here : (rows : List Row) (i : ℕ) (r u : Row) (level : Level) (id : ℕ) → IsRow rows i r → u.timer.id ≡ r.timer.id
    → u.timer.level ≡ r.timer.level → HasRow level id rows → HasRow level id (set rows i u)
still_here rows i r u level id is same same_level (k, x, is_x, named, at) = elim (cases_eq k i) [
  | inl eq ↦
      (let x_is : x ≡ r = sym is_x.1 ∙ ap (λ m. get_or rows m x) eq ∙ get_or_default rows i x r is.0 ∙ is.1 in (
        i,
        u,
        row_new rows i u is.0,
        same ∙ ap (λ (y : Row). y.timer.id) (sym x_is) ∙ named,
        same_level
            ∙ ap (λ (y : Row). y.timer.level) (sym x_is) ∙ at,
      ))
  | inr ne ↦ (k, x, row_kept rows i k u x ne is_x, named, at)
]

-- different rows have different ids
pub ids_apart : (rows : List Row) (i k : ℕ) (r x : Row) → IsRising rows → IsRow rows i r → IsRow rows k x → k ≢ i
    → x.timer.id ≢ r.timer.id
ids_apart rows i k r x rising is_r is_x ne same =
    let x_at = get_or_default rows k x r is_x.0 in
    let e : (get_or rows k r).timer.id ≡ x.timer.id = ap (λ (y : Row). y.timer.id) (sym x_at ∙ is_x.1) in
    let f : (get_or rows i r).timer.id ≡ r.timer.id = ap (λ (y : Row). y.timer.id) is_r.1 in
    elim (cases_lt i k) [
      | inl less ↦ let h = rising i k r less is_x.0 in absurd (omega (arith, h, e, f, same))
      | inr more ↦ let h = rising k i r (omega (arith, more, ne)) is_r.0 in absurd (omega (arith, h, e, f, same))
    ]

-- a raise edits the stay of its id alone
pub record Edits (v w : FiringView) (id n : ℕ) : Type 0 where
  pub f : Stay → Stay
  pub is : w ≡ edit_stay id f v
  pub index : (s : Stay) → (f s).index ≡ s.index
  pub sent : (s : Stay) → (f s).sent ≡ s.sent + 1
  pub lost : (s : Stay) → (f s).lost ≡ s.lost + n
  -- it is lost only where as many calls as the ceiling were seen
  pub over : (s : Stay) → v.stays id ≡ Some s → 0 < n → s.seen ≡ v.ceiling

pub edits : (v w : FiringView) (id : ℕ) (a : Raised) → Learns v (Raises id a) w → Edits v w id (loss_in (Raises id a))
edits v w id First l = record {
  f = λ s. record s { sent = s.sent + 1; seen = 0 + 1 };
  is = l;
  index = λ s. refl;
  sent =
      λ s. refl;
  lost = λ s. omega arith;
  over = λ s h some. absurd (omega (arith, some));
}
edits v w id More l = record {
  f = λ s. record s { sent = s.sent + 1; seen = l.0 + 1 };
  is = l.4;
  index = λ s. refl;
  sent =
      λ s. refl;
  lost = λ s. omega arith;
  over = λ s h some. absurd (omega (arith, some));
}
edits v w id Lost l = record {
  f = λ s. record s { sent = s.sent + 1; lost = s.lost + 1; seen = v.ceiling };
  is = l.1;
  index =
      λ s. refl;
  sent = λ s. refl;
  lost = λ s. refl;
  over = λ s h some. sym (ap seen_in h) ∙ l.0;
}

pub some_same : (a b : Stay) (o : Option Stay) → o ≡ Some a → o ≡ Some b → a ≡ b
some_same a b o h k = cc

stay_here : (f : Stay → Stay) (b : Bool) (o : Option Stay) (s : Stay) → b ≡ true → o ≡ Some s → cond b (edited f o) o ≡ Some (f s)
stay_here f true o s on is = ap (edited f) is
stay_here f false o s on is = absurd (cc)

stay_was : (f : Stay → Stay) (b : Bool) (o : Option Stay) (s : Stay) → cond b (edited f o) o ≡ Some s → (t : Stay) × (o ≡ Some t)
stay_was f true (Some t) s h = (t, refl)
stay_was f true None s h = absurd (let no : None ≡ Some s = h in cc)
stay_was f false o s h = (s, h)

module _ (v w : FiringView) (id n : ℕ) (e : Edits v w id n) where
  stays_is : (j : ℕ) → w.stays j ≡ cond (eqb j id) (edited e.f (v.stays j)) (v.stays j)
  stays_is j = ap (λ (x : FiringView). x.stays j) e.is

  same_stay : (s : Stay) → v.stays id ≡ Some s → w.stays id ≡ Some (e.f s)
  same_stay s h = stays_is id ∙ stay_here e.f (eqb id id) (v.stays id) s (eq-eqb id id refl) h

  other_stay : (j : ℕ) → j ≢ id → w.stays j ≡ v.stays j
  other_stay j ne = stays_is j ∙ (let no : eqb j id ≡ false = grind (arith, nat_tests) in
      ap (λ b. cond b (edited e.f (v.stays j)) (v.stays j)) no)

  was_stay : (j : ℕ) (s : Stay) → w.stays j ≡ Some s → (t : Stay) × (v.stays j ≡ Some t)
  was_stay j s h = stay_was e.f (eqb j id) (v.stays j) s (sym (stays_is j) ∙ h)

module _ (soft : Level) (size : ℕ) (marked : Option ℕ) (v : FiringView) (rows : List Row) (i : ℕ) (r u : Row) (n : ℕ)
    (ready : IsEnd soft size marked v rows) (rising : IsRising rows) (is : IsRow rows i r) (adv : Advances r u n)
    (soon : r.timer.moment < never) where
  -- a marked cyclic is not the one that expires
  not_marked : marked ≢ Some r.timer.id
  not_marked h = (let m = ready.removed i r is h in absurd (omega (arith, m, soon)))

  removed_still : (k : ℕ) (x : Row) → IsRow (set rows i u) k x → marked ≡ Some x.timer.id → x.timer.moment ≡ never
  removed_still k x is_x h = elim (row_cases rows i k u x is.0 is_x) [
    | inl (same, eq) ↦ absurd (not_marked (h ∙ ap (λ (y : Row). Some y.timer.id) eq ∙ ap Some adv.id))
    | inr (ne, old) ↦ ready.removed k x old h
  ]

  over_still : (w : FiringView) (e : Edits v w r.timer.id n) → Sound w → (id : ℕ) (s : Stay) → w.stays id ≡ Some s → 0 < s.lost
      → w.ceiling < s.sent
  over_still w e sound id s h some =
      let c = ap (λ (x : FiringView). x.ceiling) e.is in
      elim (cases_eq id r.timer.id) [
        | inl same ↦
            (let (t, was) = was_stay v w r.timer.id n e r.timer.id s (sym (ap w.stays same) ∙ h) in
            let eq : e.f t ≡ s = some_same (e.f t) s (w.stays r.timer.id) (same_stay v w r.timer.id n e t was)
            (sym (ap w.stays same) ∙ h) in
            let a = ap (λ (x : Stay). x.lost) eq in let b = ap (λ (x : Stay). x.sent) eq in
            let d = e.sent t in let f = e.lost t in
            elim (cases_lt 0 n) [
              | inl more ↦ (let g = e.over t was more in let o = ready.sound.owed r.timer.id t was in
                  omega (arith, a, b, c, d, f, g, o))
              | inr none ↦ (let o = ready.over r.timer.id t was (omega (arith, some, a, f, none)) in omega (arith, b, c, d, o))
            ])
        | inr ne ↦ (let o = ready.over id s (sym (other_stay v w r.timer.id n e id ne) ∙ h) some in omega (arith, o, c))
      ]

  -- the end at which the cyclic was raised
  pub end_raised : (w : FiringView) (e : Edits v w r.timer.id n) → r.timer.level ≡ soft → Sound w
      → IsEnd soft size marked w (set rows i u)
  end_raised w e at sound = record {
    sound = sound;
    free = ap (λ (x : FiringView). x.hand_free) e.is ∙ ready.free;
    size_is = ready.size_is ∙ ap (λ (x : FiringView). 2 ^ x.bank) (sym e.is);
    marked_is = ap (λ (x : FiringView). x.marked) e.is ∙ ready.marked_is;
    here = λ k x is_x at_x. elim (row_cases rows i k u x is.0 is_x) [
      | inl (same, eq) ↦
          (let (s, stay, (index, sent, lost)) = ready.here i r is at in
          let to = same_stay v w r.timer.id n e s stay in
          let i1 = e.index s in let i2 = e.sent s in let i3 = e.lost s in
          let a1 = adv.index in let a2 = adv.expired in let a3 = adv.lost in let c2 = ap (λ (x : Sent). x.sent) adv.carried in
          let c3 = ap (λ (x : Sent). x.lost) adv.carried in
          subst (HasStay w) (sym eq) (
            e.f s,
            ap w.stays adv.id
                ∙ to,
            (i1 ∙ index ∙ sym a1, omega (arith, i2, sent, a2, c2), omega (arith, i3, lost, a3, c3)),
          ))
      | inr (ne, old) ↦
          (let (s, stay, rest) = ready.here k x old at_x in
          (s, other_stay v w r.timer.id n e x.timer.id (ids_apart rows i k r x rising is old ne) ∙ stay, rest))
    ];
    only = λ id s h. (let (t, was) = was_stay v w r.timer.id n e id s h in
        still_here rows i r u soft id is adv.id adv.level (ready.only id t was));
    over = over_still w e sound;
    marked_here = λ id h. still_here rows i r u soft id is adv.id adv.level (ready.marked_here id h);
    removed = removed_still;
  }

  -- the end at which it was not
  pub end_other : r.timer.level ≢ soft → IsEnd soft size marked v (set rows i u)
  end_other off = record {
    sound = ready.sound;
    free = ready.free;
    size_is = ready.size_is;
    marked_is = ready.marked_is;
    here = λ k x is_x at_x. elim (row_cases rows i k u x is.0 is_x) [
      | inl (same, eq) ↦ absurd (off (sym adv.level ∙ ap (λ (y : Row). y.timer.level) (sym eq) ∙ at_x))
      | inr (ne, old) ↦ ready.here k x old at_x
    ];
    only = λ id s h. still_here rows i r u soft id is adv.id adv.level (ready.only id s h);
    over = ready.over;
    marked_here = λ id h. still_here rows i r u soft id is adv.id adv.level (ready.marked_here id h);
    removed = removed_still;
  }

  -- the cyclic may be raised
  pub may_raise : r.timer.level ≡ soft → r.timer.expired < 2 ^ 64 - 1 → MayRaise r.timer.id v
  may_raise at room =
      let (s, stay, (index, sent, lost)) = ready.here i r is at in
      ((s, stay, omega (arith, sent, room)), (λ h. not_marked (sym ready.marked_is ∙ h)), ready.free)

pub counted_still : (most : ℕ) (rows : List Row) (i : ℕ) (r u : Row) (n : ℕ) → IsCounted most rows → IsRow rows i r
    → Advances r u n → n ≤ 1 → r.timer.expired < most → (r.timer.level ≡ level.High → n ≡ 0) → IsCounted most (set rows i u)
counted_still most rows i r u n counted is adv few less high =
    let old = subst (λ (x : Row). HasCounts most (cyclic_of x)) is.1 (counted i r is.0) in
    let a = adv.expired in let b = adv.lost in let c = ap (λ (x : Sent). x.sent) adv.carried in let d =
    ap (λ (x : Sent). x.lost) adv.carried in
    let o1 = old.some in let o2 = old.carried in let o3 = old.carried_lost in
    All-set (λ (x : Row). HasCounts most (cyclic_of x)) rows i u (record {
      some = omega (arith, o1, a, b, few);
      few = omega (arith, a, less);
      carried = omega (arith, o2, a, c);
      carried_lost = omega (arith, o3, b, d);
      high = λ at. (let was = sym adv.level ∙ at in let e = old.high was in let z = high was in omega (arith, b, d, e, z));
    }) counted

-- an end after a change of one row that leaves its id, level, index and counts
pub record Keeps (r u : Row) : Type 0 where
  pub id : u.timer.id ≡ r.timer.id
  pub level : u.timer.level ≡ r.timer.level
  pub index : u.index ≡ r.index
  pub expired : u.timer.expired ≡ r.timer.expired
  pub lost : u.lost ≡ r.lost
  pub carried : u.carried ≡ r.carried

pub end_moved : (soft : Level) (size : ℕ) (marked : Option ℕ) (v : FiringView) (rows : List Row) (i : ℕ) (r u : Row)
    → IsEnd soft size marked v rows → IsRow rows i r → Keeps r u → marked ≢ Some r.timer.id →
    IsEnd soft size marked v (set rows i u)
end_moved soft size marked v rows i r u ready is keep unmarked = record {
  sound = ready.sound;
  free = ready.free;
  size_is = ready.size_is;
  marked_is = ready.marked_is;
  here = λ k x is_x at_x. elim (row_cases rows i k u x is.0 is_x) [
    | inl (same, eq) ↦
        (let (s, stay, (index, sent, lost)) = ready.here i r is (sym keep.level ∙ ap (λ (y : Row). y.timer.level) (sym eq) ∙ at_x)
        in
        let a = keep.index in let b = keep.expired in let c = keep.lost in let d = ap (λ (x : Sent). x.sent) keep.carried in
        let e = ap (λ (x : Sent). x.lost) keep.carried in
        subst (HasStay v) (sym eq) (
          s,
          ap v.stays keep.id
              ∙ stay,
          (index ∙ sym a, omega (arith, sent, b, d), omega (arith, lost, c, e)),
        ))
    | inr (ne, old) ↦ ready.here k x old at_x
  ];
  only = λ id s h. still_here rows i r u soft id is keep.id keep.level (ready.only id s h);
  over = ready.over;
  marked_here = λ id h. still_here rows i r u soft id is keep.id keep.level (ready.marked_here id h);
  removed = λ k x is_x h. elim (row_cases rows i k u x is.0 is_x) [
    | inl (same, eq) ↦ absurd (unmarked (h ∙ ap (λ (y : Row). Some y.timer.id) eq ∙ ap Some keep.id))
    | inr (ne, old) ↦ ready.removed k x old h
  ];
}

pub counted_moved : (most : ℕ) (rows : List Row) (i : ℕ) (r u : Row) → IsCounted most rows → IsRow rows i r → Keeps r u
    → IsCounted most (set rows i u)
counted_moved most rows i r u counted is keep =
    let old = subst (λ (x : Row). HasCounts most (cyclic_of x)) is.1 (counted i r is.0) in
    let a = keep.expired in let b = keep.lost in let c = ap (λ (x : Sent). x.sent) keep.carried in let d =
    ap (λ (x : Sent). x.lost) keep.carried in
    let o1 = old.some in let o2 = old.carried in let o3 = old.carried_lost in let o4 = old.few in
    All-set (λ (x : Row). HasCounts most (cyclic_of x)) rows i u (record {
      some = omega (arith, o1, a, b);
      few = omega (arith, o4, a);
      carried = omega (arith, o2, a, c);
      carried_lost = omega (arith, o3, b, d);
      high = λ at. (let e = old.high (sym keep.level ∙ at) in omega (arith, b, d, e));
    }) counted

pub end_kept : (soft : Level) (size : ℕ) (marked : Option ℕ) (v w : FiringView) (rows : List Row) → IsEnd soft size marked v rows
    → KeepsStays v w → Sound w → IsEnd soft size marked w rows
end_kept soft size marked v w rows ready keep sound = record {
  sound = sound;
  free = keep.free ∙ ready.free;
  size_is = ready.size_is ∙ ap (λ n. 2 ^ n) (sym keep.bank);
  marked_is = keep.marked ∙ ready.marked_is;
  here = λ k r is at. (let (s, stay, (index, sent, lost)) = ready.here k r is at in
      let (t, there, i1, i2, i3) = keep.to r.timer.id s stay in
      (t, there, (i1 ∙ index, omega (arith, sent, i2), omega (arith, lost, i3))));
  only = λ id t h. (let (s, was) = keep.from id t h in ready.only id s was);
  over = λ id t h some. (let (s, was) = keep.from id t h in
      let (t', there, i1, i2, i3) = keep.to id s was in
      let same : t ≡ t' = some_same t t' (w.stays id) h there in
      let a = ap (λ (x : Stay). x.lost) same in let b = ap (λ (x : Stay). x.sent) same in let c = keep.ceiling in
      let more = ready.over id s was (omega (arith, some, a, i3)) in
      omega (arith, more, b, i2, c));
  marked_here = ready.marked_here;
  removed = ready.removed;
}

stay_to : (b : Bool) (n : ℕ) (o : Option Stay) (s : Stay) → o ≡ Some s → (t : Stay)
    × (cond b (edited (λ s. record s { seen = n }) o) o ≡ Some t) × (t.index ≡ s.index) × (t.sent ≡ s.sent) × (t.lost ≡ s.lost)
stay_to true n o s h = (record s { seen = n }, ap (edited (λ s. record s { seen = n })) h, refl, refl, refl)
stay_to false n o s h = (s, h, refl, refl, refl)

-- what a load leaves
pub loads_keep : (v w : FiringView) (id n : ℕ) → Learns v (Loads id n) w → KeepsStays v w
loads_keep v w id n l = record {
  to = λ j s h. (let (t, there, i1, i2, i3) = stay_to (eqb j id) n (v.stays j) s h in
      (t, ap (λ (x : FiringView). x.stays j) l.1 ∙ there, i1, i2, i3));
  from = λ j t h. stay_was (λ s. record s { seen = n }) (eqb j id) (v.stays j) t (sym (ap (λ (x : FiringView). x.stays j) l.1)
      ∙ h);
  marked = ap (λ (x : FiringView). x.marked) l.1;
  bank = ap (λ (x : FiringView). x.bank) l.1;
  ceiling = ap (λ (x : FiringView). x.ceiling) l.1;
  free = ap (λ (x : FiringView). x.hand_free) l.1;
}

-- what a look leaves
pub looks_keep : (v w : FiringView) (answer : Bool) → Learns v (Looks answer) w → KeepsStays v w
looks_keep v w answer l = record {
  to = λ j s h. (s, ap (λ (x : FiringView). x.stays j) l.1 ∙ h, refl, refl, refl);
  from = λ j t h. (t, sym (ap (λ (x : FiringView). x.stays j) l.1) ∙ h);
  marked = ap (λ (x : FiringView). x.marked) l.1;
  bank = ap (λ (x : FiringView). x.bank) l.1;
  ceiling = ap (λ (x : FiringView). x.ceiling) l.1;
  free = ap (λ (x : FiringView). x.hand_free) l.1;
}

-- the CPU after a change of one row that leaves its id, level, index and counts
pub hard_moved : {R : Type 0} (view : R → FiringView) (size most : ℕ) (removal : Option ℕ) (lock low : R) (rows : List Row)
    (i : ℕ) (r u : Row) → IsHard view size most removal (lock_and_low lock low) rows → IsRow rows i r → Keeps r u →
    removal ≢ Some r.timer.id → IsHard view size most removal (lock_and_low lock low) (set rows i u)
hard_moved view size most removal lock low rows i r u h is keep still = record {
  ready = record {
    lock_end = end_moved level.Lock size (view lock).marked (view lock) rows i r u h.ready.lock_end is keep
        (λ q. still (h.lock_marked r.timer.id q));
    low_end = end_moved level.Low size (view low).marked (view low) rows i r u h.ready.low_end is keep
        (λ q. still (h.low_marked r.timer.id q));
    counted = counted_moved most rows i r u h.ready.counted is keep;
  };
  lock_marked = h.lock_marked;
  low_marked = h.low_marked;
  is_open = h.is_open;
}

-- the CPU after calls of the ends that leave their stays
pub hard_kept : {R : Type 0} (view : R → FiringView) (size most : ℕ) (removal : Option ℕ) (lock low lock' low' : R)
    (rows : List Row) → IsHard view size most removal (lock_and_low lock low) rows →
    KeepsStays (view lock) (view lock') → Sound (view lock') → KeepsStays (view low) (view low') → Sound (view low')
    → IsHard view size most removal (lock_and_low lock' low') rows
hard_kept view size most removal lock low lock' low' rows h k sk w sw = record {
  ready = record {
    lock_end = subst (λ m. IsEnd level.Lock size m (view lock') rows) (sym k.marked)
        (end_kept level.Lock size (view lock).marked (view lock) (view lock') rows h.ready.lock_end k sk);
    low_end = subst (λ m. IsEnd level.Low size m (view low') rows) (sym w.marked)
        (end_kept level.Low size (view low).marked (view low) (view low') rows h.ready.low_end w sw);
    counted = h.ready.counted;
  };
  lock_marked = λ id q. h.lock_marked id (sym k.marked ∙ q);
  low_marked = λ id q. h.low_marked id (sym w.marked ∙ q);
  is_open = λ id q. elim (h.is_open id q) [
    | inl m ↦ inl (k.marked ∙ m)
    | inr m ↦ inr (w.marked ∙ m)
  ];
}

pub keeps_itself : (v : FiringView) → KeepsStays v v
keeps_itself v = record {
  to = λ id s h. (s, h, refl, refl, refl);
  from = λ id t h. (t, h);
  marked = refl;
  bank = refl;
  ceiling =
      refl;
  free = refl;
}

asked_keep : {R : Type 0} (firing : Raise R) (b : Bool) (id n : ℕ) (e f : R)
    → Goes firing e (cond b (Loads id n ∷ []) []) f → KeepsStays (firing.view e) (firing.view f)
asked_keep firing true id n e f (m, (stepped, learns), last) =
    subst (λ x. KeepsStays (firing.view e) (firing.view x)) last (loads_keep (firing.view e) (firing.view m) id n learns)
asked_keep firing false id n e f g = subst (λ x. KeepsStays (firing.view e) (firing.view x)) g (keeps_itself (firing.view e))

-- an end that may have been asked
pub asks_keep : {R : Type 0} (firing : Raise R) (l own : Level) (id n : ℕ) (e f : R)
    → Goes firing e (asks_at l own id n) f → KeepsStays (firing.view e) (firing.view f)
asks_keep firing l own id n e f g = asked_keep firing _ id n e f g
