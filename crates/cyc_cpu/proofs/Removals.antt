-- A cyclic that leaves its CPU, and a removal that stays open.
use Rattle.std.proofs.Common.{◌≡◌, ◌≢◌, ℕ, ◌+◌, ◌<◌, ◌⊎◌, inl, inr, Bool, true, false, cond, eqb, Option, Some, None}
use Rattle.std.proofs.Common.{List, [], ◌∷◌, refl, sym, ap, ◌∙◌, subst, arith, length, get_or, eq-eqb, suc, take, drop, ◌++◌}
use Rattle.std.specs.Prelude.{remove}
use Rattle.std.proofs.Math.ListN.{set}
use Rattle.std.proofs.lemmas.List.{get_or_default, map-append, take-map, drop-map}
use Rattle.cyc_types.specs.Series.{never}
use Rattle.cyc_types.specs.declared.Raise.{Ghosts as Raise}
use Rattle.cyc_types.specs.Firing.{FiringView, FiringCall, Loads, Marks, Polls, Learns, Sound, Stay, MayMark, MayPoll, edited}
use Rattle.cyc_types.specs.Firing.{saw, seen_in, seen_of, sent_in, sent_of}
use Rattle.cyc_types.specs.Runs.{Goes}
use Rattle.cyc_types.specs.declared.firing.Sent.{Sent}
use Rattle.cyc_types.specs.declared.level.Level.{Level}
use Rattle.cyc_types.specs.declared.level.Level.TheVariants as level
use Rattle.cyc_timers.specs.Rows.{Row, Cyclic, IsRow, IsRising, at_moment, cyclic_of, cyclics_of}
use Rattle.cyc_timers.specs.Acts.{same_level}
use Rattle.cyc_timers.specs.Ends.{HasRow, IsEnd, IsCounted, IsHard, lock_and_low}
use Rattle.cyc_timers.specs.Quiet.{KeepsStays}
use Rattle.cyc_cpu.specs.Cpu.{CpuView, HasCounts}
use Rattle.cyc_cpu.specs.Removal.{calls_at, HasPolled, Opens, Leaves, WaitsHere, Ends, IsReceipt}
use Rattle.cyc_types.specs.declared.receipt.Receipt.{Receipt}
use Rattle.cyc_timers.proofs.Readying.{Keeps, row_cases, row_new, ids_apart, end_moved, counted_moved, end_kept, loads_keep}
use Rattle.cyc_timers.proofs.Readying.{keeps_itself}
use Rattle.cyc_cpu.proofs.Cleared.{row_less, one_row, Clears, sees_load, sees_mark, clears_poll, clears_after}
use Rattle.cyc_cpu.proofs.Cleared.{end_left, end_off, level_cases, goes_here, goes_not}

-- an end after a cyclic has left: it was cleared at the end of its level, and the other is as it was, with no removal open
pub record EndLeft {R : Type 0} (view : R → FiringView) (soft own : Level) (id : ℕ) (e f : R) : Type 0 where
  pub cleared : own ≡ soft → Clears (view e) (view f) id
  pub sound : own ≡ soft → Sound (view f)
  pub same : own ≢ soft → f ≡ e
  pub unmarked : own ≢ soft → (view e).marked ≡ None

module _ {R : Type 0} (firing : Raise R) (soft own : Level) (id : ℕ)
    (counts : Sent) where
  -- a removal that is done at once
  pub begun_left : (e f : R) → Goes firing e (calls_at soft own (Marks id 0 ∷ Polls id (Some counts) ∷ [])) f
      → Sound (firing.view f)
      → (own ≢ soft → (firing.view e).marked ≡ None) → EndLeft firing.view soft own id e f
  begun_left e f goes sound unmarked = record {
    cleared = λ at. (let (m, (s1, l1), (n, (s2, l2), last)) = goes_here firing soft own e f _ goes at in
        subst (λ x. Clears (firing.view e) (firing.view x) id) last
        (clears_after (firing.view e) (firing.view m) (firing.view n) id (sees_mark (firing.view e) (firing.view m) id 0 l1)
        (clears_poll (firing.view m) (firing.view n) id counts l2)));
    sound = λ at. sound;
    same = goes_not firing soft own e f _ goes;
    unmarked = unmarked;
  }

  -- an open removal that ends
  pub polled_left : (e f : R) → Goes firing e (calls_at soft own (Polls id (Some counts) ∷ [])) f → Sound (firing.view f)
      → (own ≢ soft → (firing.view e).marked ≡ None) → EndLeft firing.view soft own id e f
  polled_left e f goes sound unmarked = record {
    cleared = λ at. (let (n, (s2, l2), last) = goes_here firing soft own e f _ goes at in
        subst (λ x. Clears (firing.view e) (firing.view x) id) last (clears_poll (firing.view e) (firing.view n) id counts l2));
    sound = λ at. sound;
    same = goes_not firing soft own e f _ goes;
    unmarked = unmarked;
  }

-- a cyclic that is taken where nothing of it is outstanding
pub taken_left : {R : Type 0} (firing : Raise R) (soft own : Level) (id : ℕ)
    (counts : Sent) (e f : R) →
    Goes firing e (calls_at soft own (Loads id 0 ∷ Marks id 0 ∷ Polls id (Some counts) ∷ [])) f → Sound (firing.view f)
    → (own ≢ soft → (firing.view e).marked ≡ None) → EndLeft firing.view soft own id e f
taken_left firing soft own id counts e f goes sound unmarked = record {
  cleared = λ at. (let (a, (s0, l0), (m, (s1, l1), (n, (s2, l2), last))) = goes_here firing soft own e f _ goes at in
      subst (λ x. Clears (firing.view e) (firing.view x) id) last
      (clears_after (firing.view e) (firing.view a) (firing.view n) id (sees_load (firing.view e) (firing.view a) id 0 l0)
      (clears_after (firing.view a) (firing.view m) (firing.view n) id (sees_mark (firing.view a) (firing.view m) id 0 l1)
      (clears_poll (firing.view m) (firing.view n) id counts l2))));
  sound = λ at. sound;
  same = goes_not firing soft own e f _ goes;
  unmarked = unmarked;
}

pub counted_left : (most : ℕ) (rows : List Row) (k : ℕ) → k < length rows → IsCounted most rows → IsCounted most (remove rows k)
counted_left most rows k low counted j d long =
    let x = get_or (remove rows k) j d in
    let (i, ne, old) = row_less rows k j x low (long, get_or_default (remove rows k) j x d long) in
    subst (λ (y : Row). HasCounts most (cyclic_of y)) old.1 (counted i x old.0)

module _ {R : Type 0} (view : R → FiringView) (size : ℕ) (rows : List Row) (k : ℕ) (r : Row) (rising : IsRising rows)
    (is : IsRow rows k r) where
  end_after : (soft : Level) (e f : R) → IsEnd soft size (view e).marked (view e) rows
      → EndLeft view soft r.timer.level r.timer.id e f →
      IsEnd soft size (view f).marked (view f) (remove rows k) × ((view f).marked ≡ None)
  end_after soft e f ready h = elim (level_cases r.timer.level soft) [
    | inl at ↦ (let c = h.cleared at in (
      subst (λ m. IsEnd soft size m (view f) (remove rows k)) (sym c.marked)
          (end_left soft size (view e).marked (view e) rows k r ready is (view f) rising c (h.sound at)),
      c.marked,
    ))
    | inr off ↦ (let eq = h.same off in (
      subst (λ x. IsEnd soft size (view x).marked (view x) (remove rows k)) (sym eq)
          (end_off soft size (view e).marked (view e) rows k r ready is off),
      ap (λ x. (view x).marked) eq ∙ h.unmarked off,
    ))
  ]

  -- the CPU without a cyclic
  pub hard_left : (most : ℕ) (removal : Option ℕ) (lock low lock' low' : R)
      → IsHard view size most removal (lock_and_low lock low) rows →
      EndLeft view level.Lock r.timer.level r.timer.id lock lock' → EndLeft view level.Low r.timer.level r.timer.id low low'
      → IsHard view size most None (lock_and_low lock' low') (remove rows k)
  hard_left most removal lock low lock' low' h a b =
      let (lock_end, no_lock) = end_after level.Lock lock lock' h.ready.lock_end a in
      let (low_end, no_low) = end_after level.Low low low' h.ready.low_end b in
      record {
        ready = record { lock_end = lock_end; low_end = low_end; counted = counted_left most rows k is.0 h.ready.counted };
        lock_marked = λ id q. absurd (let no : None ≡ Some id = sym no_lock ∙ q in cc);
        low_marked = λ id q. absurd (let no : None ≡ Some id = sym no_low ∙ q in cc);
        is_open = λ id q. absurd (let no : None ≡ Some id = q in cc);
      }

-- no end has a mark where no removal is open
pub no_mark : (o removal : Option ℕ) → ((id : ℕ) → o ≡ Some id → removal ≡ Some id) → removal ≡ None → o ≡ None
no_mark None removal h none = refl
no_mark (Some id) removal h none = absurd (let yes : removal ≡ Some id = h id refl in cc)

-- an open removal is marked at the end of its cyclic's level, and at no other
module _ {R : Type 0} (view : R → FiringView) (size most : ℕ) (removal : Option ℕ) (lock low : R) (rows : List Row) (k : ℕ)
    (r : Row)
    (h : IsHard view size most removal (lock_and_low lock low) rows) (rising : IsRising rows) (is : IsRow rows k r)
    (removed : removal ≡ Some r.timer.id) where
  at_its_level : (level : Level) → HasRow level r.timer.id rows → r.timer.level ≡ level
  at_its_level level (j, x, is_x, named, at) = ap (λ (y : Row). y.timer.level) (sym (one_row rows k j r x rising is is_x named))
      ∙ at

  marked_cases : ((r.timer.level ≡ level.Lock) × ((view lock).marked ≡ Some r.timer.id))
      ⊎ ((r.timer.level ≡ level.Low) × ((view low).marked ≡ Some r.timer.id))
  marked_cases = elim (h.is_open r.timer.id removed) [
    | inl m ↦ inl (at_its_level level.Lock (h.ready.lock_end.marked_here r.timer.id m), m)
    | inr m ↦ inr (at_its_level level.Low (h.ready.low_end.marked_here r.timer.id m), m)
  ]

  pub marked_lock : r.timer.level ≡ level.Lock → (view lock).marked ≡ Some r.timer.id
  marked_lock at = elim marked_cases [
    | inl (lock_is, m) ↦ m
    | inr (low_is, m) ↦ absurd (let no : level.Low ≡ level.Lock = sym low_is ∙ at in cc)
  ]

  pub marked_low : r.timer.level ≡ level.Low → (view low).marked ≡ Some r.timer.id
  marked_low at = elim marked_cases [
    | inl (lock_is, m) ↦ absurd (let no : level.Lock ≡ level.Low = sym lock_is ∙ at in cc)
    | inr (low_is, m) ↦ m
  ]

  none_at : (o : Option ℕ) (level : Level) → ((id : ℕ) → o ≡ Some id → removal ≡ Some id)
      → ((id : ℕ) → o ≡ Some id → HasRow level id rows) → r.timer.level ≢ level → o ≡ None
  none_at None level to row off = refl
  none_at (Some id) level to row off =
      let same : id ≡ r.timer.id = (let a : removal ≡ Some id = to id refl in cc) in
      absurd (off (at_its_level level (subst (λ q. HasRow level q rows) same (row id refl))))

  pub unmarked_lock : r.timer.level ≢ level.Lock → (view lock).marked ≡ None
  unmarked_lock off = none_at (view lock).marked level.Lock h.lock_marked h.ready.lock_end.marked_here off

  pub unmarked_low : r.timer.level ≢ level.Low → (view low).marked ≡ None
  unmarked_low off = none_at (view low).marked level.Low h.low_marked h.ready.low_end.marked_here off

unmarked_sound : (u : FiringView) (m : Option ℕ) → Sound (record u { marked = m }) → Sound u
unmarked_sound u m s = record {
  some_ceiling = s.some_ceiling;
  capped = s.capped;
  owed = s.owed;
  apart = s.apart;
  inside =
      s.inside;
  greatest = s.greatest;
}

-- the end at which a removal is open from now on
end_remarked : (soft : Level) (size : ℕ) (marked : Option ℕ) (u : FiringView) (rows : List Row) (id : ℕ)
    → IsEnd soft size marked u rows → Sound (record u { marked = Some id }) → HasRow soft id rows →
    ((j : ℕ) (x : Row) → IsRow rows j x → x.timer.id ≡ id → x.timer.moment ≡ never)
    → IsEnd soft size (Some id) (record u { marked = Some id }) rows
end_remarked soft size marked u rows id ready sound row still = record {
  sound = sound;
  free = ready.free;
  size_is = ready.size_is;
  marked_is = refl;
  here = ready.here;
  only = ready.only;
  over = ready.over;
  marked_here = λ q h. (let same : id ≡ q = cc in subst (λ x. HasRow soft x rows) same row);
  removed = λ j x is h. still j x is (let same : id ≡ x.timer.id = cc in sym same);
}

end_marks : (soft : Level) (size : ℕ) (marked : Option ℕ) (v w : FiringView) (rows : List Row) (id n : ℕ)
    → IsEnd soft size marked v rows → Learns v (Marks id n) w → Sound w → HasRow soft id rows →
    ((j : ℕ) (x : Row) → IsRow rows j x → x.timer.id ≡ id → x.timer.moment ≡ never) → IsEnd soft size (Some id) w rows
end_marks soft size marked v w rows id n ready l sound row still =
    let u = saw id n v in
    let s : Sound (record u { marked = Some id }) = subst Sound l.1 sound in
    subst (λ x. IsEnd soft size (Some id) x rows) (sym l.1)
    (end_remarked soft size marked u rows id
    (end_kept soft size marked v u rows ready (loads_keep v u id n (l.0, refl)) (unmarked_sound u (Some id) s)) s row still)

module _ {R : Type 0} (firing : Raise R) (size : ℕ) (rows : List Row) (k n : ℕ)
    (r : Row) (rising : IsRising rows) (is : IsRow rows k r) where
  abbrev u : Row
  u = at_moment never r

  keeps : Keeps r u
  keeps = record { id = refl; level = refl; index = refl; expired = refl; lost = refl; carried = refl }

  never_now : (j : ℕ) (x : Row) → IsRow (set rows k u) j x → x.timer.id ≡ r.timer.id → x.timer.moment ≡ never
  never_now j x is_x same = elim (row_cases rows k j u x is.0 is_x) [
    | inl (eq, now) ↦ ap (λ (y : Row). y.timer.moment) now
    | inr (ne, old) ↦ absurd (ids_apart rows k j r x rising is old ne same)
  ]

  end_opened : (soft : Level) (e f : R) → IsEnd soft size (firing.view e).marked (firing.view e) rows → (firing.view e).marked
      ≡ None
      → Goes firing e (calls_at soft r.timer.level (Marks r.timer.id n ∷ [])) f → Sound (firing.view f) →
      IsEnd soft size (firing.view f).marked (firing.view f) (set rows k u)
      × (r.timer.level ≡ soft → (firing.view f).marked ≡ Some r.timer.id)
      × (r.timer.level ≢ soft → (firing.view f).marked ≡ None)
  end_opened soft e f ready none goes sound =
      let moved = end_moved soft size (firing.view e).marked (firing.view e) rows k r u ready is keeps
      (λ q. let no : None ≡ Some r.timer.id = sym none ∙ q in absurd (cc)) in
      elim (level_cases r.timer.level soft) [
        | inl at ↦
            (let (m, (s, l), last) = goes_here firing soft r.timer.level e f _ goes at in
            let l' = subst (λ x. Learns (firing.view e) (Marks r.timer.id n) (firing.view x)) last l in
            let opened = end_marks soft size (firing.view e).marked (firing.view e) (firing.view f)
            (set rows k u) r.timer.id n moved l' sound
            (k, u, row_new rows k u is.0, refl, at) never_now in
            let marked : (firing.view f).marked ≡ Some r.timer.id = ap (λ (x : FiringView). x.marked) l'.1 in (
              subst (λ m. IsEnd soft size m (firing.view f) (set rows k u)) (sym marked) opened,
              (λ q. marked),
              (λ off. absurd (off at)),
            ))
        | inr off ↦
            (let eq = goes_not firing soft r.timer.level e f _ goes off in (
              subst (λ x. IsEnd soft size (firing.view x).marked (firing.view x) (set rows k u)) (sym eq) moved,
              (λ q. absurd (off q)),
              (λ q. ap (λ x. (firing.view x).marked) eq ∙ none),
            ))
      ]

  -- the CPU with a removal that stays open
  pub hard_opened : (most : ℕ) (removal : Option ℕ) (lock low lock' low' : R)
      → IsHard firing.view size most removal (lock_and_low lock low) rows
      → removal ≡ None → r.timer.level ≢ level.High →
      Goes firing lock (calls_at level.Lock r.timer.level (Marks r.timer.id n ∷ [])) lock'
      → Goes firing low (calls_at level.Low r.timer.level (Marks r.timer.id n ∷ [])) low' →
      Sound (firing.view lock') → Sound (firing.view low') → IsHard firing.view size most (Some r.timer.id) (lock_and_low lock'
      low')
      (set rows k u)
  hard_opened most removal lock low lock' low' h none soft a b sound_lock sound_low =
      let (lock_end, lock_yes, lock_no) = end_opened level.Lock lock lock' h.ready.lock_end
      (no_mark (firing.view lock).marked removal h.lock_marked none) a sound_lock in
      let (low_end, low_yes, low_no) = end_opened level.Low low low' h.ready.low_end
      (no_mark (firing.view low).marked removal h.low_marked none) b sound_low in
      record {
        ready = record {
          lock_end = lock_end;
          low_end = low_end;
          counted =
              counted_moved most rows k r u h.ready.counted is keeps;
        };
        lock_marked = λ id q. elim (level_cases r.timer.level level.Lock) [
          | inl at ↦ sym (lock_yes at) ∙ q
          | inr off ↦ absurd (let no : None ≡ Some id = sym (lock_no off) ∙ q in cc)
        ];
        low_marked = λ id q. elim (level_cases r.timer.level level.Low) [
          | inl at ↦ sym (low_yes at) ∙ q
          | inr off ↦ absurd (let no : None ≡ Some id = sym (low_no off) ∙ q in cc)
        ];
        is_open = λ id q. elim (level_cases r.timer.level level.Lock) [
          | inl at ↦ inl (lock_yes at ∙ q)
          | inr off ↦ elim (level_cases r.timer.level level.Low) [
            | inl at ↦ inr (low_yes at ∙ q)
            | inr neither ↦ absurd (three r.timer.level off neither soft)
          ]
        ];
      }
    where
      three : (l : Level) → l ≢ level.Lock → l ≢ level.Low → l ≢ level.High → ⊥
      three level.Low a b c = b refl
      three level.Lock a b c = a refl
      three level.High a b c = c refl

polled_keeps : {R : Type 0} (firing : Raise R) (b : Bool) (id : ℕ) (e f : R)
    → Goes firing e (cond b (Polls id None ∷ []) []) f → KeepsStays (firing.view e) (firing.view f)
polled_keeps firing true id e f (m, (stepped, (pend, some, few, saw)), last) =
    subst (λ x. KeepsStays (firing.view e) (firing.view x)) last (loads_keep (firing.view e) (firing.view m) id pend (few, saw))
polled_keeps firing false id e f g = subst (λ x. KeepsStays (firing.view e) (firing.view x)) g (keeps_itself (firing.view e))

-- an end that may have been polled
pub polls_keep : {R : Type 0} (firing : Raise R) (l own : Level) (id : ℕ) (e f : R)
    → Goes firing e (calls_at l own (Polls id None ∷ [])) f → KeepsStays (firing.view e) (firing.view f)
polls_keep firing l own id e f g = polled_keeps firing (same_level l own) id e f g

marked_stay : (b : Bool) (n : ℕ) (o : Option Stay) (s : Stay) → o ≡ Some s → (t : Stay)
    × (cond b (edited (λ s. record s { seen = n }) o) o ≡ Some t) × Unit {0}
marked_stay true n o s h = (record s { seen = n }, ap (edited (λ s. record s { seen = n })) h, tt)
marked_stay false n o s h = (s, h, tt)

-- a cyclic that was just marked may be polled
pub may_poll : (v w : FiringView) (id n : ℕ) → MayMark id v → Learns v (Marks id n) w → MayPoll id w
may_poll v w id n ((s, stay, _), none, free) l =
    let (t, there, unit) = marked_stay (eqb id id) n (v.stays id) s stay in (
      (t, ap (λ (x : FiringView). x.stays id) l.1 ∙ there, tt),
      ap (λ (x : FiringView). x.marked) l.1,
      ap (λ (x : FiringView). x.hand_free) l.1 ∙ free,
    )

pub cyclics_less : (rows : List Row) (k : ℕ) → cyclics_of (remove rows k) ≡ remove (cyclics_of rows) k
cyclics_less rows k = map-append cyclic_of (take k rows) (drop (suc k) rows)
    ∙ (λ j. sym (take-map cyclic_of k rows) j ++ sym (drop-map cyclic_of (suc k) rows) j)

-- the view of a CPU in place of its fields
module _ {R : Type 0} (firing : Raise R) where
  pub opens_from : (id n : ℕ) (u v w : CpuView R) → u ≡ v → Opens firing id n u w → Opens firing id n v w
  opens_from id n u v w is a = subst (λ x. Opens firing id n x w) is a

  pub leaves_from : (id : ℕ) (way : List FiringCall) (c : Cyclic) (u v w : CpuView R) → u ≡ v → Leaves firing id way c u w
      → Leaves firing id way c v w
  leaves_from id way c u v w is a = subst (λ x. Leaves firing id way c x w) is a

  pub waits_from : (id : ℕ) (u v w : CpuView R) → u ≡ v → WaitsHere firing id u w → WaitsHere firing id v w
  waits_from id u v w is a = subst (λ x. WaitsHere firing id x w) is a

  pub ends_from : (receipt : Receipt) (id : ℕ) (c : Cyclic) (counts : Sent) (u v w : CpuView R) → u ≡ v → u.removal ≡ Some id
      → receipt.id ≡ id → IsReceipt receipt c → HasPolled firing.view counts v c →
      Leaves firing id (Polls id (Some counts) ∷ []) c u w → Ends firing receipt v w
  ends_from receipt id c counts u v w is removed named counted polled leaves = record {
    was_open = sym (ap (λ (x : CpuView R). x.removal) is) ∙ removed ∙ ap Some (sym named);
    cyclic = c;
    counts = counts;
    counted = counted;
    polled = polled;
    leaves = leaves_from receipt.id (Polls receipt.id (Some counts) ∷ []) c u v w is
        (subst (λ q. Leaves firing q (Polls q (Some counts) ∷ []) c u w) (sym named) leaves);
  }

-- a cyclic that was just asked for may be marked, and what was found is what is seen of it
pub may_mark : (v w : FiringView) (id n : ℕ) → MayMark id v → Learns v (Loads id n) w → MayMark id w
may_mark v w id n ((s, stay, _), none, free) l =
    let (t, there, unit) = marked_stay (eqb id id) n (v.stays id) s stay in (
      (t, ap (λ (x : FiringView). x.stays id) l.1 ∙ there, tt),
      ap (λ (x : FiringView). x.marked) l.1
          ∙ none,
      ap (λ (x : FiringView). x.hand_free) l.1 ∙ free,
    )

seen_stay : (n : ℕ) (o : Option Stay) (s : Stay) → o ≡ Some s → seen_in (edited (λ s. record s { seen = n }) o) ≡ n
seen_stay n (Some t) s h = refl
seen_stay n None s h = absurd (let wrong : None ≡ Some s = h in cc)

pub seen_now : (v w : FiringView) (id n : ℕ) → MayMark id v → Learns v (Loads id n) w → seen_of id w ≡ n
seen_now v w id n ((s, stay, _), none, free) l =
    ap (λ (x : FiringView). seen_of id x) l.1
    ∙ (let yes : eqb id id ≡ true = eq-eqb id id refl in
    ap (λ b. seen_in (cond b (edited (λ s. record s { seen = n }) (v.stays id)) (v.stays id))) yes)
    ∙ seen_stay n (v.stays id) s stay

-- the counts that the end of a stay answered
loaded_sent : (b : Bool) (n : ℕ) (o : Option Stay) → sent_in (cond b (edited (λ s. record s { seen = n }) o) o) ≡ sent_in o
loaded_sent true n None = refl
loaded_sent true n (Some s) = refl
loaded_sent false n o = refl

sent_loaded : (v w : FiringView) (id n : ℕ) → Learns v (Loads id n) w → sent_of id w ≡ sent_of id v
sent_loaded v w id n l = ap (λ (x : FiringView). sent_of id x) l.1 ∙ loaded_sent (eqb id id) n (v.stays id)

sent_marked : (v w : FiringView) (id n : ℕ) → Learns v (Marks id n) w → sent_of id w ≡ sent_of id v
sent_marked v w id n l = ap (λ (x : FiringView). sent_of id x) l.1 ∙ loaded_sent (eqb id id) n (v.stays id)

module _ {R : Type 0} (firing : Raise R) (id : ℕ) (counts : Sent) (e f : R) where
  pub polled_sent : Goes firing e (Polls id (Some counts) ∷ []) f → sent_of id (firing.view e) ≡ Some counts
  polled_sent (m, (s, l), last) = l.0

  pub begun_sent : Goes firing e (Marks id 0 ∷ Polls id (Some counts) ∷ []) f → sent_of id (firing.view e) ≡ Some counts
  begun_sent (m, (s, l), (n, (s', l'), last)) = sym (sent_marked (firing.view e) (firing.view m) id 0 l) ∙ l'.0

  pub taken_sent : Goes firing e (Loads id 0 ∷ Marks id 0 ∷ Polls id (Some counts) ∷ []) f → sent_of id (firing.view e)
      ≡ Some counts
  taken_sent (k, (s, l), (m, (s', l'), (n, (s'', l''), last))) = sym (sent_loaded (firing.view e) (firing.view k) id 0 l)
      ∙ sym (sent_marked (firing.view k) (firing.view m) id 0 l') ∙ l''.0

stay_counts : (o : Option Stay) (s : Stay) (counts : Sent) → o ≡ Some s → sent_in o ≡ Some counts → (counts.sent ≡ s.sent)
    × (counts.lost ≡ s.lost)
stay_counts o s counts h k =
    let is : Some (record { sent = s.sent; lost = s.lost }) ≡ Some counts = sym (ap sent_in h) ∙ k in
    let same : record { sent = s.sent; lost = s.lost } ≡ counts = cc in
    (ap (λ (x : Sent). x.sent) (sym same), ap (λ (x : Sent). x.lost) (sym same))

-- what a cyclic that leaves has: what it carried in, and what the end of its stay answered
pub has_polled : {R : Type 0} (firing : Raise R) (size : ℕ)
    (lock_marked low_marked : Option ℕ) (lock low lock' low' : R) (rows : List Row) (k : ℕ) (r : Row) (counts : Sent)
    (way : List FiringCall)
    → IsEnd level.Lock size lock_marked (firing.view lock) rows → IsEnd level.Low size low_marked (firing.view low) rows
    → IsRow rows k r
    → Goes firing lock (calls_at level.Lock r.timer.level way) lock'
    → Goes firing low (calls_at level.Low r.timer.level way) low'
    → ((e f : R) → Goes firing e way f → sent_of r.timer.id (firing.view e) ≡ Some counts) → r.timer.level ≢ level.High
    → (r.timer.expired ≡ r.carried.sent + counts.sent) × (r.lost ≡ r.carried.lost + counts.lost)
has_polled {R} firing size lock_marked low_marked lock low lock' low' rows k r counts way lock_end low_end is a b tells soft =
    by_level r.timer.level refl
  where
    at_end : (own : Level) (marked : Option ℕ) (e f : R) → r.timer.level ≡ own → IsEnd own size marked (firing.view e) rows
        → Goes firing e (calls_at own r.timer.level way) f
        → (r.timer.expired ≡ r.carried.sent + counts.sent) × (r.lost ≡ r.carried.lost + counts.lost)
    at_end own marked e f at ready goes =
        let (s, stay, (index, sent, lost)) = ready.here k r is at in
        let (x, y) = stay_counts ((firing.view e).stays r.timer.id) s counts stay
        (tells e f (goes_here firing own r.timer.level e f way goes at)) in
        (omega (arith, sent, x), omega (arith, lost, y))

    by_level : (l : Level) → r.timer.level ≡ l → (r.timer.expired ≡ r.carried.sent + counts.sent)
        × (r.lost ≡ r.carried.lost + counts.lost)
    by_level level.High at = absurd (soft at)
    by_level level.Lock at = at_end level.Lock lock_marked lock lock' at lock_end a
    by_level level.Low at = at_end level.Low low_marked low low' at low_end b
