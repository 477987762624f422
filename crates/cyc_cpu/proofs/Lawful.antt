-- What is true of every CPU, from what its fields keep.
use Rattle.std.proofs.Common.{◌≡◌, ℕ, Bool, ◌<◌, ◌≤◌, Option, List, All, Some, length, get_or, refl, sym, ap, ◌∙◌, subst, arith}
use Rattle.std.proofs.Common.{inl, inr}
use Rattle.std.proofs.lemmas.Bool.{cases_lt, cases_eq}
use Rattle.std.proofs.lemmas.List.{length-map, get_or-map, get_or_default}
use Rattle.cyc_types.specs.Limits.{cyclics as most_cyclics}
use Rattle.cyc_types.specs.Firing.{FiringView}
use Rattle.cyc_types.specs.declared.level.Level.{Level}
use Rattle.cyc_types.specs.declared.level.Level.TheVariants as level
use Rattle.cyc_types.specs.Series.{never, due}
use Rattle.cyc_types.specs.Expirations.{expirations, times_of}
use Rattle.cyc_types.specs.Timers.{Timer, HasDistinctIds}
use Rattle.cyc_types.proofs.Dues.{due_later}
use Rattle.cyc_types.proofs.Laws.{times_expirations}
use Rattle.cyc_types.specs.Counting.{no_counts}
use Rattle.cyc_timers.specs.Rows.{Row, Cyclic, IsRow, IsRising, timers, cyclic_of, cyclics_of}
use Rattle.cyc_cpu.specs.Cpu.{HasCounts, HasRisingCyclics, IsRemoved}
use Rattle.cyc_timers.specs.Ends.{IsEnd, IsHard, lock_and_low}
use Rattle.cyc_cpu.specs.Losses.{IsUnder, IsSpared}
use Rattle.cyc_cpu.specs.Laws.{IsLawful}
use Rattle.cyc_cpu.proofs.Cyclics.{admitted_cyclics, rising_cyclics, counted_cyclics, removed_cyclic}

-- a stay that is under the ceiling has lost nothing
under_end : (soft : Level) (size : ℕ) (marked : Option ℕ) (v : FiringView) (rows : List Row) (k : ℕ) (r : Row)
    → IsEnd soft size marked v rows → IsRow rows k r → r.timer.level ≡ soft → r.timer.expired ≤ v.ceiling
    → r.lost ≡ r.carried.lost
under_end soft size marked v rows k r ready is at under =
    let (s, stay, (index, sent, lost)) = ready.here k r is at in
    elim (cases_lt 0 s.lost) [
      | inl some ↦ (let o = ready.over r.timer.id s stay some in absurd (omega (arith, o, sent, under)))
      | inr none ↦ omega (arith, none, lost)
    ]

-- different cyclics have different ids
pub distinct_ids : (cs : List Cyclic) → HasRisingCyclics cs → HasDistinctIds (timers cs)
distinct_ids cs rising i j d low_i low_j same =
    let l = length-map cs (λ (c : Cyclic). c.timer) in
    let e : Cyclic = record { timer = d; lost = 0; carried = no_counts } in
    let li : i < length cs = omega (arith, l, low_i) in
    let lj : j < length cs = omega (arith, l, low_j) in
    let a = ap (λ (t : Timer). t.id) (get_or-map (λ (c : Cyclic). c.timer) cs i e d li) in
    let b = ap (λ (t : Timer). t.id) (get_or-map (λ (c : Cyclic). c.timer) cs j e d lj) in
    elim (cases_eq i j) [
      | inl eq ↦ eq
      | inr ne ↦ elim (cases_lt i j) [
        | inl less ↦ let h = rising i j e less lj in absurd (omega (arith, h, a, b, same))
        | inr more ↦ let h = rising j i e (omega (arith, more, ne)) li in absurd (omega (arith, h, a, b, same))
      ]
    ]

-- a cyclic whose removal is open is never due
pub removed_never : (id now : ℕ) (cs : List Cyclic) → HasRisingCyclics cs → IsRemoved id cs → now < never
    → times_of id (expirations now (timers cs)) ≡ 0
removed_never id now cs rising (k, c, (within, is), named, soft, still) early =
    let l = length-map cs (λ (c : Cyclic). c.timer) in
    let low : k < length (timers cs) = omega (arith, within, l) in
    let at : get_or (timers cs) k c.timer ≡ c.timer = get_or-map (λ (c : Cyclic). c.timer) cs k c c.timer within
    ∙ ap (λ (c : Cyclic). c.timer) is in
    ap (λ i. times_of i (expirations now (timers cs))) (sym (ap (λ (t : Timer). t.id) at ∙ named))
    ∙ times_expirations now (timers cs) k c.timer (distinct_ids cs rising) low
    ∙ ap (λ (t : Timer). due t.moment t.interval now) at
    ∙ due_later c.timer.moment c.timer.interval now (omega (arith, early, still))

module _ {R : Type 0} (view : R → FiringView) (size room most : ℕ) (removal : Option ℕ) (lock low : R) (rows : List Row)
    (h : IsHard view size most removal (lock_and_low lock low) rows) (rising : IsRising rows) where
  -- a cyclic that is under its ceiling has lost nothing here
  pub spared_row : (k : ℕ) (r : Row) → IsRow rows k r → IsSpared (view lock).ceiling (view low).ceiling (cyclic_of r)
  spared_row k r is = by_level r.timer.level refl
    where
      by_level : (l : Level) → r.timer.level ≡ l → IsSpared (view lock).ceiling (view low).ceiling (cyclic_of r)
      by_level level.Low at under = under_end level.Low size (view low).marked (view low) rows k r h.ready.low_end is at
          (subst (λ l. IsUnder (view lock).ceiling (view low).ceiling l r.timer.expired) at under)
      by_level level.Lock at under = under_end level.Lock size (view lock).marked (view lock) rows k r h.ready.lock_end is at
          (subst (λ l. IsUnder (view lock).ceiling (view low).ceiling l r.timer.expired) at under)
      by_level level.High at under = (subst (λ (x : Row). HasCounts most (cyclic_of x)) is.1 (h.ready.counted k r is.0)).high at

  spared_all : All (IsSpared (view lock).ceiling (view low).ceiling) (cyclics_of rows)
  spared_all k d below =
      let e : Row = record { timer = d.timer; lost = d.lost; carried = d.carried; index = 0 } in
      let l = length-map rows cyclic_of in
      let at : k < length rows = omega (arith, l, below) in
      subst (IsSpared (view lock).ceiling (view low).ceiling) (sym (get_or-map cyclic_of rows k e d at))
      (spared_row k (get_or rows k e) (at, get_or_default rows k (get_or rows k e) e at))

  pub lawful : (suspended : Bool) → length rows ≤ size → size ≤ most_cyclics → size ≤ room
      → IsLawful view (record {
        cyclics = cyclics_of rows;
        removal = removal;
        size = size;
        room = room;
        most = most;
        suspended = suspended;
        lock =
            lock;
        low = low;
      })
  lawful suspended few small reserved =
      let up = rising_cyclics rows rising in
      let removed = λ (id : ℕ) (q : removal ≡ Some id). removed_cyclic view size most removal lock low rows id h q in
      record {
        rising = up;
        distinct = distinct_ids (cyclics_of rows) up;
        counted = counted_cyclics most rows h.ready.counted;
        lock = admitted_cyclics level.Lock size (view lock).marked (view lock) rows h.ready.lock_end;
        low = admitted_cyclics level.Low size (view low).marked (view low) rows h.ready.low_end;
        sound_lock = h.ready.lock_end.sound;
        sound_low = h.ready.low_end.sound;
        spared = spared_all;
        removed = removed;
        never_due = λ id now q early. removed_never id now (cyclics_of rows) up (removed id q) early;
        marked_lock = h.lock_marked;
        marked_low = h.low_marked;
        lock_bank = h.ready.lock_end.size_is;
        low_bank = h.ready.low_end.size_is;
        few = (let l = length-map rows cyclic_of in omega (arith, l, few));
        size = small;
        room = reserved;
      }
