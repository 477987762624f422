-- How the cyclics of a CPU stand at the ends of its two soft levels.
use Rattle.std.specs.Prelude.{◌≡◌, ℕ, ◌+◌, ◌<◌, ◌^◌, ◌⊎◌, List, true, All, Option, Some}
use Rattle.cyc_types.specs.Series.{never}
use Rattle.cyc_types.specs.Firing.{FiringView, Stay, Sound, IsAdmitted}
use Rattle.cyc_types.specs.declared.level.Level.{Level}
use Rattle.cyc_types.specs.declared.level.Level.TheVariants.{Low, Lock}
use Rattle.cyc_timers.specs.Rows.{Row, IsRow, cyclic_of}
use Rattle.cyc_timers.specs.Made.{HasCounts}

-- what an end has of a cyclic: its index, and the counts of its stay, which with those that it carried in are the cyclic's
abbrev pub HasStay : FiringView → Row → Type 0
HasStay v r = IsAdmitted r.timer.id v (λ s. (s.index ≡ r.index) × (r.timer.expired ≡ r.carried.sent + s.sent)
    × (r.lost ≡ r.carried.lost + s.lost))

-- a cyclic of this level has the id
abbrev pub HasRow : Level → ℕ → List Row → Type 0
HasRow level id rows = (k : ℕ) × (r : Row) × IsRow rows k r × (r.timer.id ≡ id) × (r.timer.level ≡ level)

-- the cyclics of this level are exactly those admitted at the end, each at its index
pub record IsEnd (soft : Level) (size : ℕ) (marked : Option ℕ) (v : FiringView) (rows : List Row) : Type 0 where
  pub sound : Sound v
  pub free : v.hand_free ≡ true
  pub size_is : size ≡ 2 ^ v.bank
  pub marked_is : v.marked ≡ marked
  pub here : (k : ℕ) (r : Row) → IsRow rows k r → r.timer.level ≡ soft → HasStay v r
  pub only : (id : ℕ) (s : Stay) → v.stays id ≡ Some s → HasRow soft id rows
  -- an expiration is lost only where as many calls as the ceiling were outstanding
  pub over : (id : ℕ) (s : Stay) → v.stays id ≡ Some s → 0 < s.lost → v.ceiling < s.sent
  -- an open removal is of a cyclic of this level
  pub marked_here : (id : ℕ) → marked ≡ Some id → HasRow soft id rows
  -- a cyclic whose removal is open never comes to an expiration
  pub removed : (k : ℕ) (r : Row) → IsRow rows k r → marked ≡ Some r.timer.id → r.timer.moment ≡ never

-- the counts of each cyclic
abbrev pub IsCounted : ℕ → List Row → Type 0
IsCounted most rows = All (λ r. HasCounts most (cyclic_of r)) rows

-- one for each of the two soft levels
pub record Both (A : Type 0) : Type 0 where
  pub lock : A
  pub low : A

abbrev pub lock_and_low : {A : Type 0} → (lock low : A) → Both A
lock_and_low lock low = record { lock = lock; low = low }

-- both ends have the cyclics of their levels, and the marks of open removals are these
pub record IsReady {R : Type 0} (view : R → FiringView) (size most : ℕ) (marks : Both (Option ℕ)) (ends : Both R)
    (rows : List Row) : Type 0 where
  pub lock_end : IsEnd Lock size marks.lock (view ends.lock) rows
  pub low_end : IsEnd Low size marks.low (view ends.low) rows
  pub counted : IsCounted most rows

-- the marks at two ends
abbrev pub marks_at : {R : Type 0} → (R → FiringView) → (lock low : R) → Both (Option ℕ)
marks_at view lock low = lock_and_low (view lock).marked (view low).marked

-- the firing side of a CPU: both ends are ready, and an open removal is marked at the end of its level
pub record IsHard {R : Type 0} (view : R → FiringView) (size most : ℕ) (removal : Option ℕ) (ends : Both R)
    (rows : List Row) : Type 0 where
  pub ready : IsReady view size most (marks_at view ends.lock ends.low) ends rows
  pub lock_marked : (id : ℕ) → (view ends.lock).marked ≡ Some id → removal ≡ Some id
  pub low_marked : (id : ℕ) → (view ends.low).marked ≡ Some id → removal ≡ Some id
  pub is_open : (id : ℕ) → removal ≡ Some id
      → ((view ends.lock).marked ≡ Some id) ⊎ ((view ends.low).marked ≡ Some id)
