-- What callers see of the firing side of one CPU.
use Rattle.std.specs.Prelude.{◌≡◌, ◌≢◌, ℕ, ◌+◌, ◌^◌, nat_le, cond, insert, ◌<◌, ◌≤◌, max, List, length, slice_index_or}
use Rattle.std.specs.Prelude.{All, Bool, true, false, ◌⊎◌, Option, Some, None}
use Rattle.cyc_types.specs.declared.Raise.{Ghosts as Raise}
use Rattle.cyc_types.specs.Firing.{FiringView, Expands, Stay, IsAdmitted, seen_of}
use Rattle.cyc_types.specs.Series.{never}
use Rattle.cyc_types.specs.Limits.{cyclics as most_cyclics}
use Rattle.cyc_types.specs.Runs.{Goes, Taught}
pub use Rattle.cyc_types.specs.Banks.{least_bank, bank_for}
use Rattle.cyc_types.specs.declared.level.Level.{Level}
use Rattle.cyc_types.specs.declared.level.Level.TheVariants.{Low, Lock, High}
use Rattle.cyc_types.specs.declared.refusal.Refusal.{Refusal}
use Rattle.cyc_types.specs.declared.refusal.Refusal.TheVariants as why
use Rattle.cyc_timers.specs.Rows.{Cyclic}
use Rattle.cyc_timers.specs.Quiet.{asks_at, admits_at, OnlyLooks}
use Rattle.cyc_timers.specs.Acts.{Sides}
use Rattle.cyc_timers.specs.Made.{FireState, fire_state}
pub use Rattle.cyc_timers.specs.Made.{Makes, WhyStopped, HasCounts}
pub use Rattle.cyc_timers.specs.Rows.{Rises, IsAt, IsPassed, ComesAfter, IsNextAfter}

-- the firing side of one CPU
pub record CpuView (R : Type 0) : Type 0 where
  -- the cyclics by rising ids, with the one whose removal is open
  pub cyclics : List Cyclic
  -- the id of the cyclic whose removal is open: its moment is never
  pub removal : Option ℕ
  -- the number of indexes
  pub size : ℕ
  -- the number of indexes for which memory was taken
  pub room : ℕ
  -- the most expirations of a cyclic
  pub most : ℕ
  -- it makes no fire, until it is resumed
  pub suspended : Bool
  pub lock : R
  pub low : R

-- a CPU and the handlers of its cyclics
pub record Running (C R : Type 0) : Type 0 where
  pub cpu : CpuView R
  pub calls : C

abbrev pub running : {C R : Type 0} → C → CpuView R → Running C R
running calls v = record { cpu = v; calls = calls }

-- what a fire acts on of these
abbrev pub sides : {C R : Type 0} → C → CpuView R → Sides C R
sides calls v = record { calls = calls; lock = v.lock; low = v.low }

-- what a fire changes of these
abbrev pub fired_on : {C R : Type 0} → C → CpuView R → FireState C R
fired_on calls v = fire_state v.cyclics (sides calls v)

-- what was seen of a cyclic at the two ends: at least its outstanding calls
abbrev pub seen_at : {R : Type 0} → (R → FiringView) → ℕ → CpuView R → ℕ
seen_at view id v = seen_of id (view v.lock) + seen_of id (view v.low)

-- what no fire and no question changes
pub record SameCpu {R : Type 0} (v w : CpuView R) : Type 0 where
  pub removal : w.removal ≡ v.removal
  pub size : w.size ≡ v.size
  pub room : w.room ≡ v.room
  pub most : w.most ≡ v.most
  pub suspended : w.suspended ≡ v.suspended

-- an end with no cyclic, on bank 0
pub record IsFresh (v : FiringView) : Type 0 where
  pub none : (id : ℕ) → v.stays id ≡ None
  pub unmarked : v.marked ≡ None
  pub bank : v.bank ≡ 0
  pub free : v.hand_free ≡ true

-- the cyclic at a position
abbrev pub IsCyclic : List Cyclic → ℕ → Cyclic → Type 0
IsCyclic cs k c = (k < length cs) × (slice_index_or cs k c ≡ c)

-- no cyclic has this id
abbrev pub HasNoCyclic : ℕ → List Cyclic → Type 0
HasNoCyclic id cs = All (λ c. c.timer.id ≢ id) cs

-- the cyclics of a soft level are exactly those admitted at its end, which counts of each what it didn't carry in
pub record AreAdmitted (soft : Level) (v : FiringView) (cs : List Cyclic) : Type 0 where
  pub here : (k : ℕ) (c : Cyclic) → IsCyclic cs k c → c.timer.level ≡ soft
      → IsAdmitted c.timer.id v (λ s. (c.timer.expired ≡ c.carried.sent + s.sent) × (c.lost ≡ c.carried.lost + s.lost))
  pub only : (id : ℕ) (s : Stay) → v.stays id ≡ Some s → (k : ℕ) × (c : Cyclic) × IsCyclic cs k c × (c.timer.id ≡ id)
      × (c.timer.level ≡ soft)
  -- a stay lost an expiration only after as many as the ceiling
  pub over : (id : ℕ) (s : Stay) → v.stays id ≡ Some s → 0 < s.lost → v.ceiling < s.sent

-- an open removal is of one cyclic of a soft level, which never expires
abbrev pub IsRemoved : ℕ → List Cyclic → Type 0
IsRemoved id cs = (k : ℕ) × (c : Cyclic) × IsCyclic cs k c × (c.timer.id ≡ id) × (c.timer.level ≢ High) × (c.timer.moment ≡ never)

-- the ids of the cyclics rise
abbrev pub HasRisingCyclics : List Cyclic → Type 0
HasRisingCyclics cs = (i j : ℕ) (d : Cyclic) → i < j → j < length cs
    → (slice_index_or cs i d).timer.id < (slice_index_or cs j d).timer.id

-- the cyclic with another moment
abbrev pub with_moment : ℕ → Cyclic → Cyclic
with_moment m c = record c { timer = record c.timer { moment = m } }

-- the cyclic was asked for at its end, which answered so many calls outstanding; nothing else was done
pub record Asks {R : Type 0} (firing : Raise R) (id n : ℕ)
    (v w : CpuView R) : Type 0 where
  pub position : ℕ
  pub cyclic : Cyclic
  pub here : IsCyclic v.cyclics position cyclic
  pub named : cyclic.timer.id ≡ id
  pub high : cyclic.timer.level ≡ High → n ≡ 0
  pub lock : Goes firing v.lock (asks_at Lock cyclic.timer.level id n) w.lock
  pub low : Goes firing v.low (asks_at Low cyclic.timer.level id n) w.low
  pub cyclics : w.cyclics ≡ v.cyclics
  pub kept : SameCpu v w

-- the ends were asked at most whether their soft sides have followed
pub record Looked {R : Type 0} (firing : Raise R) (v w : CpuView R) : Type 0 where
  pub lock : OnlyLooks firing v.lock w.lock
  pub low : OnlyLooks firing v.low w.low
  pub cyclics : w.cyclics ≡ v.cyclics
  pub kept : SameCpu v w

-- both soft levels were seen to have followed
abbrev pub HasFollowed : {R : Type 0} → (R → FiringView) → CpuView R → Type 0
HasFollowed view v = ((view v.lock).followed ≡ true) × ((view v.low).followed ≡ true)

-- so many more cyclics fit, and where the size must grow it can
pub record HasRoom {R : Type 0} (view : R → FiringView) (more : ℕ) (v : CpuView R) : Type 0 where
  pub fits : length v.cyclics + more ≤ most_cyclics
  pub still : v.size < length v.cyclics + more → (v.removal ≡ None) × HasFollowed view v

-- why there is no room for so many more
abbrev pub WhyNoRoom : {R : Type 0} → (R → FiringView) → ℕ → CpuView R → Refusal → Type 0
WhyNoRoom view more v why.Full = most_cyclics < length v.cyclics + more
WhyNoRoom view more v (why.Busy id) = (length v.cyclics + more ≤ most_cyclics) × (v.size < length v.cyclics + more)
    × (v.removal ≡ Some id)
WhyNoRoom view more v why.Expanding = (length v.cyclics + more ≤ most_cyclics) × (v.size < length v.cyclics + more)
    × (v.removal ≡ None)
    × (((view v.lock).followed ≡ false) ⊎ ((view v.low).followed ≡ false))
WhyNoRoom view more v e = ⊥

-- the size that a CPU of this size needs for n cyclics: its own where that is enough (`cyclic_expand` doubles)
abbrev pub size_for : ℕ → ℕ → ℕ
size_for size n = cond (nat_le n size) size (2 ^ bank_for n)

-- a switch to so many more is possible, and the memory for them is there
pub record MayWiden {R : Type 0} (view : R → FiringView) (more : ℕ) (v : CpuView R) : Type 0 where
  pub room : HasRoom view more v
  pub reserved : size_for v.size (length v.cyclics + more) ≤ v.room

-- the memory that so many more need was taken where it was not there, and no more; the ends were asked at most whether their
-- soft sides have followed
pub record Reserves {R : Type 0} (firing : Raise R) (more : ℕ)
    (v w : CpuView R) : Type 0 where
  pub lock : OnlyLooks firing v.lock w.lock
  pub low : OnlyLooks firing v.low w.low
  pub cyclics : w.cyclics ≡ v.cyclics
  pub removal : w.removal ≡ v.removal
  pub size : w.size ≡ v.size
  pub room : w.room ≡ max v.room (size_for v.size (length v.cyclics + more))
  pub most : w.most ≡ v.most
  pub suspended : w.suspended ≡ v.suspended

-- why no memory was taken for so many more: as for room, and then want of memory where more is needed than is there
abbrev pub WhyNotReserved : {R : Type 0} → (R → FiringView) → ℕ → CpuView R → CpuView R → Refusal → Type 0
WhyNotReserved view more v w why.Memory = HasRoom view more w × (v.room < size_for v.size (length v.cyclics + more))
WhyNotReserved view more v w e = WhyNoRoom view more w e

-- the size is what so many more need; where it grew, both ends were switched, once
pub record Widens {R : Type 0} (firing : Raise R) (more : ℕ)
    (v w : CpuView R) : Type 0 where
  pub size : w.size ≡ size_for v.size (length v.cyclics + more)
  -- it has an index for each of them
  pub enough : length v.cyclics + more ≤ w.size
  pub kept_lock : length v.cyclics + more ≤ v.size → w.lock ≡ v.lock
  pub kept_low : length v.cyclics + more ≤ v.size → w.low ≡ v.low
  pub lock : v.size < length v.cyclics + more → Taught firing v.lock (Expands (bank_for (length v.cyclics + more))) w.lock
  pub low : v.size < length v.cyclics + more → Taught firing v.low (Expands (bank_for (length v.cyclics + more))) w.low
  pub cyclics : w.cyclics ≡ v.cyclics
  pub removal : w.removal ≡ v.removal
  pub room : w.room ≡ v.room
  pub most : w.most ≡ v.most
  pub suspended : w.suspended ≡ v.suspended

-- a cyclic with the counts that it carries in
abbrev pub cyclic_with : ℕ → Level → ℕ → ℕ → ℕ → ℕ → Cyclic
cyclic_with id level interval moment expired lost =
    record {
      timer = record { id = id; level = level; interval = interval; moment = moment; expired = expired };
      lost = lost;
      carried = record { sent = expired; lost = lost };
    }

-- a cyclic that has not expired yet
abbrev pub new_cyclic : ℕ → Level → ℕ → ℕ → Cyclic
new_cyclic id level interval moment = cyclic_with id level interval moment 0 0

-- the cyclic stands at its position among the others, and is admitted at the end of its level
pub record Places {R : Type 0} (firing : Raise R) (c : Cyclic)
    (v w : CpuView R) : Type 0 where
  pub position : ℕ
  pub index : ℕ
  pub within : position ≤ length v.cyclics
  pub cyclics : w.cyclics ≡ insert v.cyclics position c
  pub rising : HasRisingCyclics w.cyclics
  pub lock : Goes firing v.lock (admits_at Lock c.timer.level c.timer.id index) w.lock
  pub low : Goes firing v.low (admits_at Low c.timer.level c.timer.id index) w.low
  pub kept : SameCpu v w
