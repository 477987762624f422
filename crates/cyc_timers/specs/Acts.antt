-- What a fire does: the handlers that it calls, and the raises that it makes at the two ends.
use Rattle.std.specs.Prelude.{◌≡◌, ℕ, ◌+◌, ◌==◌, Bool, true, false, cond, List, [], ◌∷◌, map, filter, find, Option, Some, None}
use Rattle.std.specs.List.{FoldsTo}
use Rattle.cyc_types.specs.Counting.{times}
use Rattle.cyc_types.specs.declared.Raise.{Ghosts as Raise}
use Rattle.cyc_types.specs.Firing.{FiringCall, Admits, Loads, Raises, Marks, Polls, Expands, Looks}
use Rattle.cyc_types.specs.Runs.{Taught, Goes, lost_by}
use Rattle.cyc_types.specs.declared.firing.Raised.{Raised}
use Rattle.cyc_types.specs.declared.firing.Raised.TheVariants.{First, More, Lost}
use Rattle.cyc_types.specs.declared.level.Level.{Level}
use Rattle.cyc_types.specs.declared.level.Level.TheVariants.{Low, Lock, High}
use Rattle.cyc_types.specs.Expirations.{Expiration}
use Rattle.cyc_types.specs.Timers.{Timer}

-- what a fire acts on: the handlers and the two ends
pub record Sides (C R : Type 0) : Type 0 where
  pub calls : C
  pub lock : R
  pub low : R

-- the cyclic of this id
abbrev pub timer_of : ℕ → List Timer → Option Timer
timer_of id ts = find (λ t. t.id == id) ts

abbrev pub same_level : Level → Level → Bool
same_level Low Low = true
same_level Low Lock = false
same_level Low High = false
same_level Lock Low = false
same_level Lock Lock = true
same_level Lock High = false
same_level High Low = false
same_level High Lock = false
same_level High High = true

abbrev pub is_of_level : Level → Option Timer → Bool
is_of_level level None = false
is_of_level level (Some t) = same_level level t.level

-- the expiration is of a cyclic of this level
abbrev pub is_at : Level → List Timer → Expiration → Bool
is_at level ts p = is_of_level level (timer_of p.id ts)

-- the ids of the expirations of one level, in order
abbrev pub ids_at : Level → List Timer → List Expiration → List ℕ
ids_at level ts made = map (λ p. p.id) (filter (is_at level ts) made)

-- the id, where its level is this one
abbrev pub id_at_level : Level → Level → ℕ → List ℕ
id_at_level level own id = cond (same_level level own) (id ∷ []) []

-- the call is a raise of this id
abbrev pub IsRaise : ℕ → FiringCall → Type 0
IsRaise id (Raises j answer) = j ≡ id
IsRaise id (Admits j index) = ⊥
IsRaise id (Loads j pend) = ⊥
IsRaise id (Marks j pend) = ⊥
IsRaise id (Polls j answer) = ⊥
IsRaise id (Expands bank) = ⊥
IsRaise id (Looks answer) = ⊥

-- the calls are raises of these ids, in order, and nothing else
abbrev pub AreRaises : List ℕ → List FiringCall → Type 0
AreRaises [] [] = Unit {0}
AreRaises [] (call ∷ way) = ⊥
AreRaises (id ∷ ids) [] = ⊥
AreRaises (id ∷ ids) (call ∷ way) = IsRaise id call × AreRaises ids way

-- one where the call is a raise that was lost at the ceiling
abbrev pub loss_in : FiringCall → ℕ
loss_in (Raises id Lost) = 1
loss_in (Raises id First) = 0
loss_in (Raises id More) = 0
loss_in (Admits id index) = 0
loss_in (Loads id pend) = 0
loss_in (Marks id pend) = 0
loss_in (Polls id answer) = 0
loss_in (Expands bank) = 0
loss_in (Looks answer) = 0

-- the raises that were lost at the ceiling, of whatever id
abbrev pub way_losses : List FiringCall → ℕ
way_losses [] = 0
way_losses (call ∷ way) = loss_in call + way_losses way

-- how the handlers are called and counted, and what the ends do
pub record Acting (C R : Type 0) : Type 1 where
  pub called : C → ℕ → C → Type 0
  pub count : C → ℕ → ℕ
  pub firing : Raise R

abbrev pub acting : {C R : Type 0} → (C → ℕ → C → Type 0) → (C → ℕ → ℕ) → Raise R → Acting C R
acting called count firing = record { called = called; count = count; firing = firing }

-- the handlers of the ids `high` were called, the lock end was raised for the ids `locks` and the low end for the ids
-- `lows`, each list in order; and nothing else was done to the three
pub record Acts {C R : Type 0} (how : Acting C R) (high locks lows : List ℕ) (s s' : Sides C R) : Type 0 where
  -- what each end did, call by call
  pub lock_way : List FiringCall
  pub low_way : List FiringCall
  pub called_in_order : FoldsTo how.called s.calls high s'.calls
  pub counted : (id : ℕ) → how.count s'.calls id ≡ how.count s.calls id + times id high
  pub lock_goes : Goes how.firing s.lock lock_way s'.lock
  pub low_goes : Goes how.firing s.low low_way s'.low
  pub lock_raises : AreRaises locks lock_way
  pub low_raises : AreRaises lows low_way

-- an end was raised once for this id, and this many were lost
abbrev pub RaisedOnce : {R : Type 0} → Raise R → ℕ → R → R → ℕ → Type 0
RaisedOnce firing id e f lost = (answer : Raised) × Taught firing e (Raises id answer) f
    × (lost ≡ loss_in (Raises id answer))

-- the losses of an id after these calls of the two ends
abbrev pub lost_after : List FiringCall → List FiringCall → ℕ → ℕ → ℕ
lost_after lock_way low_way id lost = lost + lost_by id lock_way + lost_by id low_way
