-- What the calls that raise nothing do at the two ends.
use Rattle.std.specs.Prelude.{◌≡◌, ℕ, Bool, cond, List, [], ◌∷◌, map, Some}
use Rattle.cyc_types.specs.declared.Raise.{Ghosts as Raise}
use Rattle.cyc_types.specs.Firing.{FiringView, FiringCall, Stay, Admits, Loads, Looks}
use Rattle.cyc_types.specs.Runs.{Taught, Goes}
use Rattle.cyc_types.specs.declared.level.Level.{Level}
use Rattle.cyc_timers.specs.Acts.{same_level}

-- an end of this level is asked for the id where the cyclic is of its level
abbrev pub asks_at : Level → Level → ℕ → ℕ → List FiringCall
asks_at level own id n = cond (same_level level own) (Loads id n ∷ []) []

-- an end of this level admits the id at this index where the cyclic is of its level
abbrev pub admits_at : Level → Level → ℕ → ℕ → List FiringCall
admits_at level own id index = cond (same_level level own) (Admits id index ∷ []) []

-- the end was asked once whether its soft side has followed
abbrev pub Looks1 : {R : Type 0} → Raise R → R → R → Type 0
Looks1 firing e f = (answer : Bool) × Taught firing e (Looks answer) f

-- the end was asked any number of times whether its soft side has followed, and nothing else
abbrev pub OnlyLooks : {R : Type 0} → Raise R → R → R → Type 0
OnlyLooks firing e f = (answers : List Bool) × Goes firing e (map Looks answers) f

-- an end of which nothing changed but what was seen
pub record KeepsStays (v w : FiringView) : Type 0 where
  pub to : (id : ℕ) (s : Stay) → v.stays id ≡ Some s → (t : Stay) × (w.stays id ≡ Some t) × (t.index ≡ s.index)
      × (t.sent ≡ s.sent) × (t.lost ≡ s.lost)
  pub from : (id : ℕ) (t : Stay) → w.stays id ≡ Some t → (s : Stay) × (v.stays id ≡ Some s)
  pub marked : w.marked ≡ v.marked
  pub bank : w.bank ≡ v.bank
  pub ceiling : w.ceiling ≡ v.ceiling
  pub free : w.hand_free ≡ v.hand_free

-- the end was asked for any cyclics, and nothing else: each with its answer
abbrev pub OnlyLoads : {R : Type 0} → Raise R → R → R → Type 0
OnlyLoads firing e f = (asked : List (ℕ × ℕ)) × Goes firing e (map (λ a. Loads a.0 a.1) asked) f

-- the end was asked for any cyclics, and then any number of times whether its soft side has followed
abbrev pub LoadsThenLooks : {R : Type 0} → Raise R → R → R → Type 0
LoadsThenLooks {R} firing e g = (f : R) × OnlyLoads firing e f × OnlyLooks firing f g
