-- What a fire does to the cyclics of a CPU, and the counts of each of them.
use Rattle.std.specs.Prelude.{◌≡◌, ℕ, ◌+◌, ◌<◌, ◌≤◌, List, map, Some}
use Rattle.cyc_types.specs.declared.Raise.{Ghosts as Raise}
use Rattle.cyc_types.specs.declared.level.Level.TheVariants.{Low, Lock, High}
use Rattle.cyc_types.specs.declared.refusal.Refusal.{Refusal}
use Rattle.cyc_types.specs.declared.refusal.Refusal.TheVariants as why
use Rattle.cyc_types.specs.Expirations.{Expiration, all_after}
use Rattle.cyc_types.specs.Timers.{Timer}
use Rattle.cyc_timers.specs.Rows.{Cyclic, timers}
use Rattle.cyc_timers.specs.Acts.{Acting, Sides, Acts, ids_at, way_losses, lost_after, timer_of}

-- the counts of a cyclic: those that it carried in are among them, and at high level it loses nothing here
pub record HasCounts (most : ℕ) (c : Cyclic) : Type 0 where
  pub some : c.lost ≤ c.timer.expired
  pub few : c.timer.expired ≤ most
  pub carried : c.carried.sent ≤ c.timer.expired
  pub carried_lost : c.carried.lost ≤ c.lost
  pub high : c.timer.level ≡ High → c.lost ≡ c.carried.lost

-- what a fire changes: the cyclics, and what it acts on
pub record FireState (C R : Type 0) : Type 0 where
  pub cyclics : List Cyclic
  pub sides : Sides C R

abbrev pub fire_state : {C R : Type 0} → List Cyclic → Sides C R → FireState C R
fire_state cyclics sides = record { cyclics = cyclics; sides = sides }

-- these expirations of a fire at now were made: each cyclic stands where they leave it, the handlers of the high ones were
-- called, the others were raised at their ends, and each id lost what its raises lost
pub record Makes {C R : Type 0} (how : Acting C R) (now : ℕ) (made : List Expiration) (s t : FireState C R)
    (lost : ℕ) : Type 0 where
  pub acts : Acts how (ids_at High (timers s.cyclics) made) (ids_at Lock (timers s.cyclics) made)
      (ids_at Low (timers s.cyclics) made) s.sides t.sides
  pub timers_are : timers t.cyclics ≡ all_after now made (timers s.cyclics)
  pub carried_are : map (λ c. c.carried) t.cyclics ≡ map (λ c. c.carried) s.cyclics
  pub losses_are : map (λ c. c.lost) t.cyclics
      ≡ map (λ c. lost_after acts.lock_way acts.low_way c.timer.id c.lost) s.cyclics
  pub lost_is : lost ≡ way_losses acts.lock_way + way_losses acts.low_way

-- what the refusal of an expiration of this cyclic says: first that it has expired as often as it may, and then its handler
abbrev pub Stops : {C : Type 0} → (C → ℕ → Type 0) → ℕ → C → Timer → Refusal → Type 0
Stops may_refuse most at t (why.CountSpent id) = (id ≡ t.id) × (most ≤ t.expired)
Stops may_refuse most at t (why.HandlerRefused id) = (id ≡ t.id) × (t.expired < most) × (t.level ≡ High) × may_refuse at id
Stops may_refuse most at t e = ⊥

-- the expiration was refused: its cyclic has expired as often as it may, or its handler may refuse at this moment
abbrev pub WhyStopped : {C : Type 0} → (C → ℕ → Type 0) → ℕ → C → Expiration → List Timer → Refusal → Type 0
WhyStopped may_refuse most at last ts e = (t : Timer) × (timer_of last.id ts ≡ Some t) × Stops may_refuse most at t e
