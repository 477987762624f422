-- What a soft interrupt does: the calls that it makes, the way of the soft side that belongs to them, and its answer.
use Rattle.std.specs.Prelude.{◌≡◌, ℕ, ◌+◌, ◌<◌, ◌≤◌, ◌↔◌, Bool, true, false, IsTrue, List, [], ◌∷◌, ◌++◌, length, map, Option}
use Rattle.std.specs.Prelude.{Some, None, Result, IfOk, IfErr}
use Rattle.std.specs.List.{FoldsTo}
use Rattle.cyc_types.specs.Counting.{times}
use Rattle.cyc_types.specs.declared.draining.Drain.{Ghosts as Drain}
use Rattle.cyc_types.specs.Draining.{DrainCall, Takes, Finishes, hand_after}
use Rattle.cyc_types.specs.Levels.{Handler}
use Rattle.cyc_types.specs.Runs.{DrainGoes}
use Rattle.cyc_types.specs.declared.draining.Finished.{Finished}
use Rattle.cyc_soft.specs.declared.Ran.{Ran}
use Rattle.cyc_soft.specs.declared.SoftRefused.{SoftRefused}
use Rattle.cyc_soft.specs.declared.SoftSide.{SoftSide}

-- a handler's call that was made: the cyclic, and what its finish found
pub record Served : Type 0 where
  pub id : ℕ
  pub answer : Finished

-- the cyclics that were called, in order
abbrev pub ids : List Served → List ℕ
ids ran = map (λ s. s.id) ran

-- the look at the buffer for the next cyclic: none with a cyclic in hand (`cyclic_softint` of cyclic.c)
abbrev pub look_of : Option ℕ → Option ℕ → List DrainCall
look_of (Some id) found = []
look_of None found = Takes found ∷ []

-- the look that a soft interrupt ends with: one that found nothing where it is idle, and else none
abbrev pub last_look : Bool → List DrainCall
last_look true = Takes None ∷ []
last_look false = []

-- the hand after these calls
abbrev pub hand_left : Option ℕ → List Served → Option ℕ
hand_left hand [] = hand
hand_left hand (s ∷ ran) = hand_left (hand_after s.answer (Some s.id)) ran

-- the way of the soft side: each call's look and finish, and then the rest
abbrev pub way_of : Option ℕ → List Served → List DrainCall → List DrainCall
way_of hand [] rest = rest
way_of hand (s ∷ ran) rest = look_of hand (Some s.id) ++ Finishes s.id s.answer ∷ way_of
    (hand_after s.answer (Some s.id)) ran rest

-- the soft side of a level, and the handlers of its calls
abbrev pub soft_side : {D C : Type 0} → D → C → SoftSide D C
soft_side drain calls = record { drain = drain; calls = calls }

-- These calls were made, in order, and no other: the soft side went just their way, and for each id the handlers' counts and
-- the finished calls have grown by the same.
pub record Serves {D C : Type 0} (draining : Drain D) (handler : Handler C) (a : SoftSide D C) (ran : List Served)
    (rest : List DrainCall) (b : SoftSide D C) : Type 0 where
  pub way : DrainGoes draining a.drain (way_of (draining.held a.drain) ran rest) b.drain
  pub called_all : FoldsTo handler.called a.calls (ids ran) b.calls
  pub counted : (q : ℕ) → handler.count b.calls q ≡ handler.count a.calls q + times q (ids ran)
  pub finished : (q : ℕ) → draining.made b.drain q ≡ draining.made a.drain q + times q (ids ran)

-- the last step of the soft side is a look that found nothing, and no cyclic is in hand
abbrev pub EndsWithLook : {D : Type 0} → Drain D → D → D → Type 0
EndsWithLook {D} draining d d' = (before : D) × (way : List DrainCall)
    × DrainGoes draining d way before × draining.step before (Takes None) d' × (draining.held d' ≡ None)

-- What a soft interrupt with this budget answers, and what it has done (`cyclic_softint` of cyclic.c; that it has a budget, and
-- that a handler may refuse, are our own rules).
pub record IsSoftint {D C : Type 0} (draining : Drain D) (handler : Handler C) (budget : ℕ) (answer : Result Ran SoftRefused)
    (a b : SoftSide D C) : Type 0 where
  -- the calls that were made, in order, and no other; no look after the last of them but the one that found nothing
  pub served : IfOk answer (λ r. (ran : List Served) × (length ran ≡ r.calls)
      × Serves draining handler a ran (last_look r.idle) b
      × (draining.held b.drain ≡ hand_left (draining.held a.drain) ran))
  -- it is idle exactly where it stopped before the budget
  pub within : IfOk answer (λ r. (r.calls ≤ budget) × (IsTrue r.idle ↔ (r.calls < budget)))
  pub idle : IfOk answer (λ r. IsTrue r.idle → EndsWithLook draining a.drain b.drain)
  -- a handler refused that may refuse at that moment: its cyclic stays in hand, and the calls before it were made
  pub refused : IfErr answer (λ e. (ran : List Served) × (at : C) × (length ran ≡ e.calls) × (e.calls < budget)
      × Serves draining handler a ran (look_of (hand_left (draining.held a.drain) ran) (Some e.id)) (soft_side b.drain at)
      × handler.may_refuse at e.id × ((q : ℕ) → handler.count b.calls q ≡ handler.count at q)
      × (draining.held b.drain ≡ Some e.id))
