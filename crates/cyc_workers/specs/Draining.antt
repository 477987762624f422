-- What a worker does that makes the calls of one soft level.
use Rattle.std.specs.Prelude.{◌≡◌, ℕ, ◌+◌, Bool, true, IsTrue, List, Some, IfSome, IfNone}
use Rattle.std.specs.List.{FoldsTo}
use Rattle.cyc_types.specs.declared.Drain.{Ghosts as Drain}
use Rattle.cyc_types.specs.Draining.{DrainCall}
use Rattle.cyc_types.specs.Levels.{Handler}
use Rattle.cyc_types.specs.Runs.{DrainGoes, finishes_of, finished_by}
use Rattle.cyc_soft.specs.declared.SoftRefused.{SoftRefused}
use Rattle.cyc_soft.specs.declared.SoftSide.{SoftSide}
use Rattle.cyc_soft.specs.Serving.{EndsWithLook, soft_side}
use Rattle.cyc_workers.specs.declared.draining.Drained.{Drained}

-- The soft side went a way of its calls, and the handlers of those that it finished were called, in order, and no other. For
-- each id the handlers' counts and the finished calls have grown by the same.
pub record MakesCalls {D C : Type 0} (draining : Drain D) (handler : Handler C) (a b : SoftSide D C) : Type 0 where
  pub way : List DrainCall
  pub goes : DrainGoes draining a.drain way b.drain
  pub called_all : FoldsTo handler.called a.calls (finishes_of way) b.calls
  pub counted : (id : ℕ) → handler.count b.calls id ≡ handler.count a.calls id + finished_by id way
  pub finished : (id : ℕ) → draining.made b.drain id ≡ draining.made a.drain id + finished_by id way

-- calls were made; where it is idle the last step of the soft side is a look that found nothing, and the hand is empty
abbrev pub ServesSide : {D C : Type 0} → Drain D → Handler C → Bool → SoftSide D C → SoftSide D C → Type 0
ServesSide draining handler idle a b =
    MakesCalls draining handler a b × (IsTrue idle → EndsWithLook draining a.drain b.drain)

-- calls were made, and then a handler refused that may refuse at that moment: its cyclic is in hand, and no count changed
abbrev pub IsRefusedCall : {D C : Type 0} → Drain D → Handler C → SoftSide D C → SoftRefused → SoftSide D C → Type 0
IsRefusedCall {D} {C} draining handler a r b = (at : C) × MakesCalls draining handler a (soft_side b.drain at)
    × handler.may_refuse at r.id
    × ((id : ℕ) → handler.count b.calls id ≡ handler.count at id) × (draining.held b.drain ≡ Some r.id)

abbrev pub side_of : {D C : Type 0} → Drained D C → SoftSide D C
side_of b = soft_side b.drain b.calls

-- The answer to its last question whether it is to stop was yes. Calls were made before it, and calls since, and the last thing
-- since is a look at the buffer that found nothing: the hand is empty.
pub record HasLooked {D C : Type 0} (draining : Drain D) (handler : Handler C) (a : SoftSide D C) (b : Drained D C) :
    Type 0 where
  pub told : b.watch.told ≡ true
  pub before : MakesCalls draining handler a b.watch.asked.value
  pub since : MakesCalls draining handler b.watch.asked.value (side_of b)
  pub last : EndsWithLook draining b.watch.asked.value.drain b.drain

-- what a draining worker leaves: it looked after it was told to stop, and found nothing; or a handler refused
pub record HasDrained {D C : Type 0} (draining : Drain D) (handler : Handler C) (a : SoftSide D C) (b : Drained D C) :
    Type 0 where
  pub stopped : IfNone b.refused (HasLooked draining handler a b)
  pub refused : IfSome b.refused (λ r. IsRefusedCall draining handler a r (side_of b))
