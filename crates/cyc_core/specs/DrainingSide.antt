-- What the soft side knows of a level that no other thread uses, and the events of each of its calls.
use Rattle.std.specs.Prelude.{◌≡◌, ℕ, ◌==◌, if◌then◌else◌, List, [], ◌∷◌, Option, Some, None, Bool, true, false}
use Rattle.std.specs.List.{FoldsTo}
use Rattle.cyc_types.specs.Draining.{DrainCall, Takes, Finishes}
use Rattle.cyc_types.specs.declared.draining.Finished.{Finished}
use Rattle.cyc_types.specs.declared.draining.Finished.TheVariants.{More, Last, LastOfRemoval}
use Rattle.cyc_level.specs.declared.Event.{Event}
use Rattle.cyc_level.specs.declared.Event.TheVariants.{Take, Finish, Follow}
use Rattle.cyc_level.specs.Level.{AdmittedCyclic, SoftLevel, count}
use Rattle.cyc_core.specs.Reached.{Happens}

abbrev pub held_of : SoftLevel → Option ℕ
held_of l = l.drainer_hand

abbrev pub done_in : Option AdmittedCyclic → ℕ
done_in None = 0
done_in (Some c) = c.done

-- the finished calls of the present stay
abbrev pub done_of : SoftLevel → ℕ → ℕ
done_of l id = done_in (l.cyclics id)

-- the events of a look at the buffer, by the old list, the new list and whether the banks are equal (cyclic_softint)
abbrev pub take_events : List ℕ → List ℕ → Bool → List Event
take_events old (x ∷ xs) true = Take ∷ []
take_events old [] true = []
take_events (x ∷ xs) new false = Take ∷ []
take_events [] (x ∷ xs) false = Follow ∷ Take ∷ []
take_events [] [] false = Follow ∷ []

abbrev pub is_marked : Option ℕ → ℕ → Bool
is_marked None id = false
is_marked (Some marked) id = marked == id

-- what a finish found, by the calls that are left and the mark
abbrev pub finished_at : ℕ → Bool → Finished
finished_at left marked = if left == 0 then (if marked then LastOfRemoval else Last) else More

-- a call of the soft side with its answer: its events happened, in this order, and the answer is what was found
abbrev pub Drains : SoftLevel → DrainCall → SoftLevel → Type 0
Drains l (Takes answer) m = FoldsTo Happens l (take_events l.old_list l.new_list (l.hard_bank == l.soft_bank)) m
    × (answer ≡ m.drainer_hand)
Drains l (Finishes id answer) m = (l.drainer_hand ≡ Some id) × Happens l Finish m
    × (answer ≡ finished_at (count m id) (is_marked m.marked id))
