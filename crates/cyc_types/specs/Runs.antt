-- Runs of calls at one side of a level: the calls in order, each with its answer, and what they add up to for each id.
-- A run is called a way.
use Rattle.std.specs.Prelude.{ℕ, ◌+◌, List, [], ◌∷◌, Some, None}
use Rattle.std.specs.List.{FoldsTo}
use Rattle.cyc_types.specs.Counting.{times, one_at}
use Rattle.cyc_types.specs.Draining.{DrainCall, Takes, Finishes}
use Rattle.cyc_types.specs.declared.draining.Drain.{Ghosts as Drain}
use Rattle.cyc_types.specs.declared.firing.Raise.{Ghosts as Raise}
use Rattle.cyc_types.specs.Firing.{FiringCall, Admits, Loads, Raises, Marks, Polls, Expands, Looks, Learns}
use Rattle.cyc_types.specs.declared.firing.Raised.TheVariants.{First, More, Lost}

-- one call of the firing side was made, and taught the holder what it teaches
abbrev pub Taught : {R : Type 0} → Raise R → R → FiringCall → R → Type 0
Taught firing e call f = firing.step e call f × Learns (firing.view e) call (firing.view f)

-- these calls of the firing side, in order, led from the one value to the other
abbrev pub Goes : {R : Type 0} → Raise R → R → List FiringCall → R → Type 0
Goes firing e way f = FoldsTo (Taught firing) e way f

-- one where the call is a raise of the id
abbrev pub raises_in_call : ℕ → FiringCall → ℕ
raises_in_call id (Raises j answer) = one_at id j
raises_in_call id (Admits j index) = 0
raises_in_call id (Loads j pend) = 0
raises_in_call id (Marks j pend) = 0
raises_in_call id (Polls j answer) = 0
raises_in_call id (Expands bank) = 0
raises_in_call id (Looks answer) = 0

-- one where the call is a raise of the id that was lost at the ceiling
abbrev pub losses_in_call : ℕ → FiringCall → ℕ
losses_in_call id (Raises j Lost) = one_at id j
losses_in_call id (Raises j First) = 0
losses_in_call id (Raises j More) = 0
losses_in_call id (Admits j index) = 0
losses_in_call id (Loads j pend) = 0
losses_in_call id (Marks j pend) = 0
losses_in_call id (Polls j answer) = 0
losses_in_call id (Expands bank) = 0
losses_in_call id (Looks answer) = 0

-- one where a stay of the id begins or ends with the call
abbrev pub stay_changes_of : ℕ → FiringCall → ℕ
stay_changes_of id (Admits j index) = one_at id j
stay_changes_of id (Polls j (Some counts)) = one_at id j
stay_changes_of id (Polls j None) = 0
stay_changes_of id (Loads j pend) = 0
stay_changes_of id (Raises j answer) = 0
stay_changes_of id (Marks j pend) = 0
stay_changes_of id (Expands bank) = 0
stay_changes_of id (Looks answer) = 0

-- the raises of the id
abbrev pub raised_by : ℕ → List FiringCall → ℕ
raised_by id [] = 0
raised_by id (call ∷ way) = raises_in_call id call + raised_by id way

-- the raises of the id that were lost at the ceiling
abbrev pub lost_by : ℕ → List FiringCall → ℕ
lost_by id [] = 0
lost_by id (call ∷ way) = losses_in_call id call + lost_by id way

-- the stays of the id that begin or end
abbrev pub turned_by : ℕ → List FiringCall → ℕ
turned_by id [] = 0
turned_by id (call ∷ way) = stay_changes_of id call + turned_by id way

-- these calls of the soft side, in order, led from the one value to the other
abbrev pub DrainGoes : {D : Type 0} → Drain D → D → List DrainCall → D → Type 0
DrainGoes draining d way e = FoldsTo draining.step d way e

-- the ids of the calls that were finished, in order
abbrev pub finishes_of : List DrainCall → List ℕ
finishes_of [] = []
finishes_of (Takes hand ∷ way) = finishes_of way
finishes_of (Finishes id answer ∷ way) = id ∷ finishes_of way

-- the finishes of the id
abbrev pub finished_by : ℕ → List DrainCall → ℕ
finished_by id way = times id (finishes_of way)
