-- The threads of an advance: what each has promised, and what it leaves.
use Rattle.std.specs.Prelude.{◌≡◌, ℕ, List, length, Some}
use Rattle.std.specs.List.{slice_get}
use Rattle.cyc_types.specs.declared.Calls.{Ghosts as Calls}
use Rattle.cyc_types.specs.declared.Raise.{Ghosts as Raise}
use Rattle.cyc_system_workers.specs.declared.lanes.Lane.{Lane}
use Rattle.cyc_system_workers.specs.declared.lanes.LaneAfter.{LaneAfter}
use Rattle.cyc_system_workers.specs.declared.firing.Started.{Started}
use Rattle.cyc_system_workers.specs.declared.firing.Started.TheVariants.{Fires, Stays}
use Rattle.cyc_system_workers.specs.Advancing.{LaneFires}

-- two lists are of one length, and this holds of each two elements at one position
pub record Beside {A B : Type 0} (P : A → B → Type 0) (xs : List A) (ys : List B) : Type 0 where
  pub long : length ys ≡ length xs
  pub each : (n : ℕ) (x : A) (y : B) → slice_get xs n ≡ Some x → slice_get ys n ≡ Some y → P x y

-- an advance has begun on this CPU: the thread has promised to fire it at this moment; or it is not online, and as it was
abbrev pub Owes : {C R : Type 0} → Calls C → Raise R → ℕ → Lane R C → Started R C → Type 0
Owes handler firing now lane (Fires child) = (child.promise.lane.value ≡ lane) × (child.promise.now ≡ now)
Owes handler firing now lane (Stays after) = LaneFires handler firing now lane after

-- what a CPU on which an advance has begun comes to: its thread kept its promise; or there is no thread, and nothing more happens
abbrev pub Keeps : {C R : Type 0} → Calls C → Raise R → Started R C → LaneAfter R C → Type 0
Keeps handler firing (Fires child) after =
    LaneFires handler firing child.promise.now child.promise.lane.value after
Keeps handler firing (Stays lane) after = after ≡ lane
