-- What becomes of one cyclic, in closed form: when it expires next, and how often it has. Nothing here knows a level, a ring, a
-- heap or a count of a CPU, and no move of a cyclic that is on one CPU changes anything.
use Rattle.std.specs.Prelude.{ℕ, ◌+◌, Bool, true, false, if◌then◌else◌, List, [], ◌∷◌, map, sum_by, replicate, slice_set, Option}
use Rattle.std.specs.Prelude.{Some, None}
use Rattle.std.specs.Option.{option_map, option_map_or}
use Rattle.cyc_types.specs.Series.{first, due, next}
use Rattle.cyc_model.specs.State.{Everywhere}
use Rattle.cyc_model.specs.Omni.{start_on}

-- what matters to a cyclic, each with its numbers, where it was accepted
pub data Event : Type 0 where
  -- it is added with this start and this interval, now (cyclic_add)
  Begins : ℕ → ℕ → ℕ → Event
  -- it is added to every online CPU, now (cyclic_add_omni)
  BeginsOnAll : Everywhere → ℕ → Event
  -- its next expiration is this one (cyclic_reprogram)
  IsSet : ℕ → Event
  -- that of its component on this CPU is
  IsSetOn : ℕ → ℕ → Event
  -- its removal begins, and it never expires again (cyclic_remove)
  Ends : Event
  -- every online CPU fires at this moment (cyclic_fire)
  Fires : ℕ → Event
  -- this CPU goes offline (cyclic_offline)
  Leaves : ℕ → Event
  -- this CPU goes online, now (cyclic_online)
  Returns : ℕ → ℕ → Event
  -- anything else, as a move
  Passes : Event

-- a cyclic, wherever it is
pub data Course : Type 0 where
  -- it was not added yet, or its removal has begun
  Idle : Course
  -- it is on one CPU: its next expiration and its interval
  Single : ℕ → ℕ → Course
  -- it is omnipresent: the next expiration of its component on each CPU by number, None where the CPU is offline
  OnEach : Everywhere → List (Option ℕ) → Course

-- the cyclic, which CPUs are online, and how often the cyclic has expired
pub record Told : Type 0 where
  pub online : List Bool
  pub course : Course
  pub expired : ℕ

-- before the first event: so many CPUs, all of them online
abbrev pub untold : ℕ → Told
untold cpus = record { online = replicate cpus true; course = Idle; expired = 0 }

-- the component of this CPU begins at its own start (our own rule)
abbrev pub component_begins_at : ℕ → Everywhere → ℕ → ℕ
component_begins_at n e now = first (start_on n e) e.interval now

-- on each CPU that is online, counted from this number on
abbrev pub components_from : ℕ → Everywhere → ℕ → List Bool → List (Option ℕ)
components_from n e now [] = []
components_from n e now (up ∷ ups) =
    (if up then Some (component_begins_at n e now) else None) ∷ components_from (n + 1) e now ups

-- how often it expires where every online CPU fires at this moment: a cyclic that is on one CPU is on an online one
abbrev pub due_everywhere : ℕ → Course → ℕ
due_everywhere now Idle = 0
due_everywhere now (Single moment interval) = due moment interval now
due_everywhere now (OnEach e moments) = sum_by (λ m. option_map_or (λ moment. due moment e.interval now) m 0) moments

-- and what it is after that
abbrev pub course_after : ℕ → Course → Course
course_after now Idle = Idle
course_after now (Single moment interval) = Single (next moment interval now) interval
course_after now (OnEach e moments) = OnEach e (map (λ m. option_map (λ moment. next moment e.interval now) m) moments)

-- the component on this CPU, where the cyclic has components
abbrev pub with_component : ℕ → (Everywhere → Option ℕ) → Course → Course
with_component n moment (OnEach e moments) = OnEach e (slice_set moments n (moment e))
with_component n moment c = c

-- the cyclic has another next expiration
abbrev pub course_at : ℕ → Course → Course
course_at moment (Single old interval) = Single moment interval
course_at moment c = c

-- an event, and what is told after it
abbrev pub told_after : Event → Told → Told
told_after (Begins start interval now) t =
    record { online = t.online; course = Single (first start interval now) interval; expired = 0 }
told_after (BeginsOnAll e now) t =
    record { online = t.online; course = OnEach e (components_from 0 e now t.online); expired = 0 }
told_after (IsSet moment) t = record t { course = course_at moment t.course }
told_after (IsSetOn n moment) t = record t { course = with_component n (λ e. Some moment) t.course }
told_after Ends t = record t { course = Idle }
told_after (Fires now) t = record t { course = course_after now t.course; expired = t.expired + due_everywhere now t.course }
told_after (Leaves n) t =
    record t { online = slice_set t.online n false; course = with_component n (λ e. None) t.course }
told_after (Returns n now) t = record t {
  online = slice_set t.online n true;
  course = with_component n (λ e. Some (component_begins_at n e now)) t.course;
}
told_after Passes t = t

-- the same of each of them, in order
abbrev pub told_by : List Event → Told → Told
told_by [] t = t
told_by (event ∷ events) t = told_by events (told_after event t)
