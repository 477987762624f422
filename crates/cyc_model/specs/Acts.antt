-- What happens in a run, in the order of time: one list over all CPUs.
use Rattle.std.specs.Prelude.{ℕ, ◌+◌, ◌==◌, ◌&&◌, if◌then◌else◌, Bool, true, false, List, [], ◌∷◌, ◌++◌}
use Rattle.cyc_types.specs.declared.level.Soft.{Soft}
use Rattle.cyc_types.specs.declared.level.Soft.TheVariants.{Low, Lock}
use Rattle.cyc_types.specs.declared.level.Level.{Level}
use Rattle.cyc_types.specs.declared.level.Level.TheVariants as level
use Rattle.cyc_level.specs.declared.Event.{Event}
use Rattle.cyc_level.specs.declared.Event.TheVariants.{Lose}

-- what can happen: an event of one soft level of the CPU of this number, or the call of a cyclic's handler. At high level the
-- call is the expiration too
pub data Act : Type 0 where
  At : ℕ → Soft → Event → Act
  Call : ℕ → Act

-- the event at the soft level of a cyclic; one of high level has none
abbrev pub at_own : ℕ → Level → Event → List Act
at_own n level.High event = []
at_own n level.Lock event = At n Lock event ∷ []
at_own n level.Low event = At n Low event ∷ []

abbrev pub same_soft : Soft → Soft → Bool
same_soft Low Low = true
same_soft Low Lock = false
same_soft Lock Low = false
same_soft Lock Lock = true

-- the event, where the act is one of this level of this CPU
abbrev pub event_at : ℕ → Soft → Act → List Event
event_at n soft (At m level event) = if (m == n) && same_soft level soft then event ∷ [] else []
event_at n soft (Call id) = []

-- the events of one level of one CPU
abbrev pub events_at : ℕ → Soft → List Act → List Event
events_at n soft [] = []
events_at n soft (act ∷ acts) = event_at n soft act ++ events_at n soft acts

-- one where the act calls the handler of this id
abbrev pub call_in : ℕ → Act → ℕ
call_in id (At n soft event) = 0
call_in id (Call j) = if j == id then 1 else 0

-- how often the handler of this id is called
abbrev pub calls_of : ℕ → List Act → ℕ
calls_of id [] = 0
calls_of id (act ∷ acts) = call_in id act + calls_of id acts

-- one where the act is a call
abbrev pub is_call : Act → ℕ
is_call (At n soft event) = 0
is_call (Call id) = 1

-- how many handlers are called
abbrev pub handler_calls : List Act → ℕ
handler_calls [] = 0
handler_calls (act ∷ acts) = is_call act + handler_calls acts

-- one where the event loses an expiration of this id
abbrev pub loss_of : ℕ → Event → ℕ
loss_of id (Lose j) = if j == id then 1 else 0
loss_of id _ = 0

-- how many expirations of this id are lost
abbrev pub losses_of : ℕ → List Act → ℕ
losses_of id [] = 0
losses_of id (At n soft event ∷ acts) = loss_of id event + losses_of id acts
losses_of id (Call j ∷ acts) = losses_of id acts

-- one where the event loses an expiration
abbrev pub is_loss : Event → ℕ
is_loss (Lose id) = 1
is_loss _ = 0

-- how many expirations are lost
abbrev pub all_losses : List Act → ℕ
all_losses [] = 0
all_losses (At n soft event ∷ acts) = is_loss event + all_losses acts
all_losses (Call id ∷ acts) = all_losses acts
