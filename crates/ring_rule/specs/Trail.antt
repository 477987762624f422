-- What the steps of a side show, read from its trail: the list of its seat's steps, the newest first, each with the
-- value that it found.
use Rattle.std.specs.Prelude.{ℕ, ◌+◌, ◌%◌, ◌==◌, if◌then◌else◌, Bool, true, false, Option, Some, None, List, [], ◌∷◌, ◌++◌}
use Rattle.cyc_level.specs.declared.Event.{Event}
use Rattle.cyc_level.specs.declared.Event.TheVariants.{Admit, Expire, Lose, Publish, Take, Finish, Mark, Clear, Switch, Follow}
use Rattle.cyc_level.specs.Level.{in_hand}
use Rattle.cyc_level.specs.Events.{hand_after_expire, hand_after_finish}
use Rattle.cyc_level.specs.Runs.{StayCounts, current_stay, past_stays, past_calls, expirations_of_id, losses}
use Rattle.ring_rule.specs.declared.RaiseStep.{RaiseStep}
use Rattle.ring_rule.specs.declared.RaiseStep.TheVariants.{Admitted, Loaded, Lost, Added, Stored, Published, Marked, Cleared}
use Rattle.ring_rule.specs.declared.RaiseStep.TheVariants.{Switched, LoadedSoftBank}
use Rattle.ring_rule.specs.declared.DrainStep.{DrainStep}
use Rattle.ring_rule.specs.declared.DrainStep.TheVariants.{LoadedHardBank, LoadedProducer, Took, Subtracted, Followed}
use Rattle.ring_rule.specs.Words.{mark_bit, entry_id}

-- the event of the level that a step of the firing side is, or none
abbrev pub raise_event : RaiseStep → List Event
raise_event (Admitted id index) = Admit id index ∷ []
raise_event (Loaded id found) = []
raise_event (Lost id found) = Lose id ∷ []
raise_event (Added id found) = Expire id ∷ []
raise_event (Stored e) = []
raise_event (Published next) = Publish ∷ []
raise_event (Marked id found) = Mark id ∷ []
raise_event (Cleared id) = Clear id ∷ []
raise_event (Switched bank) = Switch bank ∷ []
raise_event (LoadedSoftBank found) = []

-- the event of the level that a step of the soft side is, or none
abbrev pub drain_event : DrainStep → List Event
drain_event (LoadedHardBank found) = []
drain_event (LoadedProducer found) = []
drain_event (Took e) = Take ∷ []
drain_event (Subtracted found) = Finish ∷ []
drain_event (Followed bank) = Follow ∷ []

abbrev pub raise_events : List RaiseStep → List Event
raise_events [] = []
raise_events (x ∷ t) = raise_event x ++ raise_events t

abbrev pub drain_events : List DrainStep → List Event
drain_events [] = []
drain_events (x ∷ t) = drain_event x ++ drain_events t

-- the stay of an id that has not ended
abbrev pub open_stay : ℕ → List RaiseStep → Option StayCounts
open_stay id t = current_stay id (raise_events t)

-- the stays of an id that have ended, the newest first
abbrev pub ended_stays : ℕ → List RaiseStep → List StayCounts
ended_stays id t = past_stays id (raise_events t)

-- the calls of the stays of an id that have ended
abbrev pub ended_calls : ℕ → List RaiseStep → ℕ
ended_calls id t = past_calls id (raise_events t)

-- the expirations of an id in all its stays
abbrev pub raises_of : ℕ → List RaiseStep → ℕ
raises_of id t = expirations_of_id id (raise_events t)

-- those of them that were lost
abbrev pub losses_on_trail : ℕ → List RaiseStep → ℕ
losses_on_trail id t = losses id (raise_events t)

-- the firer's hand
abbrev pub firer_hand_of : List RaiseStep → Option ℕ
firer_hand_of [] = None
firer_hand_of (Added id found ∷ t) = hand_after_expire found id (firer_hand_of t)
firer_hand_of (Published next ∷ t) = None
firer_hand_of (_ ∷ t) = firer_hand_of t

-- the id whose removal is open
abbrev pub marked_of : List RaiseStep → Option ℕ
marked_of [] = None
marked_of (Marked id found ∷ t) = Some id
marked_of (Cleared id ∷ t) = None
marked_of (_ ∷ t) = marked_of t

-- the pend last found and the raises since, never below the outstanding calls
abbrev pub seen_pend : ℕ → List RaiseStep → ℕ
seen_pend id [] = 0
seen_pend id (Admitted a index ∷ t) = if id == a then 0 else seen_pend id t
seen_pend id (Loaded a found ∷ t) = if id == a then found % mark_bit else seen_pend id t
seen_pend id (Lost a found ∷ t) = if id == a then found else seen_pend id t
seen_pend id (Added a found ∷ t) = if id == a then found + 1 else seen_pend id t
seen_pend id (Marked a found ∷ t) = if id == a then found else seen_pend id t
seen_pend id (_ ∷ t) = seen_pend id t

-- the bank that the firing side fills; both sides begin at bank 0
abbrev pub hard_bank_of : List RaiseStep → ℕ
hard_bank_of [] = 0
hard_bank_of (Switched bank ∷ t) = bank
hard_bank_of (_ ∷ t) = hard_bank_of t

-- the next index that the firing side fills, not reduced; each bank begins at the same index
abbrev pub producer_index : ℕ → List RaiseStep → ℕ
producer_index start [] = start
producer_index start (Published next ∷ t) = producer_index start t + 1
producer_index start (Switched bank ∷ t) = start
producer_index start (_ ∷ t) = producer_index start t

-- the entry that the last step stored
abbrev pub stored_entry : List RaiseStep → Option ℕ
stored_entry (Stored e ∷ t) = Some e
stored_entry _ = None

-- whether the firing side saw the soft side on its bank
abbrev pub has_followed : List RaiseStep → Bool
has_followed [] = true
has_followed (LoadedSoftBank found ∷ t) = found == hard_bank_of t
has_followed (Switched bank ∷ t) = false
has_followed (_ ∷ t) = has_followed t

-- the entry of the cyclic in the drainer's hand
abbrev pub held_entry : List DrainStep → Option ℕ
held_entry [] = None
held_entry (Took e ∷ t) = Some e
held_entry (Subtracted found ∷ t) = hand_after_finish (found % mark_bit) (held_entry t)
held_entry (_ ∷ t) = held_entry t

abbrev pub id_in_entry : Option ℕ → Option ℕ
id_in_entry None = None
id_in_entry (Some e) = Some (entry_id e)

-- the drainer's hand
abbrev pub drainer_hand_of : List DrainStep → Option ℕ
drainer_hand_of t = id_in_entry (held_entry t)

-- the finishes of an id in all its stays
abbrev pub made_calls : ℕ → List DrainStep → ℕ
made_calls id [] = 0
made_calls id (Subtracted found ∷ t) = in_hand id (drainer_hand_of t) + made_calls id t
made_calls id (_ ∷ t) = made_calls id t

-- the bank that the soft side drains
abbrev pub soft_bank_of : List DrainStep → ℕ
soft_bank_of [] = 0
soft_bank_of (Followed bank ∷ t) = bank
soft_bank_of (_ ∷ t) = soft_bank_of t

-- the next index that the soft side takes, not reduced (cypc_consndx)
abbrev pub consumer_index : ℕ → List DrainStep → ℕ
consumer_index start [] = start
consumer_index start (Took e ∷ t) = consumer_index start t + 1
consumer_index start (Followed bank ∷ t) = start
consumer_index start (_ ∷ t) = consumer_index start t

-- the producer word that the last step found
abbrev pub producer_seen : List DrainStep → Option ℕ
producer_seen (LoadedProducer found ∷ t) = Some found
producer_seen _ = None

-- the hard bank that the look before it found
abbrev pub bank_seen : List DrainStep → Option ℕ
bank_seen (LoadedHardBank found ∷ t) = Some found
bank_seen (LoadedProducer found ∷ t) = bank_seen t
bank_seen _ = None
