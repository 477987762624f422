-- The one order of all atomic steps of a ring: the log, the newest first. The position of a step is the number of steps before
-- it.
use Rattle.std.specs.Prelude.{◌≡◌, ℕ, ◌+◌, ◌-◌, ◌%◌, ◌^◌, Option, Some, None, List, [], ◌∷◌, ◌++◌, map, length, slice_index}
use Rattle.std.specs.Prelude.{slice_set, ⊤}
use Rattle.std.specs.List.{range_with_len}
use Rattle.cyc_level.specs.declared.Event.{Event}
use Rattle.cyc_level.specs.Level.{SoftLevel}
use Rattle.cyc_level.specs.Events.{reached}
use Rattle.cyc_level.specs.Runs.{StayCounts}
use Rattle.ring_rule.specs.declared.RaiseStep.{RaiseStep}
use Rattle.ring_rule.specs.declared.RaiseStep.TheVariants.{Admitted, Loaded, Lost, Added, Stored, Published, Marked, Cleared}
use Rattle.ring_rule.specs.declared.RaiseStep.TheVariants.{Switched, LoadedSoftBank}
use Rattle.ring_rule.specs.declared.DrainStep.{DrainStep}
use Rattle.ring_rule.specs.declared.DrainStep.TheVariants.{LoadedHardBank, LoadedProducer, Took, Subtracted, Followed}
use Rattle.ring_rule.specs.Words.{pend_word, mark_bit, slot_word, producer_word, hard_word, soft_word, word_count, first_word}
use Rattle.ring_rule.specs.Words.{entry_index}
use Rattle.ring_rule.specs.Trail.{open_stay, hard_bank_of, producer_index, held_entry, soft_bank_of, consumer_index, raise_event}
use Rattle.ring_rule.specs.Trail.{drain_event}

-- an atomic step of either side
pub data RingStep : Type 0 where
  of_raise : RaiseStep → RingStep
  of_drain : DrainStep → RingStep

-- the trail of each side, and beside it the position of each of its steps
abbrev pub raise_side : List RingStep → List RaiseStep
raise_side [] = []
raise_side (of_raise x ∷ log) = x ∷ raise_side log
raise_side (of_drain x ∷ log) = raise_side log

abbrev pub raise_positions : List RingStep → List ℕ
raise_positions [] = []
raise_positions (of_raise x ∷ log) = length log ∷ raise_positions log
raise_positions (of_drain x ∷ log) = raise_positions log

abbrev pub drain_side : List RingStep → List DrainStep
drain_side [] = []
drain_side (of_raise x ∷ log) = drain_side log
drain_side (of_drain x ∷ log) = x ∷ drain_side log

abbrev pub drain_positions : List RingStep → List ℕ
drain_positions [] = []
drain_positions (of_raise x ∷ log) = drain_positions log
drain_positions (of_drain x ∷ log) = length log ∷ drain_positions log

-- the events of the level that the steps are
abbrev pub step_event : RingStep → List Event
step_event (of_raise x) = raise_event x
step_event (of_drain x) = drain_event x

abbrev pub events_of : List RingStep → List Event
events_of [] = []
events_of (x ∷ log) = step_event x ++ events_of log

-- the level after the steps
abbrev pub level_after_steps : ℕ → List RingStep → SoftLevel
level_after_steps ceiling log = reached ceiling (events_of log)

-- the pend word of an open stay; where none is open it is no word of the ring
abbrev pub stay_word : Option StayCounts → ℕ
stay_word None = word_count
stay_word (Some s) = pend_word s.index

-- the pend word of the entry in hand, the same
abbrev pub held_word : Option ℕ → ℕ
held_word None = word_count
held_word (Some e) = pend_word (entry_index e)

-- what a step is recorded to have found is what its word held
abbrev pub RaiseFound : RaiseStep → ℕ → Type 0
RaiseFound (Admitted id index) n = 0 ≡ n
RaiseFound (Loaded id found) n = found ≡ n
RaiseFound (Lost id found) n = found ≡ n
RaiseFound (Added id found) n = found ≡ n
RaiseFound (Stored e) n = ⊤
RaiseFound (Published next) n = ⊤
RaiseFound (Marked id found) n = found ≡ n
RaiseFound (Cleared id) n = ⊤
RaiseFound (Switched bank) n = ⊤
RaiseFound (LoadedSoftBank found) n = found ≡ n

abbrev pub DrainFound : DrainStep → ℕ → Type 0
DrainFound (LoadedHardBank found) n = found ≡ n
DrainFound (LoadedProducer found) n = found ≡ n
DrainFound (Took e) n = e ≡ n
DrainFound (Subtracted found) n = found ≡ n
DrainFound (Followed bank) n = ⊤

abbrev pub FoundIs : RingStep → ℕ → Type 0
FoundIs (of_raise x) = RaiseFound x
FoundIs (of_drain x) = DrainFound x

-- what a step leaves in its word, which held n
abbrev pub raise_leaves : RaiseStep → ℕ → ℕ
raise_leaves (Added id found) n = (n + 1) % 2 ^ 64
raise_leaves (Stored e) n = e
raise_leaves (Published next) n = next
raise_leaves (Marked id found) n = (n + mark_bit) % 2 ^ 64
raise_leaves (Cleared id) n = 0
raise_leaves (Switched bank) n = bank
raise_leaves (_) n = n

abbrev pub drain_leaves : DrainStep → ℕ → ℕ
drain_leaves (Subtracted found) n = (n + (2 ^ 64 - 1)) % 2 ^ 64
drain_leaves (Followed bank) n = bank
drain_leaves (_) n = n

abbrev pub left_by_step : RingStep → ℕ → ℕ
left_by_step (of_raise x) = raise_leaves x
left_by_step (of_drain x) = drain_leaves x

module _ (start : ℕ) where
  -- the word of a step, by its side's steps before it
  abbrev pub raise_word : RaiseStep → List RaiseStep → ℕ
  raise_word (Admitted id index) t = pend_word index
  raise_word (Loaded id found) t = stay_word (open_stay id t)
  raise_word (Lost id found) t = stay_word (open_stay id t)
  raise_word (Added id found) t = stay_word (open_stay id t)
  raise_word (Stored e) t = slot_word (hard_bank_of t) (producer_index start t)
  raise_word (Published next) t = producer_word (hard_bank_of t)
  raise_word (Marked id found) t = stay_word (open_stay id t)
  raise_word (Cleared id) t = stay_word (open_stay id t)
  raise_word (Switched bank) t = hard_word
  raise_word (LoadedSoftBank found) t = soft_word

  abbrev pub drain_word : DrainStep → List DrainStep → ℕ
  drain_word (LoadedHardBank found) t = hard_word
  drain_word (LoadedProducer found) t = producer_word (soft_bank_of t)
  drain_word (Took e) t = slot_word (soft_bank_of t) (consumer_index start t)
  drain_word (Subtracted found) t = held_word (held_entry t)
  drain_word (Followed bank) t = soft_word

  abbrev pub word_of : RingStep → List RingStep → ℕ
  word_of (of_raise x) log = raise_word x (raise_side log)
  word_of (of_drain x) log = drain_word x (drain_side log)

  -- the words of a ring that is opened
  abbrev pub first_words : List ℕ
  first_words = map (first_word start) (range_with_len 0 word_count)

  -- the words after a step that follows the log
  abbrev pub words_after : RingStep → List RingStep → List ℕ → List ℕ
  words_after x log words = slice_set words (word_of x log) (left_by_step x (slice_index words (word_of x log)))

  -- the words after all steps of the log
  abbrev pub replay : List RingStep → List ℕ
  replay [] = first_words
  replay (x ∷ log) = words_after x log (replay log)

  -- the step is true where it follows the log
  abbrev pub IsTrue : RingStep → List RingStep → Type 0
  IsTrue x log = FoundIs x (slice_index (replay log) (word_of x log))

  abbrev pub AllTrue : List RingStep → Type 0
  AllTrue [] = ⊤
  AllTrue (x ∷ log) = IsTrue x log × AllTrue log

  -- the step stands at this position of the log, and is true there
  abbrev pub StepStandsAt : List RingStep → ℕ → RingStep → Type 0
  StepStandsAt log slot_word x = (later earlier : List RingStep) × (log ≡ later ++ x ∷ earlier) × (length earlier ≡ slot_word)
      × IsTrue x earlier

-- the position of a side's newest step
abbrev pub newest : List ℕ → ℕ
newest [] = 0
newest (slot_word ∷ positions) = slot_word
