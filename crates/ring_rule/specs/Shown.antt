-- The level that the words and the two trails show.
use Rattle.std.specs.Prelude.{◌≡◌, ◌≢◌, ℕ, ◌+◌, ◌*◌, ◌%◌, ◌<◌, ◌≤◌, ◌==◌, if◌then◌else◌, true, Option, Some, None, List, [], ◌∷◌}
use Rattle.std.specs.Prelude.{length, slice_index, ⊤}
use Rattle.cyc_level.specs.Limits.{greatest_bank, cyclics}
use Rattle.cyc_level.specs.Level.{AdmittedCyclic, Cyclics, SoftLevel, count, soft_list, in_hand}
use Rattle.cyc_level.specs.Runs.{StayCounts}
use Rattle.ring_rule.specs.declared.RaiseStep.{RaiseStep}
use Rattle.ring_rule.specs.declared.DrainStep.{DrainStep}
use Rattle.ring_rule.specs.Words.{pend_word, mark_bit, index_range, slot_word, producer_word, hard_word, soft_word, entry}
use Rattle.ring_rule.specs.Words.{entry_id}
use Rattle.ring_rule.specs.Words.{entry_index}
use Rattle.ring_rule.specs.Trail.{open_stay, ended_calls, firer_hand_of, marked_of, seen_pend, hard_bank_of, producer_index}
use Rattle.ring_rule.specs.Trail.{stored_entry, has_followed, held_entry, drainer_hand_of, made_calls, soft_bank_of}
use Rattle.ring_rule.specs.Trail.{consumer_index, producer_seen, bank_seen}

-- the stay in the raise seat's trail is the level's. Of the finishes made, those of the stays that have ended are not
-- this stay's
abbrev pub IsSameStay : ℕ → ℕ → Option StayCounts → Option AdmittedCyclic → Type 0
IsSameStay made ended None None = made ≡ ended
IsSameStay made ended (Some s) (Some c) = (s.index ≡ c.index) × (s.sent ≡ c.sent) × (s.lost ≡ c.lost) × (made ≡ c.done + ended)
IsSameStay made ended None (Some c) = ⊥
IsSameStay made ended (Some s) None = ⊥

module _ (words : List ℕ) (m : Cyclics) where
  -- the buffer word of this index of a bank is the entry of the id, which is admitted
  abbrev pub HoldsEntry : ℕ → ℕ → ℕ → Type 0
  HoldsEntry bank i id = (c : AdmittedCyclic) × (m id ≡ Some c) × (slice_index words (slot_word bank i) ≡ entry id c.index)

  -- from the index i on up to its producer word the bank holds the entries of these ids
  abbrev pub BankHolds : ℕ → ℕ → List ℕ → Type 0
  BankHolds bank i [] = slice_index words (producer_word bank) ≡ i % index_range
  BankHolds bank i (id ∷ ids) = HoldsEntry bank i id × BankHolds bank (i + 1) ids

  -- an entry that was stored and isn't yet published is that of the firer's hand
  abbrev pub IsHandStored : ℕ → ℕ → Option ℕ → Option ℕ → Type 0
  IsHandStored bank i None hand = ⊤
  IsHandStored bank i (Some e) None = ⊥
  IsHandStored bank i (Some e) (Some id) = HoldsEntry bank i id

-- what a firing side's trail says of a level
pub record FiringSummary : Type 0 where
  pub hard_bank : ℕ
  pub firer_hand : Option ℕ
  pub marked : Option ℕ
  pub stays : ℕ → Option StayCounts
  -- the calls of the stays that have ended
  pub ended : ℕ → ℕ
  -- the next index that it fills
  pub producer : ℕ

-- what a soft side's trail says of a level
pub record SoftSummary : Type 0 where
  pub soft_bank : ℕ
  pub drainer_hand : Option ℕ
  -- the finishes made
  pub made : ℕ → ℕ
  -- the next index that it takes
  pub consumer : ℕ

-- a load that is no event leaves the summary of its side
abbrev pub firing_summary : ℕ → List RaiseStep → FiringSummary
firing_summary start t = record {
  hard_bank = hard_bank_of t;
  firer_hand = firer_hand_of t;
  marked = marked_of t;
  stays = λ id. open_stay id t;
  ended = λ id. ended_calls id t;
  producer = producer_index start t;
}

abbrev pub soft_summary : ℕ → List DrainStep → SoftSummary
soft_summary start t = record {
  soft_bank = soft_bank_of t;
  drainer_hand = drainer_hand_of t;
  made = λ id. made_calls id t;
  consumer = consumer_index start t;
}

-- where the new list begins in its bank: at the consumer index, or at the bank's first index until the soft side has followed
abbrev pub new_list_start : ℕ → ℕ → SoftLevel → ℕ
new_list_start start consumer l = if l.hard_bank == l.soft_bank then consumer else start

-- each part of the level is what the words and the two sides say
pub record Shows (start : ℕ) (words : List ℕ) (firing : FiringSummary) (soft : SoftSummary) (l : SoftLevel) : Type 0 where
  pub hard_is : l.hard_bank ≡ firing.hard_bank
  pub soft_is : l.soft_bank ≡ soft.soft_bank
  pub hard_shown : slice_index words hard_word ≡ l.hard_bank
  pub soft_shown : slice_index words soft_word ≡ l.soft_bank
  pub firer_is : l.firer_hand ≡ firing.firer_hand
  pub drainer_is : l.drainer_hand ≡ soft.drainer_hand
  pub marked_is : l.marked ≡ firing.marked
  pub stays : (id : ℕ) → IsSameStay (soft.made id) (firing.ended id) (firing.stays id) (l.cyclics id)
  -- a pend word is the outstanding calls with the mark, and that of an unused index is 0
  pub pends : (id : ℕ) (c : AdmittedCyclic) → l.cyclics id ≡ Some c
      → slice_index words (pend_word c.index) ≡ c.count + mark_bit * in_hand id l.marked
  pub unused : (i : ℕ) → i < cyclics → ((id : ℕ) (c : AdmittedCyclic) → l.cyclics id ≡ Some c → c.index ≢ i)
      → slice_index words (pend_word i) ≡ 0
  -- each entry between the indexes is id * cyclics + index of an admitted id
  pub new_held : BankHolds words l.cyclics l.hard_bank (new_list_start start soft.consumer l) l.new_list
  pub old_held : l.hard_bank ≢ l.soft_bank → BankHolds words l.cyclics l.soft_bank soft.consumer l.old_list
  pub produced : firing.producer ≡ new_list_start start soft.consumer l + length l.new_list

-- the words and the two trails show the level
abbrev pub TrailsShow : ℕ → List ℕ → List RaiseStep → List DrainStep → SoftLevel → Type 0
TrailsShow start words raises drains l = Shows start words (firing_summary start raises) (soft_summary start drains) l

-- what the values that the two sides found say of the level still
pub record StillHolds (start : ℕ) (words : List ℕ) (raise_trail : List RaiseStep) (drain_trail : List DrainStep)
    (l : SoftLevel) : Type 0 where
  pub seen_is_enough : (id : ℕ) → count l id ≤ seen_pend id raise_trail
  pub hand_stored : IsHandStored words l.cyclics l.hard_bank (producer_index start raise_trail) (stored_entry raise_trail)
      (firer_hand_of raise_trail)
  -- the banks that were never used
  pub fresh : (bank : ℕ) → l.hard_bank < bank → bank ≤ greatest_bank
      → slice_index words (producer_word bank) ≡ start % index_range
  pub held_is : (e : ℕ) → held_entry drain_trail ≡ Some e → (c : AdmittedCyclic) × (l.cyclics (entry_id e) ≡ Some c)
      × (c.index ≡ entry_index e)
  pub followed_is : has_followed raise_trail ≡ true → l.hard_bank ≡ l.soft_bank
  -- a hard bank that was found to be another than the soft side's is still the hard bank
  pub bank_is : (bank : ℕ) → bank_seen drain_trail ≡ Some bank → bank ≢ l.soft_bank → bank ≡ l.hard_bank
  -- where the producer word differed from the consumer index there is still an entry
  pub some_left : (end : ℕ) → producer_seen drain_trail ≡ Some end
      → end ≢ consumer_index start drain_trail % index_range → soft_list l ≢ []
  -- where it did not, after a look that found another hard bank, the old list is still empty
  pub none_left : (end bank : ℕ) → producer_seen drain_trail ≡ Some end
      → end ≡ consumer_index start drain_trail % index_range → bank_seen drain_trail ≡ Some bank → bank ≢ l.soft_bank
      → l.old_list ≡ []
