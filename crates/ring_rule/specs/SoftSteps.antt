-- The law of each step of the soft side: where it may be made, it keeps the rule and is its one event or none.
use Rattle.std.specs.Prelude.{◌≡◌, ◌≢◌, ℕ, ◌+◌, ◌-◌, ◌%◌, ◌^◌, Some, None}
use mathlib.Core.Option.{none}
use Rattle.atomic_table.specs.Table.{step}
use Rattle.ring_rule.specs.declared.Role.TheVariants.{Drain}
use Rattle.ring_rule.specs.declared.Setting.{Setting}
use Rattle.ring_rule.specs.Words.{pend_word, index_range, slot_word, producer_word, hard_word, soft_word, entry_index}
use Rattle.ring_rule.specs.Trail.{held_entry, soft_bank_of, consumer_index, producer_seen, bank_seen}
use Rattle.ring_rule.specs.Steps.{ThisSeat, IsSoftStep, loads, stores, adds}
use Rattle.ring_rule.specs.Steps.{TellsLoadHardBank, TellsLoadProducer, TellsTake, TellsFollow}
use Rattle.ring_rule.specs.Steps.{TellsSubtract}

-- the load of the hard bank: no event
abbrev pub LoadHardBankLaw : Type 0
LoadHardBankLaw = (k : Setting) (slots seat : ℕ) (me : ThisSeat)
    → me.0.role ≡ Drain
    → IsSoftStep k (loads slots seat me hard_word) (TellsLoadHardBank (step slots hard_word 0 0 none) me)

-- the load of the producer word of the soft side's bank: no event
abbrev pub LoadProducerLaw : Type 0
LoadProducerLaw = (k : Setting) (slots seat : ℕ) (me : ThisSeat)
    → me.0.role ≡ Drain
    → (i : ℕ)
    → i ≡ producer_word (soft_bank_of me.0.drain_trail)
    → IsSoftStep k (loads slots seat me i) (TellsLoadProducer (step slots i 0 0 none) me)

-- the load of the buffer word at the consumer index, where the producer word was found to differ: the event Take
abbrev pub TakeLaw : Type 0
TakeLaw = (k : Setting) (slots seat : ℕ) (me : ThisSeat) (end : ℕ)
    → me.0.role ≡ Drain
    → held_entry me.0.drain_trail ≡ None
    → producer_seen me.0.drain_trail ≡ Some end
    → end ≢ consumer_index k.start me.0.drain_trail % index_range
    → (i : ℕ)
    → i ≡ slot_word (soft_bank_of me.0.drain_trail) (consumer_index k.start me.0.drain_trail)
    → IsSoftStep k (loads slots seat me i) (TellsTake (step slots i 0 0 none) me)

-- the store of the soft bank: after a look that found another hard bank, and then one that found the producer word at the
-- consumer index. The event Follow
abbrev pub FollowLaw : Type 0
FollowLaw = (k : Setting) (slots seat : ℕ) (me : ThisSeat) (bank last : ℕ)
    → me.0.role ≡ Drain
    → bank_seen me.0.drain_trail ≡ Some bank
    → bank ≢ soft_bank_of me.0.drain_trail
    → producer_seen me.0.drain_trail ≡ Some last
    → last ≡ consumer_index k.start me.0.drain_trail % index_range
    → IsSoftStep k (stores slots seat me soft_word bank) (λ _. TellsFollow (step slots soft_word bank 0 none) me bank)

-- the fetch_sub of 1 on the pend word of the cyclic in hand: the event Finish
abbrev pub SubtractLaw : Type 0
SubtractLaw = (k : Setting) (slots seat : ℕ) (me : ThisSeat) (e : ℕ)
    → me.0.role ≡ Drain
    → held_entry me.0.drain_trail ≡ Some e
    → (i : ℕ)
    → i ≡ pend_word (entry_index e)
    → IsSoftStep k (adds slots seat me i (2 ^ 64 - 1)) (TellsSubtract (step slots i 1 0 none) me)
