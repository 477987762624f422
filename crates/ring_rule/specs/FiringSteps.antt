-- The law of each step of the firing side: where it may be made, it keeps the rule and is its one event or none.
use Rattle.std.specs.Prelude.{◌≡◌, ◌≢◌, ℕ, ◌+◌, ◌%◌, ◌^◌, ◌<◌, ◌≤◌, true, Some, None}
use mathlib.Core.Option.{none}
use Rattle.atomic_table.specs.Table.{step}
use Rattle.cyc_types.specs.Limits.{greatest_bank, cyclics}
use Rattle.cyc_level.specs.Level.{bank_size}
use Rattle.cyc_level.specs.Lawful.{IsId}
use Rattle.cyc_level.specs.Events.{most_sent}
use Rattle.cyc_level.specs.Runs.{StayCounts}
use Rattle.ring_rule.specs.declared.Role.TheVariants.{Raise}
use Rattle.ring_rule.specs.declared.Setting.{Setting}
use Rattle.ring_rule.specs.Words.{pend_word, mark_bit, index_range, slot_word, producer_word, hard_word, soft_word, entry}
use Rattle.ring_rule.specs.Trail.{open_stay, firer_hand_of, marked_of, seen_pend, hard_bank_of, producer_index, stored_entry}
use Rattle.ring_rule.specs.Trail.{has_followed}
use Rattle.ring_rule.specs.Steps.{ThisSeat, IsFiringStep, loads, stores, adds}
use Rattle.ring_rule.specs.Steps.{TellsAdmit, TellsLoad, TellsLoadToRaise, TellsAdd, TellsStore}
use Rattle.ring_rule.specs.Steps.{TellsPublish, TellsMark, TellsClear, TellsSwitch, TellsLoadSoftBank}

-- the load of the pend word of an unused index: the event Admit
abbrev pub AdmitLaw : Type 0
AdmitLaw = (k : Setting) (slots seat : ℕ) (me : ThisSeat) (i id : ℕ)
    → me.0.role ≡ Raise
    → open_stay id me.0.raise_trail ≡ None
    → ((j : ℕ) (s : StayCounts) → open_stay j me.0.raise_trail ≡ Some s → s.index ≢ i)
    → firer_hand_of me.0.raise_trail ≡ None
    → i < bank_size (hard_bank_of me.0.raise_trail)
    → i < cyclics
    → IsId id
    → (word : ℕ)
    → word ≡ pend_word i
    → IsFiringStep k (loads slots seat me word) (TellsAdmit id (step slots word 0 0 none) me)

-- the load of the pend word of an admitted id: no event
abbrev pub LoadLaw : Type 0
LoadLaw = (k : Setting) (slots seat : ℕ) (me : ThisSeat) (i id : ℕ) (s : StayCounts)
    → me.0.role ≡ Raise
    → open_stay id me.0.raise_trail ≡ Some s
    → i ≡ pend_word s.index
    → IsFiringStep k (loads slots seat me i) (TellsLoad id (step slots i 0 0 none) me)

-- the load of the pend word that begins a raise: the event Lose at the ceiling, otherwise none
abbrev pub LoadToRaiseLaw : Type 0
LoadToRaiseLaw = (k : Setting) (slots seat : ℕ) (me : ThisSeat) (i id : ℕ) (s : StayCounts)
    → me.0.role ≡ Raise
    → open_stay id me.0.raise_trail ≡ Some s
    → i ≡ pend_word s.index
    → marked_of me.0.raise_trail ≢ Some id
    → firer_hand_of me.0.raise_trail ≡ None
    → s.sent < most_sent
    → (ceiling : ℕ)
    → ceiling ≡ k.ceiling
    → IsFiringStep k (loads slots seat me i) (TellsLoadToRaise id ceiling (step slots i 0 0 none) me)

-- the fetch_add of 1 on the pend word, where it was seen below the ceiling: the event Expire
abbrev pub AddLaw : Type 0
AddLaw = (k : Setting) (slots seat : ℕ) (me : ThisSeat) (i id : ℕ) (s : StayCounts)
    → me.0.role ≡ Raise
    → open_stay id me.0.raise_trail ≡ Some s
    → i ≡ pend_word s.index
    → marked_of me.0.raise_trail ≢ Some id
    → firer_hand_of me.0.raise_trail ≡ None
    → seen_pend id me.0.raise_trail < k.ceiling
    → s.sent < most_sent
    → IsFiringStep k (adds slots seat me i 1) (TellsAdd id (step slots i 1 0 none) me)

-- the store of the entry of the cyclic in the firer's hand, at the producer index of the hard bank: no event
abbrev pub StoreLaw : Type 0
StoreLaw = (k : Setting) (slots seat : ℕ) (me : ThisSeat) (id : ℕ) (s : StayCounts)
    → me.0.role ≡ Raise
    → firer_hand_of me.0.raise_trail ≡ Some id
    → open_stay id me.0.raise_trail ≡ Some s
    → (i : ℕ)
    → i ≡ slot_word (hard_bank_of me.0.raise_trail) (producer_index k.start me.0.raise_trail)
    → (v : ℕ)
    → v ≡ entry id s.index
    → IsFiringStep k (stores slots seat me i v) (λ _. TellsStore (step slots i v 0 none) me v)

-- the store of the producer word, one higher, after that of the entry: the event Publish
abbrev pub PublishLaw : Type 0
PublishLaw = (k : Setting) (slots seat : ℕ) (me : ThisSeat) (id e : ℕ)
    → me.0.role ≡ Raise
    → firer_hand_of me.0.raise_trail ≡ Some id
    → stored_entry me.0.raise_trail ≡ Some e
    → (i : ℕ)
    → i ≡ producer_word (hard_bank_of me.0.raise_trail)
    → (v : ℕ)
    → v ≡ (producer_index k.start me.0.raise_trail + 1) % index_range
    → IsFiringStep k (stores slots seat me i v) (λ _. TellsPublish (step slots i v 0 none) me v)

-- the fetch_add of the mark on the pend word: the event Mark
abbrev pub MarkLaw : Type 0
MarkLaw = (k : Setting) (slots seat : ℕ) (me : ThisSeat) (i id : ℕ) (s : StayCounts)
    → me.0.role ≡ Raise
    → open_stay id me.0.raise_trail ≡ Some s
    → i ≡ pend_word s.index
    → marked_of me.0.raise_trail ≡ None
    → firer_hand_of me.0.raise_trail ≡ None
    → IsFiringStep k (adds slots seat me i mark_bit) (TellsMark id (step slots i mark_bit 0 none) me)

-- the store of 0 in the pend word of the marked cyclic, which was found with no call outstanding: the event Clear
abbrev pub ClearLaw : Type 0
ClearLaw = (k : Setting) (slots seat : ℕ) (me : ThisSeat) (i id : ℕ) (s : StayCounts)
    → me.0.role ≡ Raise
    → open_stay id me.0.raise_trail ≡ Some s
    → i ≡ pend_word s.index
    → marked_of me.0.raise_trail ≡ Some id
    → seen_pend id me.0.raise_trail ≡ 0
    → firer_hand_of me.0.raise_trail ≡ None
    → IsFiringStep k (stores slots seat me i 0) (λ _. TellsClear id (step slots i 0 0 none) me 0)

-- the store of a greater hard bank, where the soft side was seen to have followed: the event Switch
abbrev pub SwitchLaw : Type 0
SwitchLaw = (k : Setting) (slots seat : ℕ) (me : ThisSeat) (bank : ℕ)
    → me.0.role ≡ Raise
    → firer_hand_of me.0.raise_trail ≡ None
    → has_followed me.0.raise_trail ≡ true
    → hard_bank_of me.0.raise_trail < bank
    → bank ≤ greatest_bank
    → IsFiringStep k (stores slots seat me hard_word bank) (λ _. TellsSwitch (step slots hard_word bank 0 none) me bank)

-- the load of the soft bank: no event
abbrev pub LoadSoftBankLaw : Type 0
LoadSoftBankLaw = (k : Setting) (slots seat : ℕ) (me : ThisSeat)
    → me.0.role ≡ Raise
    → IsFiringStep k (loads slots seat me soft_word) (TellsLoadSoftBank (step slots soft_word 0 0 none) me)
