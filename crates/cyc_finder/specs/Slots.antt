-- The slots of a finder: each is of a cyclic that is here or is gone, by rising id.
use Rattle.std.specs.Prelude.{◌≡◌, ◌≢◌, ℕ, ◌+◌, ◌<◌, ◌≤◌, List, length, Option, None}
use Rattle.std.specs.List.{filter_map, AllWithin, HoldsAt}
use Rattle.std.specs.Option.{option_map}
use Rattle.cyc_finder.specs.declared.slots.First.{First}
use Rattle.cyc_finder.specs.Sorted.{IsAt}
use Rattle.cyc_finder.specs.Indexes.{Entry}

-- a slot: an id that came, and its index while its cyclic is here
pub record SlotView : Type 0 where
  pub id : ℕ
  pub index : Option ℕ

abbrev pub slot_id : SlotView → ℕ
slot_id slot = slot.id

-- the entry of a slot whose cyclic is here
abbrev pub entry_of : SlotView → Option Entry
entry_of slot = option_map (λ index. record { id = slot.id; index = index }) slot.index

-- the entries of the cyclics that are here
abbrev pub entries_of : List SlotView → List Entry
entries_of slots = filter_map entry_of slots

-- the cyclic of the slot is gone
abbrev pub IsGoneSlot : SlotView → Type 0
IsGoneSlot slot = slot.index ≡ None

-- it is here
abbrev pub IsHereSlot : SlotView → Type 0
IsHereSlot slot = slot.index ≢ None

-- it is here and has the id
abbrev pub IsHereOf : ℕ → SlotView → Type 0
IsHereOf id slot = (slot.id ≡ id) × IsHereSlot slot

-- the cyclic of the id is here, and its slot stands at this position
pub record IsHereAt (slots : List SlotView) (id position : ℕ) : Type 0 where
  pub at : IsAt slot_id slots id position
  pub here : HoldsAt IsHereSlot slots position

-- the first slot whose cyclic is here, behind the last where none is: those before it are gone. An id that follows it with none
-- between them left out stands as far from the base as its number says
pub record IsFirst (slots : List SlotView) (first : First) : Type 0 where
  pub in_range : first.position ≤ length slots
  pub gone_before : AllWithin IsGoneSlot slots 0 first.position
  pub here : first.position < length slots → HoldsAt IsHereSlot slots first.position
  pub base_is : first.position < length slots → HoldsAt (λ slot. first.base + first.position ≡ slot.id) slots first.position
