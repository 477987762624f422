-- What each kind of atomic step tells its seat: which step its trail gains, and what is known of the value found.
use Rattle.std.specs.Prelude.{◌≡◌, ◌≢◌, ℕ, ◌+◌, ◌%◌, ◌^◌, ◌<◌, ◌≤◌, true, ◌∷◌, length, slice_index}
use mathlib.Core.Option.{some}
use lib.ListN.{get_elem?}
use Rattle.atomic_table.specs.Table.{Me, Step, Allows, keeps, stepped}
use Rattle.cyc_level.specs.Limits.{greatest_bank, cyclics}
use Rattle.cyc_level.specs.Lawful.{IsId}
use Rattle.ring_rule.specs.declared.RaiseStep.{RaiseStep}
use Rattle.ring_rule.specs.declared.RaiseStep.TheVariants.{Admitted, Loaded, Lost, Added, Stored, Published, Marked, Cleared}
use Rattle.ring_rule.specs.declared.RaiseStep.TheVariants.{Switched, LoadedSoftBank}
use Rattle.ring_rule.specs.declared.DrainStep.{DrainStep}
use Rattle.ring_rule.specs.declared.DrainStep.TheVariants.{LoadedHardBank, LoadedProducer, Took, Subtracted, Followed}
use Rattle.ring_rule.specs.declared.SeatView.{SeatView}
use Rattle.ring_rule.specs.declared.Setting.{Setting}
use Rattle.ring_rule.specs.Words.{pend_word, mark_bit, entry_id}
use Rattle.ring_rule.specs.Trail.{seen_pend, soft_bank_of, hard_bank_of, has_followed}
use Rattle.ring_rule.specs.Log.{of_raise, of_drain}
use Rattle.ring_rule.specs.Rule.{RingState, MeetsRule}
use Rattle.ring_rule.specs.Conservation.{StandsFor}

-- the seat that steps: its view, and the slots that it holds, of which there are none
abbrev pub ThisSeat : Type 0
ThisSeat = Me (Unit {0}) SeatView

-- a view whose trail has one step more, at this position
abbrev pub with_raise_step : ℕ → RaiseStep → SeatView → SeatView
with_raise_step position x v = record v { raise_trail = x ∷ v.raise_trail; raise_positions = position ∷ v.raise_positions }

abbrev pub with_drain_step : ℕ → DrainStep → SeatView → SeatView
with_drain_step position x v = record v { drain_trail = x ∷ v.drain_trail; drain_positions = position ∷ v.drain_positions }

-- the seat's trail gains this step, at some position, and nothing else changes. The rule leaves no choice of the position: it is
-- the next one in the order of all steps
abbrev pub GainsRaiseStep : RaiseStep → ThisSeat → ThisSeat → Type 0
GainsRaiseStep x me me' = (position : ℕ) × (me' ≡ (with_raise_step position x me.0, me.1))

abbrev pub GainsDrainStep : DrainStep → ThisSeat → ThisSeat → Type 0
GainsDrainStep x me me' = (position : ℕ) × (me' ≡ (with_drain_step position x me.0, me.1))

-- what a step tells: a fact of the step, the seat before, the value found and the seat after
abbrev pub Telling : Type 1
Telling = Step (Unit {0}) → ThisSeat → ℕ → ThisSeat → Type 0

-- the load that admits an id at an index found the pend word of an unused one
abbrev pub TellsAdmit : ℕ → Telling
TellsAdmit id t me found me' = (found ≡ 0)
    × ((index : ℕ) → index < cyclics → t.word ≡ pend_word index → GainsRaiseStep (Admitted id index) me me')

-- the load that begins a raise: at the ceiling the expiration is lost
abbrev pub TellsLoadToRaise : ℕ → ℕ → Telling
TellsLoadToRaise id ceiling t me found me' = (found ≤ seen_pend id me.0.raise_trail) × (found ≤ ceiling)
    × (found ≡ ceiling → GainsRaiseStep (Lost id found) me me') × (found ≢ ceiling → GainsRaiseStep (Loaded id found) me me')

-- the `fetch_add` of 1
abbrev pub TellsAdd : ℕ → Telling
TellsAdd id t me found me' = (found ≤ seen_pend id me.0.raise_trail) × GainsRaiseStep (Added id found) me me'

-- the store of a buffer word
abbrev pub TellsStore : Telling
TellsStore t me found me' = GainsRaiseStep (Stored t.first) me me'

-- the store of a producer word
abbrev pub TellsPublish : Telling
TellsPublish t me found me' = GainsRaiseStep (Published t.first) me me'

-- the load of a pend word
abbrev pub TellsLoad : ℕ → Telling
TellsLoad id t me found me' = (found % mark_bit ≤ seen_pend id me.0.raise_trail) × GainsRaiseStep (Loaded id found) me me'

-- the `fetch_add` of the mark
abbrev pub TellsMark : ℕ → Telling
TellsMark id t me found me' = (found ≤ seen_pend id me.0.raise_trail) × GainsRaiseStep (Marked id found) me me'

-- the store of 0 that ends the stay
abbrev pub TellsClear : ℕ → Telling
TellsClear id t me found me' = GainsRaiseStep (Cleared id) me me'

-- the store of the hard bank
abbrev pub TellsSwitch : Telling
TellsSwitch t me found me' = GainsRaiseStep (Switched t.first) me me'

-- the load of the soft bank: what was seen to have followed has still followed
abbrev pub TellsLoadSoftBank : Telling
TellsLoadSoftBank t me found me' = (has_followed me.0.raise_trail ≡ true → found ≡ hard_bank_of me.0.raise_trail)
    × GainsRaiseStep (LoadedSoftBank found) me me'

-- the load of the hard bank
abbrev pub TellsLoadHardBank : Telling
TellsLoadHardBank t me found me' = (soft_bank_of me.0.drain_trail ≤ found) × (found ≤ greatest_bank)
    × GainsDrainStep (LoadedHardBank found) me me'

-- the load of a producer word
abbrev pub TellsLoadProducer : Telling
TellsLoadProducer t me found me' = GainsDrainStep (LoadedProducer found) me me'

-- the load of a buffer word found the entry of an id
abbrev pub TellsTake : Telling
TellsTake t me found me' = IsId (entry_id found) × GainsDrainStep (Took found) me me'

-- the `fetch_sub` of 1 found a call outstanding
abbrev pub TellsSubtract : Telling
TellsSubtract t me found me' = (0 < found % mark_bit) × GainsDrainStep (Subtracted found) me me'

-- the store of the soft bank
abbrev pub TellsFollow : Telling
TellsFollow t me found me' = GainsDrainStep (Followed t.first) me me'

-- and each step tells, beside this, that a lawful level stands at its position
abbrev pub AndStands : Setting → Telling → Telling
AndStands k tells t me found me' = tells t me found me' × StandsFor k me'.0

-- an atomic operation of a seat: of which word, and which value it leaves there by the one that it finds
pub record Operation : Type 0 where
  pub slots : ℕ
  pub seat : ℕ
  pub me : ThisSeat
  pub word : ℕ
  pub leaves : ℕ → ℕ

-- a load leaves what it finds
abbrev pub loads : (slots seat : ℕ) → ThisSeat → (word : ℕ) → Operation
loads slots seat me word = record { slots = slots; seat = seat; me = me; word = word; leaves = λ n. n }

-- a store leaves this value
abbrev pub stores : (slots seat : ℕ) → ThisSeat → (word value : ℕ) → Operation
stores slots seat me word value = record { slots = slots; seat = seat; me = me; word = word; leaves = λ _. value }

-- a `fetch_add` leaves so much more, in 64 bits; a `fetch_sub` is one of what lacks to 2^64
abbrev pub adds : (slots seat : ℕ) → ThisSeat → (word more : ℕ) → Operation
adds slots seat me word more = record { slots = slots; seat = seat; me = me; word = word; leaves = λ n. (n + more) % 2 ^ 64 }

-- what is said of an operation of a ring with this setting, which tells this of the value found and the seat after
abbrev pub Claim : Type 1
Claim = Setting → Operation → (ℕ → ThisSeat → Type 0) → Type 0

-- the step keeps the rule, whatever the other side did, and tells beside its own that a lawful level stands now
abbrev pub IsAllowed : Claim
IsAllowed k o tells = Allows (MeetsRule k) o.slots o.seat o.me o.word o.leaves
    (λ found me'. tells found me' × StandsFor k me'.0)

-- a step of the firing side: the log gains it, and so the run the event that the step is, or none
abbrev pub ExtendsByRaise : (k : Setting) (s : RingState) → MeetsRule k s → RingState → RaiseStep → Type 0
ExtendsByRaise k s R s' x = (R' : MeetsRule k s') × (R'.log ≡ of_raise x ∷ R.log)

abbrev pub ExtendsByDrain : (k : Setting) (s : RingState) → MeetsRule k s → RingState → DrainStep → Type 0
ExtendsByDrain k s R s' x = (R' : MeetsRule k s') × (R'.log ≡ of_drain x ∷ R.log)

-- whatever the other side did, the step extends the log so, and its record has the next position
abbrev pub IsRaiseStep : Claim
IsRaiseStep k o tells = (s : RingState) (R : MeetsRule k s) → length s.homes ≡ o.slots
    → get_elem? s.views o.seat ≡ some o.me.0
    → slice_index s.words o.word < 2 ^ 64
    → (x : RaiseStep)
    × ExtendsByRaise k s R (stepped s o.word (o.leaves (slice_index s.words o.word)) o.seat o.me.1
    (with_raise_step (length R.log) x o.me.0) keeps) x
    × tells (slice_index s.words o.word) (with_raise_step (length R.log) x o.me.0, o.me.1)

abbrev pub IsDrainStep : Claim
IsDrainStep k o tells = (s : RingState) (R : MeetsRule k s) → length s.homes ≡ o.slots
    → get_elem? s.views o.seat ≡ some o.me.0
    → slice_index s.words o.word < 2 ^ 64
    → (x : DrainStep)
    × ExtendsByDrain k s R (stepped s o.word (o.leaves (slice_index s.words o.word)) o.seat o.me.1
    (with_drain_step (length R.log) x o.me.0) keeps) x
    × tells (slice_index s.words o.word) (with_drain_step (length R.log) x o.me.0, o.me.1)

-- and so it is allowed: what is said of each kind of step of the firing side
abbrev pub IsFiringStep : Claim
IsFiringStep k o tells = IsRaiseStep k o tells × IsAllowed k o tells

-- the same of the soft side
abbrev pub IsSoftStep : Claim
IsSoftStep k o tells = IsDrainStep k o tells × IsAllowed k o tells
