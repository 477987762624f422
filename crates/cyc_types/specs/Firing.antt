-- What the holder of a level's firing side knows, and what each of its calls teaches it.
--
-- The soft side may run at the same time, so the holder can't know how many calls of a cyclic are outstanding now. It
-- knows what it last found, and that since then only its own raises can have added to them.
use Rattle.std.specs.Prelude.{◌≡◌, ℕ, ◌+◌, ◌-◌, ◌<◌, ◌≤◌, ◌^◌, Option, Some, None, Bool, true, false, cond, eqb}
use Rattle.cyc_types.specs.Limits.{greatest_bank}
use Rattle.cyc_types.specs.declared.firing.Raised.{Raised}
use Rattle.cyc_types.specs.declared.firing.Raised.TheVariants.{First, More, Lost}
use Rattle.cyc_types.specs.declared.firing.Sent.{Sent}

-- what the holder knows of one admitted cyclic, from its admission on
pub record Stay : Type 0 where
  -- its index on the CPU
  pub index : ℕ
  -- its expirations
  pub sent : ℕ
  -- those of them that found the pend at the ceiling
  pub lost : ℕ
  -- the pend that was last found, and the raises since: never below the calls that are outstanding
  pub seen : ℕ

-- the stay of each admitted id
abbrev pub Stays : Type 0
Stays = ℕ → Option Stay

-- what the holder knows of its level
pub record FiringView : Type 0 where
  pub stays : Stays
  -- the id whose removal is open
  pub marked : Option ℕ
  -- the bank that the firing side fills
  pub bank : ℕ
  -- the greatest pend of the level
  pub ceiling : ℕ
  -- the soft side was seen on the firing side's bank
  pub followed : Bool
  -- no cyclic is between the raise of its pend and its slot in the buffer
  pub hand_free : Bool

-- the stays with a change at one id alone
abbrev pub at_stay : ℕ → (Option Stay → Option Stay) → Stays → Stays
at_stay id f stays = λ j. cond (eqb j id) (f (stays j)) (stays j)

-- a change of a stay, where there is one
abbrev pub edited : (Stay → Stay) → Option Stay → Option Stay
edited f None = None
edited f (Some s) = Some (f s)

-- the view with a change of the stay of one id alone
abbrev pub edit_stay : ℕ → (Stay → Stay) → FiringView → FiringView
edit_stay id f v = record v { stays = at_stay id (edited f) v.stays }

-- the calls of the firing side, each with its answer
pub data FiringCall : Type 0 where
  Admits : ℕ → ℕ → FiringCall
  Loads : ℕ → ℕ → FiringCall
  Raises : ℕ → Raised → FiringCall
  Marks : ℕ → ℕ → FiringCall
  Polls : ℕ → Option Sent → FiringCall
  Expands : ℕ → FiringCall
  Looks : Bool → FiringCall

-- the id is admitted, and this holds of its stay
abbrev pub IsAdmitted : ℕ → FiringView → (Stay → Type 0) → Type 0
IsAdmitted id v P = (s : Stay) × (v.stays id ≡ Some s) × P s

-- an id may be admitted that isn't, at an index of the bank that no other has
abbrev pub MayAdmit : ℕ → ℕ → FiringView → Type 0
MayAdmit id index v = (v.stays id ≡ None) × ((j : ℕ) (s : Stay) → v.stays j ≡ Some s → ¬ (s.index ≡ index)) × (index < 2 ^ v.bank)
    × (v.hand_free ≡ true)

-- an admitted id may be asked for
abbrev pub MayAsk : ℕ → FiringView → Type 0
MayAsk id v = IsAdmitted id v (λ s. Unit {0}) × (v.hand_free ≡ true)

-- an admitted id may be raised whose removal isn't open, and whose count has room for one more
abbrev pub MayRaise : ℕ → FiringView → Type 0
MayRaise id v = IsAdmitted id v (λ s. s.sent < 2 ^ 64 - 1) × ¬ (v.marked ≡ Some id) × (v.hand_free ≡ true)

-- an admitted id may be marked where no removal is open
abbrev pub MayMark : ℕ → FiringView → Type 0
MayMark id v = IsAdmitted id v (λ s. Unit {0}) × (v.marked ≡ None) × (v.hand_free ≡ true)

-- the id whose removal is open may be polled
abbrev pub MayPoll : ℕ → FiringView → Type 0
MayPoll id v = IsAdmitted id v (λ s. Unit {0}) × (v.marked ≡ Some id) × (v.hand_free ≡ true)

-- the firing side may switch to a greater bank where the soft side has followed the last switch
abbrev pub MayExpand : ℕ → FiringView → Type 0
MayExpand bank v = (v.bank < bank) × (bank ≤ greatest_bank) × (v.followed ≡ true) × (v.hand_free ≡ true)

-- what was seen of a stay, and 0 where there is none
abbrev pub seen_in : Option Stay → ℕ
seen_in None = 0
seen_in (Some s) = s.seen

-- what was seen of a cyclic: at least its outstanding calls
abbrev pub seen_of : ℕ → FiringView → ℕ
seen_of id v = seen_in (v.stays id)

-- the counts of a stay, where there is one
abbrev pub sent_in : Option Stay → Option Sent
sent_in None = None
sent_in (Some s) = Some record { sent = s.sent; lost = s.lost }

-- the counts of a cyclic's stay
abbrev pub sent_of : ℕ → FiringView → Option Sent
sent_of id v = sent_in (v.stays id)

-- the pend of the cyclic was found at this number
abbrev pub saw : ℕ → ℕ → FiringView → FiringView
saw id pend v = edit_stay id (λ s. record s { seen = pend }) v

-- the id is admitted at this index, with all counts 0
abbrev pub after_admit : ℕ → ℕ → FiringView → FiringView
after_admit id index v = record v {
  stays =
      at_stay id (λ _. Some record { index = index; sent = 0; lost = 0; seen = 0 }) v.stays;
}

-- an expiration found this pend below the ceiling and raised it
abbrev pub after_expire : ℕ → ℕ → FiringView → FiringView
after_expire id pend v = edit_stay id (λ s. record s { sent = s.sent + 1; seen = pend + 1 }) v

-- an expiration found the pend at the ceiling and is lost
abbrev pub after_lose : ℕ → FiringView → FiringView
after_lose id v = edit_stay id (λ s. record s { sent = s.sent + 1; lost = s.lost + 1; seen = v.ceiling }) v

-- the removal of the id is open, and its pend was found at this number
abbrev pub after_mark : ℕ → ℕ → FiringView → FiringView
after_mark id pend v = record (saw id pend v) { marked = Some id }

-- the stay of the id has ended, and its removal with it
abbrev pub after_clear : ℕ → FiringView → FiringView
after_clear id v = record v { stays = at_stay id (λ _. None) v.stays; marked = None }

-- what a call with its answer teaches the holder
abbrev pub Learns : FiringView → FiringCall → FiringView → Type 0
-- the id is admitted
Learns v (Admits id index) w = w ≡ after_admit id index v
-- the answer is at most what was seen, and is what is seen now
Learns v (Loads id pend) w = (pend ≤ seen_of id v) × (w ≡ saw id pend v)
-- an expiration is lost only where the pend stood at the ceiling, so what was seen was the ceiling
Learns v (Raises id Lost) w = (seen_of id v ≡ v.ceiling) × (w ≡ after_lose id v)
-- the pend was between 0 and the ceiling, and at most what was seen
Learns v (Raises id More) w = (pend : ℕ) × (0 < pend) × (pend < v.ceiling) × (pend ≤ seen_of id v) × (w ≡ after_expire id pend v)
-- the pend was 0
Learns v (Raises id First) w = w ≡ after_expire id 0 v
-- the removal is open; the answer is at most what was seen, and is what is seen now
Learns v (Marks id pend) w = (pend ≤ seen_of id v) × (w ≡ after_mark id pend v)
-- calls are outstanding, at most as many as were seen
Learns v (Polls id None) w = (pend : ℕ) × (0 < pend) × (pend ≤ seen_of id v) × (w ≡ saw id pend v)
-- the answer has the counts of the stay, which has ended
Learns v (Polls id (Some counts)) w = (sent_of id v ≡ Some counts) × (w ≡ after_clear id v)
-- the firing side fills the new bank, and the soft side has still to follow
Learns v (Expands bank) w = w ≡ record v { bank = bank; followed = false }
-- whether the soft side has followed; once seen it stays so until the next switch
Learns v (Looks answer) w = (v.followed ≡ true → answer ≡ true) × (w ≡ record v { followed = answer })

-- what each holder may rely on at any time
pub record Sound (v : FiringView) : Type 0 where
  -- at least one call may be pending
  pub some_ceiling : 0 < v.ceiling
  -- no more calls than the ceiling were seen outstanding
  pub capped : (id : ℕ) (s : Stay) → v.stays id ≡ Some s → s.seen ≤ v.ceiling
  -- what was seen outstanding and what was lost are expirations of the stay
  pub owed : (id : ℕ) (s : Stay) → v.stays id ≡ Some s → s.seen + s.lost ≤ s.sent
  -- different cyclics have different indexes
  pub apart : (a b : ℕ) (s t : Stay) → v.stays a ≡ Some s → v.stays b ≡ Some t → s.index ≡ t.index → a ≡ b
  -- each index is a slot of the firing side's bank
  pub inside : (id : ℕ) (s : Stay) → v.stays id ≡ Some s → s.index < 2 ^ v.bank
  -- the bank is at most the greatest
  pub greatest : v.bank ≤ greatest_bank
