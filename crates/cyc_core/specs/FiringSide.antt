-- What the firing side knows of a level that no other thread uses, and the events of each of its calls.
use Rattle.std.specs.Prelude.{◌≡◌, ℕ, ◌<◌, ◌==◌, List, [], ◌∷◌, Some, None, is_none}
use Rattle.std.specs.Option.{option_map}
use Rattle.std.specs.List.{FoldsTo}
use Rattle.cyc_types.specs.Firing.{Stay, FiringView, FiringCall, Admits, Loads, Raises, Marks, Polls, Expands, Looks, sent_of}
use Rattle.cyc_types.specs.declared.firing.Raised.{Raised}
use Rattle.cyc_types.specs.declared.firing.Raised.TheVariants.{First, More, Lost}
use Rattle.cyc_level.specs.declared.Event.{Event}
use Rattle.cyc_level.specs.declared.Event.TheVariants.{Admit, Expire, Lose, Publish, Mark, Clear, Switch}
use Rattle.cyc_level.specs.Level.{AdmittedCyclic, SoftLevel, count}
use Rattle.cyc_core.specs.Reached.{Happens}

-- the pend that is seen is the pend
abbrev pub stay_of : AdmittedCyclic → Stay
stay_of c = record { index = c.index; sent = c.sent; lost = c.lost; seen = c.count }

-- the firing side knows all of its level but what the soft side holds
abbrev pub firing_view : SoftLevel → FiringView
firing_view l = record {
  stays = λ id. option_map stay_of (l.cyclics id);
  marked = l.marked;
  bank = l.hard_bank;
  ceiling =
      l.ceiling;
  followed = l.hard_bank == l.soft_bank;
  hand_free = is_none l.firer_hand;
}

-- the events of a raise with this answer (cyclic_expire)
abbrev pub events_of_raise : ℕ → Raised → List Event
events_of_raise id First = Expire id ∷ Publish ∷ []
events_of_raise id More = Expire id ∷ []
events_of_raise id Lost = Lose id ∷ []

-- a call of the firing side with its answer: its events happened, in this order, and the answer is what was found. The firer's
-- hand is empty after each
abbrev pub FiringDoes : SoftLevel → FiringCall → SoftLevel → Type 0
FiringDoes l (Admits id index) m = Happens l (Admit id index) m
FiringDoes l (Loads id pend) m = (pend ≡ count l id) × (m ≡ l)
FiringDoes l (Raises id answer) m = FoldsTo Happens l (events_of_raise id answer) m × (m.firer_hand ≡ None)
FiringDoes l (Marks id pend) m = (pend ≡ count l id) × Happens l (Mark id) m
FiringDoes l (Polls id None) m = (0 < count l id) × (m ≡ l)
FiringDoes l (Polls id (Some counts)) m = (sent_of id (firing_view l) ≡ Some counts) × Happens l (Clear id) m
FiringDoes l (Expands bank) m = Happens l (Switch bank) m
FiringDoes l (Looks answer) m = (answer ≡ (l.hard_bank == l.soft_bank)) × (m ≡ l)
