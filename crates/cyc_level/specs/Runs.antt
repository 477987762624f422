-- A run of a level: a list of events, the newest first. What it says of each side and of each id.
use Rattle.std.specs.Prelude.{◌≡◌, ℕ, ◌+◌, ◌-◌, ◌==◌, if◌then◌else◌, ⊤, Bool, true, false, Option, Some, None, List, [], ◌∷◌}
use Rattle.std.specs.Prelude.{◌++◌}
use Rattle.cyc_level.specs.declared.Event.{Event}
use Rattle.cyc_level.specs.declared.Event.TheVariants.{Admit, Expire, Lose, Publish, Take, Finish, Mark, Clear, Switch, Follow}
use Rattle.cyc_level.specs.Level.{in_hand, count, place_count}
use Rattle.cyc_level.specs.Events.{reached, AllEnabled}

-- whether an event is one of the soft side (cyclic_softint), and not of the firing side (cyclic_fire, and the calls
-- across CPUs)
abbrev pub is_soft_event : Event → Bool
is_soft_event (Admit id index) = false
is_soft_event (Expire id) = false
is_soft_event (Lose id) = false
is_soft_event Publish = false
is_soft_event Take = true
is_soft_event Finish = true
is_soft_event (Mark id) = false
is_soft_event (Clear id) = false
is_soft_event (Switch bank) = false
is_soft_event Follow = true

-- the events of the firing side
abbrev pub firing_events : List Event → List Event
firing_events [] = []
firing_events (e ∷ es) = if is_soft_event e then firing_events es else e ∷ firing_events es

-- the events of the soft side
abbrev pub soft_events : List Event → List Event
soft_events [] = []
soft_events (e ∷ es) = if is_soft_event e then e ∷ soft_events es else soft_events es

-- how often an id expired, in all its stays
abbrev pub expirations_of_id : ℕ → List Event → ℕ
expirations_of_id id [] = 0
expirations_of_id id (Expire a ∷ es) = (if id == a then 1 else 0) + expirations_of_id id es
expirations_of_id id (Lose a ∷ es) = (if id == a then 1 else 0) + expirations_of_id id es
expirations_of_id id (_ ∷ es) = expirations_of_id id es

-- how many of these expirations were lost
abbrev pub losses : ℕ → List Event → ℕ
losses id [] = 0
losses id (Lose a ∷ es) = (if id == a then 1 else 0) + losses id es
losses id (_ ∷ es) = losses id es

-- a stay, as its firing side knows it: the index, and the expirations with those of them that were lost
pub record StayCounts : Type 0 where
  pub index : ℕ
  pub sent : ℕ
  pub lost : ℕ

-- one more expiration, of which this many are lost
abbrev pub one_more : ℕ → Option StayCounts → Option StayCounts
one_more lost None = None
one_more lost (Some s) = Some record { index = s.index; sent = s.sent + 1; lost = s.lost + lost }

-- the stay of an id that has not ended
abbrev pub current_stay : ℕ → List Event → Option StayCounts
current_stay id [] = None
current_stay id (Admit a index ∷ es) = if id == a then Some record { index = index; sent = 0; lost = 0 } else current_stay id es
current_stay id (Expire a ∷ es) = if id == a then one_more 0 (current_stay id es) else current_stay id es
current_stay id (Lose a ∷ es) = if id == a then one_more 1 (current_stay id es) else current_stay id es
current_stay id (Clear a ∷ es) = if id == a then None else current_stay id es
current_stay id (_ ∷ es) = current_stay id es

abbrev pub stay_list : Option StayCounts → List StayCounts
stay_list None = []
stay_list (Some s) = s ∷ []

-- the stays of an id that have ended, the newest first
abbrev pub past_stays : ℕ → List Event → List StayCounts
past_stays id [] = []
past_stays id (Clear a ∷ es) = if id == a then stay_list (current_stay id es) ++ past_stays id es else past_stays id es
past_stays id (_ ∷ es) = past_stays id es

-- the expirations of a stay that were not lost
abbrev pub stay_calls : Option StayCounts → ℕ
stay_calls None = 0
stay_calls (Some s) = s.sent - s.lost

-- the calls of the stays of an id that have ended
abbrev pub past_calls : ℕ → List Event → ℕ
past_calls id [] = 0
past_calls id (Clear a ∷ es) = if id == a then past_calls id es + stay_calls (current_stay id es) else past_calls id es
past_calls id (_ ∷ es) = past_calls id es

module _ (ceiling id : ℕ) where
  -- how many calls of the id were finished, in all its stays
  abbrev pub finishes : List Event → ℕ
  finishes [] = 0
  finishes (Finish ∷ es) = in_hand id (reached ceiling es).drainer_hand + finishes es
  finishes (_ ∷ es) = finishes es

  -- how many were finished since the id was last admitted
  abbrev pub stay_finishes : List Event → ℕ
  stay_finishes [] = 0
  stay_finishes (Admit a index ∷ es) = if id == a then 0 else stay_finishes es
  stay_finishes (Finish ∷ es) = in_hand id (reached ceiling es).drainer_hand + stay_finishes es
  stay_finishes (_ ∷ es) = stay_finishes es

  -- how many were finished in each stay that has ended, the newest first
  abbrev pub past_finishes : List Event → List ℕ
  past_finishes [] = []
  past_finishes (Clear a ∷ es) = if id == a then stay_finishes es ∷ past_finishes es else past_finishes es
  past_finishes (_ ∷ es) = past_finishes es

-- of each ended stay the expirations are its finishes and its losses
abbrev pub AreFinished : List StayCounts → List ℕ → Type 0
AreFinished [] [] = ⊤
AreFinished (s ∷ stays) (done ∷ finishes) = (s.sent ≡ done + s.lost) × AreFinished stays finishes
AreFinished [] (done ∷ finishes) = ⊥
AreFinished (s ∷ stays) [] = ⊥

-- over all stays of an id, admitted or not, its expirations are the finished calls, the outstanding ones and the
-- losses; and each ended stay has no call outstanding
pub record IsConservedOverStays (ceiling : ℕ) (es : List Event) (id : ℕ) : Type 0 where
  pub total : expirations_of_id id es ≡ finishes ceiling id es + count (reached ceiling es) id + losses id es
  pub ended : AreFinished (past_stays id es) (past_finishes ceiling id es)

-- how often an id was admitted
abbrev pub admissions : ℕ → List Event → ℕ
admissions id [] = 0
admissions id (Admit a index ∷ es) = (if id == a then 1 else 0) + admissions id es
admissions id (_ ∷ es) = admissions id es

-- once the removal of an id has answered, and until it is admitted anew, the id stands in no place and no call of it is made
abbrev pub NothingFollowsClear : Type 0
NothingFollowsClear = (ceiling id : ℕ) (later earlier : List Event) → AllEnabled ceiling (later ++ Clear id ∷ earlier)
    → admissions id later ≡ 0
    → (place_count (reached ceiling (later ++ Clear id ∷ earlier)) id ≡ 0)
    × (finishes ceiling id (later ++ Clear id ∷ earlier) ≡ finishes ceiling id earlier)
