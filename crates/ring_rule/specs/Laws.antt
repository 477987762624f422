-- What the rule says of the records, whatever the plays say that made them.
use Rattle.std.specs.Prelude.{◌≡◌, ◌≢◌, ℕ, zero, suc, ◌+◌, ◌*◌, ◌%◌, ◌≤◌, ◌==◌, if◌then◌else◌, Some, List, [], ◌∷◌, ◌++◌, length}
use Rattle.std.specs.Prelude.{slice_set, All, ⊤}
use mathlib.Core.Option.{some}
use lib.ListN.{get_elem?}
use Rattle.cyc_level.specs.Level.{AdmittedCyclic, SoftLevel, count, soft_list, in_hand}
use Rattle.cyc_level.specs.Events.{first_of, IsUnused}
use Rattle.cyc_level.specs.Runs.{firing_events, soft_events}
use Rattle.ring_rule.specs.declared.Role.{Role}
use Rattle.ring_rule.specs.declared.Role.TheVariants.{Joint, Raise, Drain, Spent}
use Rattle.ring_rule.specs.declared.RaiseStep.{RaiseStep}
use Rattle.ring_rule.specs.declared.RaiseStep.TheVariants.{Admitted, Loaded, Lost, Added, Stored, Published, Marked, Cleared}
use Rattle.ring_rule.specs.declared.RaiseStep.TheVariants.{Switched, LoadedSoftBank}
use Rattle.ring_rule.specs.declared.DrainStep.{DrainStep}
use Rattle.ring_rule.specs.declared.DrainStep.TheVariants.{LoadedHardBank, LoadedProducer, Took, Subtracted, Followed}
use Rattle.ring_rule.specs.declared.SeatView.{SeatView}
use Rattle.ring_rule.specs.declared.Setting.{Setting}
use Rattle.ring_rule.specs.Words.{mark_bit, index_range, entry, entry_id}
use Rattle.ring_rule.specs.Trail.{consumer_index, drainer_hand_of, raise_events, drain_events}
use Rattle.ring_rule.specs.Log.{
  RingStep,
  of_raise,
  of_drain,
  raise_side,
  drain_side,
  events_of,
  level_after_steps,
  words_after,
  IsTrue,
}
use Rattle.ring_rule.specs.Log.{StepStandsAt}
use Rattle.ring_rule.specs.Rule.{RingState, MeetsRule}
use Rattle.ring_rule.specs.Conservation.{AllStood}
use Rattle.ring_rule.specs.Steps.{with_raise_step, with_drain_step}

-- each record of a view's side has a position in the log, and is true there
abbrev pub RaisesStand : ℕ → List RingStep → SeatView → Type 0
RaisesStand start log v = (n : ℕ) (x : RaiseStep) → get_elem? v.raise_trail n ≡ some x
    → (position : ℕ) × (get_elem? v.raise_positions n ≡ some position) × StepStandsAt start log position (of_raise x)

abbrev pub DrainsStand : ℕ → List RingStep → SeatView → Type 0
DrainsStand start log v = (n : ℕ) (x : DrainStep) → get_elem? v.drain_trail n ≡ some x
    → (position : ℕ) × (get_elem? v.drain_positions n ≡ some position) × StepStandsAt start log position (of_drain x)

abbrev pub ItsRecordsStand : ℕ → List RingStep → SeatView → Role → Type 0
ItsRecordsStand start log v Joint = RaisesStand start log v × DrainsStand start log v
ItsRecordsStand start log v Raise = RaisesStand start log v
ItsRecordsStand start log v Drain = DrainsStand start log v
ItsRecordsStand start log v Spent = ⊤

abbrev pub EachRecordIsTrue : Type 0
EachRecordIsTrue = (k : Setting) (s : RingState) (R : MeetsRule k s) (seat : ℕ) (v : SeatView) → get_elem? s.views seat ≡ some v
    → ItsRecordsStand k.start R.log v v.role

-- each step of a trail with its position
abbrev pub placed : {A : Type 0} → List ℕ → List A → List (ℕ × A)
placed [] [] = []
placed [] (x ∷ xs) = []
placed (n ∷ ns) [] = []
placed (n ∷ ns) (x ∷ xs) = (n, x) ∷ placed ns xs

-- the first n steps, read off both trails by the positions; it ends where no trail has the position
abbrev pub merged : ℕ → List (ℕ × RaiseStep) → List (ℕ × DrainStep) → List RingStep
merged zero a b = []
merged (suc n) [] [] = []
merged (suc n) [] (y ∷ b) = of_drain y.1 ∷ merged n [] b
merged (suc n) (x ∷ a) [] = of_raise x.1 ∷ merged n a []
merged (suc n) (x ∷ a) (y ∷ b) = if x.0 == n then of_raise x.1 ∷ merged n a (y ∷ b) else of_drain y.1 ∷ merged n (x ∷ a) b

-- the raise seat of a state and its drain seat
abbrev pub AreSeats : RingState → ℕ → SeatView → ℕ → SeatView → Type 0
AreSeats s i v j w = (get_elem? s.views i ≡ some v) × (v.role ≡ Raise) × (get_elem? s.views j ≡ some w) × (w.role ≡ Drain)

-- the two seats determine the log: there is no choice of an interleaving
abbrev pub TrailsMakeTheLog : Type 0
TrailsMakeTheLog = (k : Setting) (s : RingState) (R : MeetsRule k s) (i j : ℕ) (v w : SeatView) → AreSeats s i v j w
    → R.log ≡ merged (length v.raise_trail + length w.drain_trail) (placed v.raise_positions v.raise_trail)
    (placed w.drain_positions w.drain_trail)

-- its events are those of the two trails
abbrev pub SidesAreTheTrails : Type 0
SidesAreTheTrails = (log : List RingStep) → (firing_events (events_of log) ≡ raise_events (raise_side log))
    × (soft_events (events_of log) ≡ drain_events (drain_side log))

-- where from one state to another each trail only grew, the log only grew: it gained these records, and each of them stands at a
-- position that is not below the log's length in the first state
abbrev pub RecordsComeAfter : Type 0
RecordsComeAfter = (k : Setting) (s s' : RingState) (R : MeetsRule k s) (R' : MeetsRule k s') (i j i' j' : ℕ)
    (v w v' w' : SeatView)
    → AreSeats s i v j w
    → AreSeats s' i' v' j' w'
    → (raises : List RaiseStep) (drains : List DrainStep) (raise_at drain_at : List ℕ)
    → (v'.raise_trail ≡ raises ++ v.raise_trail) × (v'.raise_positions ≡ raise_at ++ v.raise_positions)
    → (w'.drain_trail ≡ drains ++ w.drain_trail) × (w'.drain_positions ≡ drain_at ++ w.drain_positions)
    → (later : List RingStep) × (R'.log ≡ later ++ R.log) × (raise_side later ≡ raises) × (drain_side later ≡ drains)
    × All (λ position. length R.log ≤ position) raise_at × All (λ position. length R.log ≤ position) drain_at

-- whatever a play says: where the rule holds before and after a seat's trail gains a record, its position is the number of steps
-- so far, it is true of the words before, and the words after are as the step leaves them
abbrev pub NewRaiseIsTrue : Type 0
NewRaiseIsTrue = (k : Setting) (s s' : RingState) (R : MeetsRule k s) (R' : MeetsRule k s') (seat position : ℕ) (v : SeatView)
    (x : RaiseStep)
    → get_elem? s.views seat ≡ some v
    → v.role ≡ Raise
    → s'.views ≡ slice_set s.views seat (with_raise_step position x v)
    → (position ≡ length R.log) × IsTrue k.start (of_raise x) R.log × (s'.words ≡ words_after k.start (of_raise x) R.log s.words)

abbrev pub NewDrainIsTrue : Type 0
NewDrainIsTrue = (k : Setting) (s s' : RingState) (R : MeetsRule k s) (R' : MeetsRule k s') (seat position : ℕ) (v : SeatView)
    (x : DrainStep)
    → get_elem? s.views seat ≡ some v
    → v.role ≡ Drain
    → s'.views ≡ slice_set s.views seat (with_drain_step position x v)
    → (position ≡ length R.log) × IsTrue k.start (of_drain x) R.log × (s'.words ≡ words_after k.start (of_drain x) R.log s.words)

-- the pend word of an id: its outstanding calls, with the mark
abbrev pub pend_of : SoftLevel → ℕ → ℕ
pend_of l id = count l id + mark_bit * in_hand id l.marked

-- what a step found, as the level just before it shows it
abbrev pub RaiseFinds : SoftLevel → RaiseStep → Type 0
RaiseFinds l (Admitted id index) = IsUnused l index
RaiseFinds l (Loaded id found) = found ≡ pend_of l id
RaiseFinds l (Lost id found) = found ≡ pend_of l id
RaiseFinds l (Added id found) = found ≡ pend_of l id
RaiseFinds l (Stored e) = ⊤
RaiseFinds l (Published next) = ⊤
RaiseFinds l (Marked id found) = found ≡ pend_of l id
RaiseFinds l (Cleared id) = ⊤
RaiseFinds l (Switched bank) = ⊤
RaiseFinds l (LoadedSoftBank found) = found ≡ l.soft_bank

-- the same of the soft side, whose next index is the consumer index. The producer word of its bank is that index and the list's
-- length, and the buffer word the entry of the list's first id
abbrev pub DrainFinds : ℕ → SoftLevel → DrainStep → Type 0
DrainFinds consumer l (LoadedHardBank found) = found ≡ l.hard_bank
DrainFinds consumer l (LoadedProducer found) = found ≡ (consumer + length (soft_list l)) % index_range
DrainFinds consumer l (Took e) = (id : ℕ) × (c : AdmittedCyclic) × (first_of (soft_list l) ≡ Some id) × (l.cyclics id ≡ Some c)
    × (e ≡ entry id c.index)
DrainFinds consumer l (Subtracted found) = (id : ℕ) × (l.drainer_hand ≡ Some id) × (found ≡ pend_of l id)
DrainFinds consumer l (Followed bank) = ⊤

abbrev pub Finds : Setting → List RingStep → RingStep → Type 0
Finds k log (of_raise x) = RaiseFinds (level_after_steps k.ceiling log) x
Finds k log (of_drain x) = DrainFinds (consumer_index k.start (drain_side log)) (level_after_steps k.ceiling log) x

-- each step of the log found what the level just before it shows
abbrev pub FoundIsShown : Type 0
FoundIsShown = (k : Setting) (later earlier : List RingStep) (x : RingStep) → AllStood k (later ++ x ∷ earlier)
    → Finds k earlier x

-- the step admits the id
abbrev pub IsAdmission : ℕ → RaiseStep → Type 0
IsAdmission id (Admitted a index) = a ≡ id
IsAdmission id (_) = ⊥

abbrev pub NoneAdmits : ℕ → List RaiseStep → Type 0
NoneAdmits id [] = ⊤
NoneAdmits id (x ∷ t) = ¬ IsAdmission id x × NoneAdmits id t

-- the step, which follows these of its side, takes the id or finishes a call of it
abbrev pub IsCall : ℕ → DrainStep → List DrainStep → Type 0
IsCall id (Took e) t = entry_id e ≡ id
IsCall id (Subtracted found) t = drainer_hand_of t ≡ Some id
IsCall id (_) t = ⊥

-- none of the steps does, which follow these of their side
abbrev pub NoneCalls : ℕ → List DrainStep → List DrainStep → Type 0
NoneCalls id [] t = ⊤
NoneCalls id (x ∷ steps) t = ¬ IsCall id x (steps ++ t) × NoneCalls id steps t

-- behind the step that ends a stay of the id, and until it is admitted anew, no step takes the id or finishes a call of it, and
-- it is not in the drainer's hand: so no handler's call of it begins
abbrev pub NoCallFollowsRemoval : Type 0
NoCallFollowsRemoval = (k : Setting) (later earlier : List RingStep) (id : ℕ)
    → AllStood k (later ++ of_raise (Cleared id) ∷ earlier)
    → NoneAdmits id (raise_side later)
    → NoneCalls id (drain_side later) (drain_side earlier) × (drainer_hand_of (drain_side later ++ drain_side earlier) ≢ Some id)
