-- The atomic steps of each call, the newest first, and how its answer comes from the values that they found.
use Rattle.std.specs.Prelude.{◌≡◌, ◌≢◌, ℕ, ◌+◌, ◌*◌, ◌%◌, ◌<◌, ◌≤◌, ◌==◌, List, [], ◌∷◌, ◌++◌, length, Some, None, ⊤}
use Rattle.cyc_types.specs.Limits.{greatest_bank}
use Rattle.cyc_types.specs.Firing.{FiringCall, Admits, Loads, Raises, Marks, Polls, Expands, Looks}
use Rattle.cyc_types.specs.Draining.{DrainCall, Takes, Finishes}
use Rattle.cyc_types.specs.declared.firing.Raised.TheVariants as answers
use Rattle.cyc_types.specs.declared.draining.Finished.{Finished}
use Rattle.cyc_types.specs.declared.draining.Finished.TheVariants.{More, Last, LastOfRemoval}
use Rattle.ring_rule.specs.declared.RaiseStep.{RaiseStep}
use Rattle.ring_rule.specs.declared.RaiseStep.TheVariants.{Admitted, Loaded, Lost, Added, Stored, Published, Marked, Cleared}
use Rattle.ring_rule.specs.declared.RaiseStep.TheVariants.{Switched, LoadedSoftBank}
use Rattle.ring_rule.specs.declared.DrainStep.{DrainStep}
use Rattle.ring_rule.specs.declared.DrainStep.TheVariants.{LoadedHardBank, LoadedProducer, Took, Subtracted, Followed}
use Rattle.ring_rule.specs.declared.SeatView.{SeatView}
use Rattle.ring_rule.specs.declared.Setting.{Setting}
use Rattle.ring_rule.specs.Words.{mark_bit, index_range, entry, entry_id}
use Rattle.cyc_level.specs.Runs.{StayCounts}
use Rattle.ring_rule.specs.Trail.{open_stay, seen_pend, hard_bank_of, producer_index, held_entry, soft_bank_of, consumer_index}
use Rattle.ring_rule.specs.Log.{RingStep, raise_side, raise_positions, drain_side, drain_positions, newest}
use Rattle.ring_rule.specs.Conservation.{AllStood}

-- a lawful level stands at the position of the firing side's newest step: the one order of all steps up to there has this trail
-- on its side, with these positions, and each record of it is true
abbrev pub RaiseStands : Setting → List RaiseStep → List ℕ → Type 0
RaiseStands k t positions = (log : List RingStep) × (t ≡ raise_side log) × (positions ≡ raise_positions log)
    × (length log ≡ newest positions + 1)
    × AllStood k log

-- the same of the soft side
abbrev pub DrainStands : Setting → List DrainStep → List ℕ → Type 0
DrainStands k t positions = (log : List RingStep) × (t ≡ drain_side log) × (positions ≡ drain_positions log)
    × (length log ≡ newest positions + 1)
    × AllStood k log

-- a lawful level stood at the position of each of these steps, which the trail gained
abbrev pub RaiseStood : Setting → List RaiseStep → List ℕ → List RaiseStep → List ℕ → Type 0
RaiseStood k [] [] t at = ⊤
RaiseStood k (x ∷ steps) (p ∷ positions) t at = RaiseStands k (x ∷ (steps ++ t)) (p ∷ (positions ++ at))
    × RaiseStood k steps positions t at
RaiseStood k [] (p ∷ positions) t at = ⊥
RaiseStood k (x ∷ steps) [] t at = ⊥

abbrev pub DrainStood : Setting → List DrainStep → List ℕ → List DrainStep → List ℕ → Type 0
DrainStood k [] [] t at = ⊤
DrainStood k (x ∷ steps) (p ∷ positions) t at = DrainStands k (x ∷ (steps ++ t)) (p ∷ (positions ++ at))
    × DrainStood k steps positions t at
DrainStood k [] (p ∷ positions) t at = ⊥
DrainStood k (x ∷ steps) [] t at = ⊥

module _ (k : Setting) (t : List RaiseStep) where
  -- the steps of a call of the firing side
  abbrev pub RaiseSteps : FiringCall → List RaiseStep → Type 0
  -- the load of the pend word
  RaiseSteps (Admits id index) steps = steps ≡ Admitted id index ∷ []
  -- the load of the pend word, whose count is the answer
  RaiseSteps (Loads id pend) steps = (found : ℕ) × (pend ≡ found % mark_bit) × (pend ≤ seen_pend id t)
      × (steps ≡ Loaded id found ∷ [])
  -- the load of the pend word found the ceiling
  RaiseSteps (Raises id answers.Lost) steps = (k.ceiling ≤ seen_pend id t) × (steps ≡ Lost id k.ceiling ∷ [])
  -- the load found less than the ceiling, and the `fetch_add` of 1 found a call outstanding
  RaiseSteps (Raises id answers.More) steps = (before found : ℕ) × (before < k.ceiling) × (before ≤ seen_pend id t) × (0 < found)
      × (found ≤ before) × (steps ≡ Added id found ∷ Loaded id before ∷ [])
  -- the `fetch_add` of 1 found none outstanding; then the store of the entry, and the store of the producer word, one higher
  RaiseSteps (Raises id answers.First) steps = (before : ℕ) × (s : StayCounts) × (before < k.ceiling) × (before ≤ seen_pend id t)
      × (open_stay id t ≡ Some s)
      × (steps ≡ Published ((producer_index k.start t + 1) % index_range) ∷ Stored (entry id s.index) ∷ Added id 0
      ∷ Loaded id before ∷ [])
  -- the `fetch_add` of the mark, which found the answer
  RaiseSteps (Marks id pend) steps = (pend ≤ seen_pend id t) × (steps ≡ Marked id pend ∷ [])
  -- the load of the pend word found calls outstanding
  RaiseSteps (Polls id None) steps = (found : ℕ) × (0 < found % mark_bit) × (found % mark_bit ≤ seen_pend id t)
      × (steps ≡ Loaded id found ∷ [])
  -- the load found none outstanding; then the store of 0. The answer is what this stay's calls sent and lost
  RaiseSteps (Polls id (Some counts)) steps = (found index : ℕ) × (found % mark_bit ≡ 0)
      × (open_stay id t ≡ Some record { index = index; sent = counts.sent; lost = counts.lost })
      × (steps ≡ Cleared id ∷ Loaded id found ∷ [])
  -- the store of the hard bank
  RaiseSteps (Expands bank) steps = steps ≡ Switched bank ∷ []
  -- the load of the soft bank
  RaiseSteps (Looks answer) steps = (found : ℕ) × (answer ≡ (found == hard_bank_of t)) × (steps ≡ LoadedSoftBank found ∷ [])

-- the answer of a finish by what the `fetch_sub` found
abbrev pub IsFinish : ℕ → Finished → Type 0
IsFinish found More = 1 < found % mark_bit
IsFinish found Last = found ≡ 1
IsFinish found LastOfRemoval = (found % mark_bit ≡ 1) × (mark_bit ≤ found)

module _ (start : ℕ) (t : List DrainStep) where
  -- looks that each found another hard bank and an empty bank of the soft side's, and followed there
  abbrev pub AreFollows : List DrainStep → Type 0
  AreFollows [] = ⊤
  AreFollows (Followed bank ∷ LoadedProducer end ∷ LoadedHardBank saw ∷ steps) =
      (bank ≡ saw) × (saw ≢ soft_bank_of (steps ++ t)) × (end ≡ consumer_index start (steps ++ t) % index_range)
      × AreFollows steps
  AreFollows _ = ⊥

  -- a load of the hard bank that found the soft side's bank, then a load of its producer word that found the consumer index
  abbrev pub FoundNone : List DrainStep → List DrainStep → Type 0
  FoundNone before steps = (bank end : ℕ) × (bank ≡ soft_bank_of (before ++ t))
      × (end ≡ consumer_index start (before ++ t) % index_range)
      × (steps ≡ LoadedProducer end ∷ LoadedHardBank bank ∷ before)

  -- a load of the hard bank, a load of the producer word that found another index, then the load of an entry of the id
  abbrev pub FoundEntry : ℕ → List DrainStep → List DrainStep → Type 0
  FoundEntry id before steps = (bank end e : ℕ) × (end ≢ consumer_index start (before ++ t) % index_range) × (id ≡ entry_id e)
      × (steps ≡ Took e ∷ LoadedProducer end ∷ LoadedHardBank bank ∷ before)

  -- the steps of a call of the soft side. A take follows at most once for each bank but the first, and so looks at most as often
  -- as there are banks
  abbrev pub DrainSteps : DrainCall → List DrainStep → Type 0
  DrainSteps (Takes None) steps = (before : List DrainStep) × AreFollows before
      × FoundNone before steps × (length before ≤ 3 * greatest_bank)
  DrainSteps (Takes (Some id)) steps = (before : List DrainStep) × AreFollows before × FoundEntry id before steps
      × (length before ≤ 3 * greatest_bank)
  -- the `fetch_sub` of 1 on the pend word of the cyclic in hand
  DrainSteps (Finishes id answer) steps = (e found : ℕ) × (held_entry t ≡ Some e) × (id ≡ entry_id e) × IsFinish found answer
      × (steps ≡ Subtracted found ∷ [])

-- a call of the firing side: the seat's trail gained the steps of the call, each with its position, and at the position of each
-- of them a lawful level stood
pub record MakesRaiseCall (k : Setting) (v : SeatView) (call : FiringCall) (v' : SeatView) : Type 0 where
  pub steps : List RaiseStep
  pub positions : List ℕ
  pub gained : v'.raise_trail ≡ steps ++ v.raise_trail
  pub placed : v'.raise_positions ≡ positions ++ v.raise_positions
  pub made : RaiseSteps k v.raise_trail call steps
  pub stood : RaiseStood k steps positions v.raise_trail v.raise_positions

-- a call of the soft side, the same
pub record MakesDrainCall (k : Setting) (v : SeatView) (call : DrainCall) (v' : SeatView) : Type 0 where
  pub steps : List DrainStep
  pub positions : List ℕ
  pub gained : v'.drain_trail ≡ steps ++ v.drain_trail
  pub placed : v'.drain_positions ≡ positions ++ v.drain_positions
  pub made : DrainSteps k.start v.drain_trail call steps
  pub stood : DrainStood k steps positions v.drain_trail v.drain_positions
