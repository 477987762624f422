-- What a call of a system over plain levels is as a word of a script.
use Rattle.std.specs.Prelude.{◌≡◌, ℕ, ◌+◌, int_lt, ℤ, pos, ⊤, false, List, [], ◌∷◌, length, None}
use Rattle.cyc_types.specs.declared.level.Soft.{Soft}
use Rattle.cyc_types.specs.declared.moment.When.{When}
use Rattle.cyc_types.specs.declared.refusal.Refusal.{Refusal}
use Rattle.cyc_types.specs.declared.refusal.Refusal.TheVariants.{Pending, Left}
use Rattle.cyc_core.specs.Tables.{Tables}
use Rattle.cyc_script.specs.declared.step.Step.{Step}
use Rattle.cyc_system.specs.System.{SystemView}
use Rattle.cyc_model.specs.Acts.{calls_of, events_at}
use Rattle.cyc_model.specs.Serving.{level_at}
use Rattle.cyc_model.specs.Questions.{plain}
use Rattle.cyc_model.specs.State.{State, Outcome, cpu_of}
use Rattle.cyc_types.specs.Reasons.{first_refusal}
use Rattle.cyc_model.specs.Refusals.{bad_when, magnitude}
use Rattle.cyc_model.specs.Free.{AllCanBeAdmitted}
use Rattle.cyc_model.specs.Script.{refusal_of, does}
use Rattle.cyc_system_model.specs.Answers.{IsRefused}
use Rattle.cyc_system_model.specs.Shown.{ShowsSystem}

-- the next cyclics that are put on a CPU get these indexes
abbrev pub GivesIndexes : (ℕ → ℕ) → ℕ → List ℕ → Type 0
GivesIndexes indexes k [] = Unit {0}
GivesIndexes indexes k (index ∷ given) = (indexes k ≡ index) × GivesIndexes indexes (k + 1) given

-- What the definition comes to is what the system did: the machine after it shows the system after it, so many cyclics were put
-- on a CPU, and the index of each was free.
pub record ComesTo (given : List ℕ) (s : State) (o : Outcome) (w : SystemView Tables) : Type 0 where
  pub shows : ShowsSystem o.state w
  pub admissions : o.state.admissions ≡ s.admissions + length given
  pub free : (n : ℕ) (soft : Soft) → AllCanBeAdmitted (events_at n soft o.acts) (level_at soft (cpu_of n s))

-- the definition refuses the step for this reason, and the machine shows the system as it is now; want of memory comes where
-- there is no other reason
abbrev pub IsRefusedFor : Refusal → Step → State → SystemView Tables → Type 0
IsRefusedFor e x s w = IsRefused e (refusal_of plain x s) × ShowsSystem s w

-- The definition does not refuse the step, and what it does is what the system did, where the cyclics that it puts on CPUs get
-- the indexes that they got there. No handler is called.
pub record IsDone (x : Step) (s : State) (w : SystemView Tables) : Type 0 where
  pub accepted : refusal_of plain x s ≡ None
  pub given : List ℕ
  pub comes : (texts : List (List ℕ)) (indexes : ℕ → ℕ) (step : ℕ) → GivesIndexes indexes s.admissions given
      → ComesTo given s (does plain texts indexes step x s) w
  pub quiet : (texts : List (List ℕ)) (indexes : ℕ → ℕ) (step : ℕ) → GivesIndexes indexes s.admissions given
      → (id : ℕ) → calls_of id (does plain texts indexes step x s).acts ≡ 0

-- the same, and this is the line of a step of each number
pub record IsDoneWith (line : ℕ → List ℕ) (x : Step) (s : State) (w : SystemView Tables) : Type 0 where
  pub done : IsDone x s w
  pub said : (texts : List (List ℕ)) (indexes : ℕ → ℕ) (step : ℕ) → GivesIndexes indexes s.admissions done.given
      → (does plain texts indexes step x s).line ≡ line step

-- a refusal that comes before anything is done: the others of an offline come after its cyclics had their turns
abbrev pub IsAtOnce : Refusal → Type 0
IsAtOnce Pending = ⊥
IsAtOnce (Left report) = ⊥
IsAtOnce e = ⊤

-- ---- what a step asks for

-- a step's start and interval are this series
abbrev pub IsSeries : ℤ → ℤ → When → Type 0
IsSeries start interval series = (first_refusal (bad_when start interval) ≡ None) × (magnitude start ≡ series.start)
    × (magnitude interval ≡ series.interval)

-- a step's moment is this one
abbrev pub IsMoment : ℤ → ℕ → Type 0
IsMoment z moment = (int_lt z (pos 0) ≡ false) × (magnitude z ≡ moment)
