-- What holds of every run.
use Rattle.std.specs.Prelude.{◌≡◌, ℕ, ◌+◌, ◌<◌, ◌≤◌, ⊤, List, [], ◌∷◌, length, Some, None}
use Rattle.cyc_types.specs.declared.level.Soft.{Soft}
use Rattle.cyc_types.specs.declared.refusal.Refusal.{Refusal}
use Rattle.cyc_level.specs.declared.Event.{Event}
use Rattle.cyc_level.specs.declared.Event.TheVariants.{Publish, Take, Finish, Follow}
use Rattle.cyc_level.specs.Level.{SoftLevel}
use Rattle.cyc_level.specs.Events.{Enabled, after}
use Rattle.cyc_script.specs.declared.step.Step.{Step}
use Rattle.cyc_script.specs.declared.script.Script.{Script}
use Rattle.cyc_model.specs.Acts.{Act, events_at, calls_of}
use Rattle.cyc_model.specs.Serving.{level_at, level_after}
use Rattle.cyc_model.specs.Questions.{Questions}
use Rattle.cyc_model.specs.Cpu.{CyclicState, Cpu}
use Rattle.cyc_model.specs.State.{State, Placed, cpu_of}
use Rattle.cyc_model.specs.Refusals.{refusal, after_refusal}
use Rattle.cyc_model.specs.Script.{refusal_of, does, word, steps_from, start, text_with, text_of}

-- a step that is refused does nothing, but that an `advance` sets the clock, and says why; one that isn't does what its word does
abbrev pub RefusedOrDone : Type 0
RefusedOrDone = (q : Questions) (texts : List (List ℕ)) (indexes : ℕ → ℕ) (step : ℕ) (x : Step) (s : State)
    → ((why : Refusal) → refusal_of q x s ≡ Some why → word q texts indexes step x s ≡ refusal step why (after_refusal x s))
    × (refusal_of q x s ≡ None → word q texts indexes step x s ≡ does q texts indexes step x s)

-- a soft level of the CPU of this number
abbrev pub level_on : ℕ → Soft → State → SoftLevel
level_on n soft s = level_at soft (cpu_of n s)

-- these acts tell how one state of the machine came from the other: each level is what its events made of it, and the handler
-- of each id was called as often as they say
pub record ActsTell (acts : List Act) (s t : State) : Type 0 where
  pub as_many : length t.cpus ≡ length s.cpus
  pub levels : (n : ℕ) → n < length s.cpus → (soft : Soft)
      → level_on n soft t ≡ level_after (events_at n soft acts) (level_on n soft s)
  pub called : (id : ℕ) → t.called id ≡ s.called id + calls_of id acts

-- the acts of any run tell all of it, whatever the questions answered
abbrev pub ActsTellAll : Type 0
ActsTellAll = (q : Questions) (texts : List (List ℕ)) (indexes : ℕ → ℕ) (step : ℕ) (xs : List Step) (s : State)
    → ActsTell (steps_from q texts indexes step xs s).acts s (steps_from q texts indexes step xs s).state

-- no line and no report tells of an index: the text is the same whatever indexes the cyclics of a script get
abbrev pub TextTellsNoIndex : Type 0
TextTellsNoIndex = (indexes : ℕ → ℕ) (script : Script) → text_with indexes script ≡ text_of script

-- the ids rise, from above the one number to at most the other
abbrev pub RiseTo : ℕ → List Placed → ℕ → Type 0
RiseTo low [] high = low ≤ high
RiseTo low (p ∷ ps) high = (low < p.id) × RiseTo p.id ps high

-- no cyclic has an id above this one
abbrev pub AtMost : ℕ → List CyclicState → Type 0
AtMost id [] = ⊤
AtMost id (x ∷ xs) = (x.timer.id ≤ id) × AtMost id xs

-- nor has one on any of these CPUs
abbrev pub AllAtMost : ℕ → List Cpu → Type 0
AllAtMost id [] = ⊤
AllAtMost id (c ∷ cs) = AtMost id c.cyclics × AllAtMost id cs

-- at least so many ids were given; no id stands twice, and none that was not given
pub record AreGiven (least : ℕ) (s : State) : Type 0 where
  pub many : least ≤ s.last_id
  pub rise : RiseTo 0 s.placed s.last_id
  pub cyclics : AllAtMost s.last_id s.cpus

-- after any steps of a machine that begins with no cyclic, and after any further steps, which take no id back
abbrev pub IdsAreGivenOnce : Type 0
IdsAreGivenOnce = (q : Questions) (texts : List (List ℕ)) (indexes : ℕ → ℕ) (cpus ceiling names step : ℕ) (xs ys : List Step)
    → AreGiven (steps_from q texts indexes 1 xs (start cpus ceiling names)).state.last_id
    (steps_from q texts indexes step ys (steps_from q texts indexes 1 xs (start cpus ceiling names)).state).state

-- an event of the soft side, or a Publish, is enabled; of the other events nothing is said
abbrev pub CanAsSoft : Event → SoftLevel → Type 0
CanAsSoft Take l = Enabled Take l
CanAsSoft Finish l = Enabled Finish l
CanAsSoft Follow l = Enabled Follow l
CanAsSoft Publish l = Enabled Publish l
CanAsSoft _ l = ⊤

-- the same of each of these, when it happens
abbrev pub AllCanAsSoft : List Event → SoftLevel → Type 0
AllCanAsSoft [] l = ⊤
AllCanAsSoft (event ∷ events) l = CanAsSoft event l × AllCanAsSoft events (after event l)

-- no level has a cyclic in its firer's hand
abbrev pub HandsAreFree : State → Type 0
HandsAreFree s = (n : ℕ) → n < length s.cpus → (soft : Soft) → (level_on n soft s).firer_hand ≡ None

-- in any run from such a machine, each Take, Finish, Follow and Publish is enabled when it happens, and the run leaves such a
-- machine
abbrev pub SoftSideIsEnabled : Type 0
SoftSideIsEnabled = (q : Questions) (texts : List (List ℕ)) (indexes : ℕ → ℕ) (step : ℕ) (xs : List Step) (s : State)
    → HandsAreFree s
    → ((n : ℕ) → n < length s.cpus → (soft : Soft)
    → AllCanAsSoft (events_at n soft (steps_from q texts indexes step xs s).acts) (level_on n soft s))
    × HandsAreFree (steps_from q texts indexes step xs s).state
