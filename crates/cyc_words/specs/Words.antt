-- What each word of a script is: at most one call of a system, with the parameters of the step.
use Rattle.std.specs.Prelude.{◌≡◌, ℕ, ◌<◌, ◌⊎◌, ℤ, pos, int_lt, ◌<ℤ◌, ⊤, cond, List, Option, Some, None, Result, Ok, Err}
use mathlib.Core.Logic.{inl, inr}
use Rattle.cyc_types.specs.declared.moment.When.{When}
use Rattle.cyc_types.specs.declared.refusal.JuggleReport.{JuggleReport}
use Rattle.cyc_types.specs.declared.refusal.Refusal.{Refusal}
use Rattle.cyc_types.specs.declared.refusal.Refusal.TheVariants.{BadWhen, BadInterval, NoCyclic}
use Rattle.cyc_script.specs.declared.step.Step.{Step}
use Rattle.cyc_script.specs.declared.step.Step.TheVariants as steps
use Rattle.cyc_system.specs.SystemRemoval.{SystemRemoval}
use Rattle.cyc_system.specs.Calls.{SystemCall, Add, AddOmni, Bind, BeginRemove, Juggle, Offline, Online, Suspend, Resume}
use Rattle.cyc_system.specs.Calls.{reprograms}
use Rattle.cyc_words.specs.declared.named.Named.{Named}
use Rattle.cyc_words.specs.declared.answer.WordAnswer.{WordAnswer}
use Rattle.cyc_words.specs.declared.answer.WordAnswer.TheVariants.{Added, Done, Removing, Juggled}
use Rattle.cyc_words.specs.Names.{named_at, cyclic_id}

-- ---- what a step asks for

-- the numbers of a step are those of a series; a step with others makes no call
abbrev pub WithSeries : ℤ → ℤ → (When → Type 0) → Type 0 → Type 0
WithSeries start interval Does Nothing =
    ((when : When) × (pos when.start ≡ start) × (pos when.interval ≡ interval) × (0 < when.interval) × Does when)
    ⊎ (((start <ℤ pos 0) ⊎ (interval <ℤ pos 1)) × Nothing)

-- why they are not
abbrev pub no_series : ℤ → Refusal
no_series start = cond (int_lt start (pos 0)) BadWhen BadInterval

-- the number of a step is a moment; a step with a negative one makes no call
abbrev pub WithMoment : ℤ → (ℕ → Type 0) → Type 0 → Type 0
WithMoment number Does Nothing = ((moment : ℕ) × (pos moment ≡ number) × Does moment) ⊎ ((number <ℤ pos 0) × Nothing)

-- the name has an id; a step for one that has none makes no call
abbrev pub WithId : Option ℕ → (ℕ → Type 0) → Type 0 → Type 0
WithId (Some id) Does Nothing = Does id
WithId None Does Nothing = Nothing

-- ---- what a word answers

-- the same as its call, or the same refusal
abbrev pub word_answer : {A : Type 0} → (A → WordAnswer) → Result A Refusal → Result WordAnswer Refusal
word_answer told (Ok a) = Ok (told a)
word_answer told (Err e) = Err e

-- of a call that answers no more than that it was done
abbrev pub done : Unit {0} → WordAnswer
done x = Done

-- ---- what it does

-- an `advance` fires, and a `softint` makes a soft interrupt: these reach handlers, and are none of the calls here
abbrev pub MakesCall : Step → Type 0
MakesCall (steps.Advance now) = ⊥
MakesCall (steps.Softint i) = ⊥
MakesCall x = ⊤

-- The call that a word makes at the clock, where each name has this: for the cyclic of a name, with what the word answers; or why
-- it is refused with no call. The answer to a call for a CPU tells no name anything, so none is meant by the 0.
abbrev pub WithCall : ℕ → List Named → Step → (ℕ → SystemCall → Result WordAnswer Refusal → Type 0) → (Refusal → Type 0)
    → Type 0
WithCall clock names (steps.Add a) Call Refused = WithSeries a.start a.interval
    (λ when. (answer : Result ℕ Refusal) × Call a.name (Add a.level when clock answer) (word_answer Added answer))
    (Refused (no_series a.start))
WithCall clock names (steps.Omni a) Call Refused = WithSeries a.start a.interval
    (λ when. (answer : Result ℕ Refusal) × Call a.name (AddOmni a.level when a.skew clock answer) (word_answer Added answer))
    (Refused (no_series a.start))
WithCall clock names (steps.Bind b) Call Refused = WithId (cyclic_id (named_at names b.name))
    (λ id. (answer : Result (Unit {0}) Refusal) × Call b.name (Bind id (Some b.cpu) answer) (word_answer done answer))
    (Refused NoCyclic)
WithCall clock names (steps.Unbind name) Call Refused = WithId (cyclic_id (named_at names name))
    (λ id. (answer : Result (Unit {0}) Refusal) × Call name (Bind id None answer) (word_answer done answer)) (Refused NoCyclic)
WithCall clock names (steps.Reprogram r) Call Refused = WithMoment r.moment
    (λ moment. WithId (cyclic_id (named_at names r.name)) (λ id. (answer : Result (Unit {0}) Refusal)
    × Call r.name (reprograms r.cpu id moment answer) (word_answer done answer)) (Refused NoCyclic)) (Refused BadWhen)
WithCall clock names (steps.Remove name) Call Refused = WithId (cyclic_id (named_at names name))
    (λ id. (answer : Result SystemRemoval Refusal) × Call name (BeginRemove id answer) (word_answer Removing answer))
    (Refused NoCyclic)
WithCall clock names (steps.Advance now) Call Refused = ⊥
WithCall clock names (steps.Softint i) Call Refused = ⊥
WithCall clock names (steps.Juggle n) Call Refused =
    (answer : Result JuggleReport Refusal) × Call 0 (Juggle n answer) (word_answer Juggled answer)
WithCall clock names (steps.Offline n) Call Refused =
    (answer : Result (Unit {0}) Refusal) × Call 0 (Offline n answer) (word_answer done answer)
WithCall clock names (steps.Online n) Call Refused =
    (answer : Result (Unit {0}) Refusal) × Call 0 (Online n clock answer) (word_answer done answer)
WithCall clock names steps.Suspend Call Refused =
    (answer : Result (Unit {0}) Refusal) × Call 0 (Suspend answer) (word_answer done answer)
WithCall clock names steps.Resume Call Refused =
    (answer : Result (Unit {0}) Refusal) × Call 0 (Resume answer) (word_answer done answer)

-- ---- the call that was made

-- that for the cyclic of a name, where the name has one
abbrev pub id_call : {A : Type 0} → (call : ℕ → Result A Refusal → SystemCall) → (Does : ℕ → Result A Refusal → Type 0)
    → (Nothing : Type 0) → (id : Option ℕ) → WithId id (λ own. (answer : Result A Refusal) × Does own answer) Nothing
    → Option SystemCall
id_call call Does Nothing (Some id) (answer, did) = Some (call id answer)
id_call call Does Nothing None nothing = None

module _ (clock : ℕ) (names : List Named) (Call : ℕ → SystemCall → Result WordAnswer Refusal → Type 0)
    (Refused : Refusal → Type 0) where
  -- that of a word; one that was refused with no call made none
  abbrev pub call_made : (x : Step) → WithCall clock names x Call Refused → Option SystemCall
  call_made (steps.Add a) (inl (when, starts, lasts, long, (answer, did))) = Some (Add a.level when clock answer)
  call_made (steps.Add a) (inr refused) = None
  call_made (steps.Omni a) (inl (when, starts, lasts, long, (answer, did))) = Some (AddOmni a.level when a.skew clock answer)
  call_made (steps.Omni a) (inr refused) = None
  call_made (steps.Bind b) does = id_call (λ id answer. Bind id (Some b.cpu) answer)
      (λ id answer. Call b.name (Bind id (Some b.cpu) answer) (word_answer done answer)) (Refused NoCyclic)
      (cyclic_id (named_at names b.name)) does
  call_made (steps.Unbind name) does = id_call (λ id answer. Bind id None answer)
      (λ id answer. Call name (Bind id None answer) (word_answer done answer)) (Refused NoCyclic)
      (cyclic_id (named_at names name)) does
  call_made (steps.Reprogram r) (inl (moment, is, does)) = id_call (λ id answer. reprograms r.cpu id moment answer)
      (λ id answer. Call r.name (reprograms r.cpu id moment answer) (word_answer done answer)) (Refused NoCyclic)
      (cyclic_id (named_at names r.name)) does
  call_made (steps.Reprogram r) (inr refused) = None
  call_made (steps.Remove name) does = id_call (λ id answer. BeginRemove id answer)
      (λ id answer. Call name (BeginRemove id answer) (word_answer Removing answer)) (Refused NoCyclic)
      (cyclic_id (named_at names name)) does
  call_made (steps.Advance now) does = None
  call_made (steps.Softint i) does = None
  call_made (steps.Juggle n) (answer, did) = Some (Juggle n answer)
  call_made (steps.Offline n) (answer, did) = Some (Offline n answer)
  call_made (steps.Online n) (answer, did) = Some (Online n clock answer)
  call_made steps.Suspend (answer, did) = Some (Suspend answer)
  call_made steps.Resume (answer, did) = Some (Resume answer)
