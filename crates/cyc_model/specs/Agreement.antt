-- How the cyclics and the size of a CPU agree with its soft levels.
use Rattle.std.specs.Prelude.{◌≡◌, ◌≢◌, ℕ, ◌<◌, ⊤, None, IsSome, List, [], ◌∷◌, length}
use Rattle.cyc_types.specs.declared.level.Soft.{Soft}
use Rattle.cyc_types.specs.declared.level.Soft.TheVariants.{Low, Lock}
use Rattle.cyc_types.specs.declared.level.Level.{Level}
use Rattle.cyc_types.specs.declared.level.Level.TheVariants as level
use Rattle.cyc_level.specs.declared.Event.{Event}
use Rattle.cyc_level.specs.declared.Event.TheVariants.{Admit, Expire, Lose, Mark, Clear, Switch}
use Rattle.cyc_types.specs.Levels.{as_level}
use Rattle.cyc_level.specs.Level.{SoftLevel, bank_size, count}
use Rattle.cyc_level.specs.Events.{after}
use Rattle.cyc_script.specs.declared.step.Step.{Step}
use Rattle.cyc_model.specs.Acts.{events_at}
use Rattle.cyc_model.specs.Cpu.{Cpu, handler_level_of}
use Rattle.cyc_model.specs.Serving.{level_at}
use Rattle.cyc_model.specs.Questions.{Questions}
use Rattle.cyc_model.specs.State.{State}
use Rattle.cyc_model.specs.Script.{steps_from}
use Rattle.cyc_model.specs.Laws.{level_on, HandsAreFree}

pub record StateAgrees (c : Cpu) : Type 0 where
  -- both soft levels fill the same bank, and there is one index for each of its slots
  pub one_bank : c.low.hard_bank ≡ c.lock.hard_bank
  pub size : c.size ≡ bank_size c.lock.hard_bank
  -- a cyclic of a soft level is admitted there
  pub admitted : (id : ℕ) (soft : Soft) → handler_level_of id c ≡ as_level soft → IsSome ((level_at soft c).cyclics id)

-- each of these CPUs does
abbrev pub AllAgree : List Cpu → Type 0
AllAgree [] = ⊤
AllAgree (c ∷ cs) = StateAgrees c × AllAgree cs

-- in the machine that any steps leave
abbrev pub CpusAgree : Type 0
CpusAgree = (q : Questions) (texts : List (List ℕ)) (indexes : ℕ → ℕ) (step : ℕ) (xs : List Step) (s : State)
    → AllAgree s.cpus → AllAgree (steps_from q texts indexes step xs s).state.cpus

-- what an event of the firing side finds: the firer's hand is empty, the cyclic is admitted, and its pend is at the ceiling just
-- where its expiration is lost
abbrev pub IsReadyToExpire : Event → SoftLevel → Type 0
IsReadyToExpire (Admit id index) l = l.firer_hand ≡ None
IsReadyToExpire (Expire id) l = (l.firer_hand ≡ None) × IsSome (l.cyclics id) × (count l id ≢ l.ceiling)
IsReadyToExpire (Lose id) l = (l.firer_hand ≡ None) × IsSome (l.cyclics id) × (count l id ≡ l.ceiling)
IsReadyToExpire (Mark id) l = (l.firer_hand ≡ None) × IsSome (l.cyclics id)
IsReadyToExpire (Clear id) l = l.firer_hand ≡ None
IsReadyToExpire (Switch bank) l = l.firer_hand ≡ None
IsReadyToExpire _ l = ⊤

-- the same of each of these, when it happens
abbrev pub AllReady : List Event → SoftLevel → Type 0
AllReady [] l = ⊤
AllReady (event ∷ events) l = IsReadyToExpire event l × AllReady events (after event l)

-- in any run from a machine whose CPUs agree, with no cyclic in a firer's hand
abbrev pub FiringSideIsReady : Type 0
FiringSideIsReady = (q : Questions) (texts : List (List ℕ)) (indexes : ℕ → ℕ) (step : ℕ) (xs : List Step) (s : State)
    → HandsAreFree s → AllAgree s.cpus → (n : ℕ) → n < length s.cpus → (soft : Soft)
    → AllReady (events_at n soft (steps_from q texts indexes step xs s).acts) (level_on n soft s)
