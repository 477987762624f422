-- What holds of a soft level all along a run.
use Rattle.std.specs.Prelude.{◌≡◌, ◌≢◌, ℕ, ◌<◌, ◌≤◌, ⊤, Some, None, List, [], ◌∷◌, length}
use Rattle.cyc_types.specs.Limits.{greatest_bank}
use Rattle.cyc_types.specs.declared.level.Soft.{Soft}
use Rattle.cyc_level.specs.declared.Event.{Event}
use Rattle.cyc_level.specs.declared.Event.TheVariants.{Admit, Expire, Lose, Mark, Clear, Switch}
use Rattle.cyc_level.specs.Level.{SoftLevel, AdmittedCyclic, count}
use Rattle.cyc_level.specs.Lawful.{Lawful}
use Rattle.cyc_level.specs.Conservation.{IsConserved}
use Rattle.cyc_level.specs.Events.{Enabled, after, most_sent}
use Rattle.cyc_script.specs.declared.step.Step.{Step}
use Rattle.cyc_model.specs.Acts.{events_at}
use Rattle.cyc_model.specs.Questions.{Questions}
use Rattle.cyc_model.specs.State.{State}
use Rattle.cyc_model.specs.Script.{steps_from}
use Rattle.cyc_model.specs.Laws.{level_on, HandsAreFree}
use Rattle.cyc_model.specs.Agreement.{AllAgree}

-- the removal of the cyclic isn't open, and its stay can count one more expiration
abbrev pub CanExpire : ℕ → SoftLevel → Type 0
CanExpire id l = (l.marked ≢ Some id) × ((c : AdmittedCyclic) → l.cyclics id ≡ Some c → c.sent < most_sent)

-- what is left to ask where an event of the firing side happens. The rest of what enables it holds in every run: the firer's hand
-- is empty, the cyclic is admitted, and its pend is below the ceiling, or at it where it loses
abbrev pub CanAsFiring : Event → SoftLevel → Type 0
CanAsFiring (Admit id index) l = Enabled (Admit id index) l
CanAsFiring (Expire id) l = CanExpire id l
CanAsFiring (Lose id) l = CanExpire id l
CanAsFiring (Mark id) l = l.marked ≡ None
CanAsFiring (Clear id) l = (l.marked ≡ Some id) × (count l id ≡ 0)
CanAsFiring (Switch bank) l = (l.hard_bank ≡ l.soft_bank) × (l.hard_bank < bank) × (bank ≤ greatest_bank)
CanAsFiring _ l = ⊤

-- the same of each of these, when it happens
abbrev pub AllCanAsFiring : List Event → SoftLevel → Type 0
AllCanAsFiring [] l = ⊤
AllCanAsFiring (event ∷ events) l = CanAsFiring event l × AllCanAsFiring events (after event l)

-- the laws of a level hold: no expiration is forgotten, and no list outgrows its bank
abbrev pub IsSoundLevel : SoftLevel → Type 0
IsSoundLevel l = Lawful l × IsConserved l

-- before the first of these events and after each
abbrev pub AllAlong : List Event → SoftLevel → Type 0
AllAlong [] l = IsSoundLevel l
AllAlong (event ∷ events) l = IsSoundLevel l × AllAlong events (after event l)

-- in any run, each soft level that is lawful before it is lawful and conserved before the first and after each of its events,
-- and so in the machine that the run leaves, if each of its events has what is left to ask when it happens
abbrev pub LevelsStayLawful : Type 0
LevelsStayLawful = (q : Questions) (texts : List (List ℕ)) (indexes : ℕ → ℕ) (step : ℕ) (xs : List Step) (s : State)
    → HandsAreFree s → AllAgree s.cpus → (n : ℕ) → n < length s.cpus → (soft : Soft) → Lawful (level_on n soft s)
    → AllCanAsFiring (events_at n soft (steps_from q texts indexes step xs s).acts) (level_on n soft s)
    → AllAlong (events_at n soft (steps_from q texts indexes step xs s).acts) (level_on n soft s)
    × IsSoundLevel (level_on n soft (steps_from q texts indexes step xs s).state)
