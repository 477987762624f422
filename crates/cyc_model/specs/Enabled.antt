-- Every event of a script's run is enabled when it happens, and there are indexes with which this is so.
use Rattle.std.specs.Prelude.{ℕ, ◌<◌, ⊤, List, [], ◌∷◌}
use Rattle.cyc_types.specs.declared.level.Soft.{Soft}
use Rattle.cyc_level.specs.declared.Event.{Event}
use Rattle.cyc_level.specs.Level.{SoftLevel, empty_level}
use Rattle.cyc_level.specs.Events.{Enabled, after}
use Rattle.cyc_script.specs.declared.script.Script.{Script}
use Rattle.cyc_model.specs.Acts.{events_at}
use Rattle.cyc_model.specs.Script.{run_of}
use Rattle.cyc_model.specs.Laws.{level_on}
use Rattle.cyc_model.specs.Along.{AllAlong, IsSoundLevel}
use Rattle.cyc_model.specs.Free.{AreFree}

-- each of these is enabled when it happens
abbrev pub AllHappen : List Event → SoftLevel → Type 0
AllHappen [] l = ⊤
AllHappen (event ∷ events) l = Enabled event l × AllHappen events (after event l)

-- what a script does at one soft level of one CPU can be done: each event is enabled when it happens, and the level is lawful
-- and conserved before the first of them, after each, and at the end
pub record CanBeDone (n : ℕ) (soft : Soft) (indexes : ℕ → ℕ) (script : Script) : Type 0 where
  pub enabled : AllHappen (events_at n soft (run_of indexes script).acts) (empty_level script.ceiling)
  pub along : AllAlong (events_at n soft (run_of indexes script).acts) (empty_level script.ceiling)
  pub end : IsSoundLevel (level_on n soft (run_of indexes script).state)

-- where the indexes are free, at every soft level of every CPU of the script
abbrev pub EventsAreEnabled : Type 0
EventsAreEnabled = (indexes : ℕ → ℕ) (script : Script) → AreFree indexes script
    → (n : ℕ) → n < script.cpus → (soft : Soft) → CanBeDone n soft indexes script

-- and every script has free indexes
abbrev pub IndexesAreFound : Type 0
IndexesAreFound = (script : Script) → (indexes : ℕ → ℕ) × AreFree indexes script
