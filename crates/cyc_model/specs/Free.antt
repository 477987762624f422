-- The indexes that the cyclics of a script can get.
use Rattle.std.specs.Prelude.{ℕ, ⊤, List, [], ◌∷◌}
use Rattle.cyc_types.specs.declared.level.Soft.{Soft}
use Rattle.cyc_level.specs.declared.Event.{Event}
use Rattle.cyc_level.specs.declared.Event.TheVariants.{Admit}
use Rattle.cyc_level.specs.Level.{SoftLevel, empty_level}
use Rattle.cyc_level.specs.Events.{Enabled, after}
use Rattle.cyc_script.specs.declared.script.Script.{Script}
use Rattle.cyc_model.specs.Acts.{events_at}
use Rattle.cyc_model.specs.Script.{run_of}

-- an Admit is enabled; of the other events nothing is said
abbrev pub CanBeAdmitted : Event → SoftLevel → Type 0
CanBeAdmitted (Admit id index) l = Enabled (Admit id index) l
CanBeAdmitted _ l = ⊤

-- each Admit of these is enabled when it happens
abbrev pub AllCanBeAdmitted : List Event → SoftLevel → Type 0
AllCanBeAdmitted [] l = ⊤
AllCanBeAdmitted (event ∷ events) l = CanBeAdmitted event l × AllCanBeAdmitted events (after event l)

-- the indexes are free: each Admit of the script's run is enabled when it happens, at every CPU and soft level
abbrev pub AreFree : (ℕ → ℕ) → Script → Type 0
AreFree indexes script = (n : ℕ) (soft : Soft)
    → AllCanBeAdmitted (events_at n soft (run_of indexes script).acts) (empty_level script.ceiling)
