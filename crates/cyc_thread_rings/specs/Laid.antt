-- Lists that say something of each CPU.
use Rattle.std.specs.Prelude.{List, [], ◌∷◌}
use Rattle.cyc_workers.specs.declared.cpu.Handlers.{Handlers}
use Rattle.cyc_thread_rings.specs.declared.levels.Levels.{Levels}

-- the handlers of a CPU, in the order in which a list of all has them: firing, lock, low
abbrev pub three : {C : Type 0} → Handlers C → List C
three h = h.high ∷ h.lock ∷ h.low ∷ []

-- what the two soft levels have, in the order in which a list of all has them
abbrev pub two : {T : Type 0} → Levels T → List T
two x = x.lock ∷ x.low ∷ []
