-- What the tasks of a scheduler say of themselves as handlers.
use Rattle.std.specs.Prelude.{◌≡◌, ℕ, true}
use Rattle.cyc_types.specs.Tally.{tally_count, tally_called, TallyRefuses}
use Rattle.cyc_types.specs.declared.Calls.{Ghosts as Calls}
use Rattle.cyc_types.specs.declared.level.Level.{Level}
use Rattle.uses.specs.declared.tick.Tasks.{Tasks}

-- the calls of an id so far
abbrev pub calls_so_far : Tasks → ℕ → ℕ
calls_so_far tasks id = tally_count tasks.calls id

-- a call of the id was counted, and asks for a switch
abbrev pub IsCalled : Tasks → ℕ → Level → Tasks → Type 0
IsCalled tasks id level after = tally_called tasks.calls id level after.calls × (after.switch ≡ true)

-- the tally refuses the id
abbrev pub MayRefuse : Tasks → ℕ → Type 0
MayRefuse tasks id = TallyRefuses tasks.calls id

-- the three at once
abbrev pub tasks_calls : Calls Tasks
tasks_calls = record { count = calls_so_far; called = IsCalled; may_refuse = MayRefuse }
