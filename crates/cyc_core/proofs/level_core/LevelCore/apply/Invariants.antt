use Rattle.std.proofs.Common.{take}
use Rattle.std.specs.List.{FoldsTo}
use Rattle.cyc_core.specs.Tables.{level_of}
use Rattle.cyc_core.specs.Reached.{Happens}
use Rattle.cyc_core.proofs.level_core.LevelCore.apply.Given as goal

-- the events so far have happened
abbrev pub invariant-loop-at : goal.invariant-loop-at
invariant-loop-at l = FoldsTo Happens (level_of l.initial.self) (take l.at l.events) (level_of l.self)
