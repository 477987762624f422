use Rattle.cyc_core.specs.Tables.{level_of}
use Rattle.cyc_core.specs.Shown.{shown_core}
use Rattle.cyc_core.proofs.Changes.{entry_of, held_cyclic, reached_lawful}
use Rattle.cyc_core.proofs.level_core.LevelCore.make.Goals as goal

pub entry_of-entry-requires-in-Some : goal.entry_of-entry-requires-in-Some
entry_of-entry-requires-in-Some c =
    let t = shown_core c.self.inside in
    let held = held_cyclic (level_of t) (reached_lawful (level_of t) c.self.invariant.reached) c.in-Some.id c.in-Some.is in
    rw (← c.self.view_is) (entry_of t c.in-Some.id held.0 held.1)
