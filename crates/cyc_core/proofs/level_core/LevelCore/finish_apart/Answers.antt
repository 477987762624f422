use Rattle.cyc_core.specs.Tables.{level_of}
use Rattle.cyc_core.proofs.Changes.{entry_of, held_cyclic}
use Rattle.cyc_core.proofs.level_core.LevelCore.finish_apart.Goals as goal

pub entry_of-entry-requires : goal.entry_of-entry-requires
entry_of-entry-requires c =
    let t = c.args.self.now in
    let held = held_cyclic (level_of t) c.conservation.ensures.lawful c.args.id c.requires in
    entry_of t c.args.id held.0 held.1
