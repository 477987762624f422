use Rattle.std.proofs.Common.{subst, sym}
use Rattle.cyc_types.specs.Firing.{Learns, Sound, Marks}
use Rattle.cyc_level.specs.declared.Event.TheVariants.{Mark}
use Rattle.cyc_level.specs.Level.{SoftLevel}
use Rattle.cyc_core.specs.Tables.{cyclic_of_entry, level_of}
use Rattle.cyc_core.specs.FiringSide.{firing_view}
use Rattle.cyc_core.proofs.FiringLaws.{learns_mark, can_mark, sound_after}
use Rattle.cyc_core.proofs.raise.LevelCoreRaise.mark.Goals as goal

pub returns-clause-learns : goal.returns-clause-learns
returns-clause-learns c =
    let l = level_of c.args.self.now in
    let entry = c.entry_of-entry.result in
    let facts = c.entry_of-entry.ensures in
    subst (λ (m : SoftLevel). Learns (firing_view l) (Marks c.args.id entry.count) (firing_view m)) (sym c.begin_removal.ensures)
    (learns_mark l c.args.id (cyclic_of_entry entry) facts.cyclic)

pub returns-clause-sound : goal.returns-clause-sound
returns-clause-sound c =
    let l = level_of c.args.self.now in
    let entry = c.entry_of-entry.result in
    let facts = c.entry_of-entry.ensures in
    subst (λ (m : SoftLevel). Sound (firing_view m)) (sym c.begin_removal.ensures)
    (sound_after l (Mark c.args.id) facts.lawful facts.some_ceiling
    (can_mark l c.args.id (cyclic_of_entry entry) facts.cyclic c.requires))
