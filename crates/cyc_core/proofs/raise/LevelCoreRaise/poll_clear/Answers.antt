use Rattle.std.proofs.Common.{◌≡◌, arith, subst, sym, Some}
use Rattle.cyc_types.specs.Firing.{Learns, Sound, Polls}
use Rattle.cyc_level.specs.declared.Event.TheVariants.{Clear}
use Rattle.cyc_level.specs.Level.{SoftLevel}
use Rattle.cyc_core.specs.Tables.{cyclic_of_entry, level_of}
use Rattle.cyc_core.specs.FiringSide.{firing_view}
use Rattle.cyc_core.proofs.FiringLaws.{learns_clear, can_clear, sound_after}
use Rattle.cyc_core.proofs.raise.LevelCoreRaise.poll_clear.Goals as goal

pub returns-clause-learns : goal.returns-clause-learns
returns-clause-learns c =
    let l = level_of c.args.self.now in
    let entry = c.entry_of-entry.result in
    let facts = c.entry_of-entry.ensures in
    subst (λ (m : SoftLevel). Learns (firing_view l) (Polls c.args.id (Some (record { sent = entry.sent; lost = entry.lost })))
    (firing_view m)) (sym c.end_stay.ensures) (learns_clear l c.args.id (cyclic_of_entry entry) facts.cyclic)

pub returns-clause-sound : goal.returns-clause-sound
returns-clause-sound c =
    let l = level_of c.args.self.now in
    let entry = c.entry_of-entry.result in
    let facts = c.entry_of-entry.ensures in
    let none : entry.count ≡ 0 = omega (arith, c.if-entry-gt0.false) in
    subst (λ (m : SoftLevel). Sound (firing_view m)) (sym c.end_stay.ensures)
    (sound_after l (Clear c.args.id) facts.lawful facts.some_ceiling
    (can_clear l c.args.id (cyclic_of_entry entry) facts.cyclic c.requires none))
