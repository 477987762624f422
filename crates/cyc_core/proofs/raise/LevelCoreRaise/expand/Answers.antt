use Rattle.std.proofs.Common.{arith, subst, sym}
use Rattle.cyc_types.specs.Firing.{Learns, Sound, Expands}
use Rattle.cyc_level.specs.declared.Event.TheVariants.{Switch}
use Rattle.cyc_level.specs.Level.{SoftLevel}
use Rattle.cyc_core.specs.Tables.{level_of}
use Rattle.cyc_core.specs.FiringSide.{firing_view}
use Rattle.cyc_core.proofs.FiringLaws.{can_expand, learns_expand, sound_after}
use Rattle.cyc_core.proofs.raise.LevelCoreRaise.expand.Goals as goal

pub returns-clause-learns : goal.returns-clause-learns
returns-clause-learns c =
    let l = level_of c.args.self.now in
    let may = can_expand l c.args.bank c.requires in
    subst (λ (m : SoftLevel). Learns (firing_view l) (Expands c.args.bank) (firing_view m)) (sym c.switch_to.ensures)
    (learns_expand l c.args.bank (let more = may.2 in let same = may.1 in omega (arith, more, same)))

pub returns-clause-sound : goal.returns-clause-sound
returns-clause-sound c =
    let l = level_of c.args.self.now in
    let may = can_expand l c.args.bank c.requires in
    subst (λ (m : SoftLevel). Sound (firing_view m)) (sym c.switch_to.ensures)
    (sound_after l (Switch c.args.bank) c.conservation.ensures.lawful c.conservation.ensures.some_ceiling may)
