use Rattle.std.proofs.Common.{rules, subst, sym}
use Rattle.cyc_types.specs.Firing.{Learns, Sound, Admits}
use Rattle.cyc_level.specs.declared.Event.TheVariants.{Admit}
use Rattle.cyc_level.specs.Level.{SoftLevel}
use Rattle.cyc_level.specs.Lawful.{IsId}
use Rattle.cyc_core.specs.Tables.{level_of}
use Rattle.cyc_core.specs.FiringSide.{firing_view}
use Rattle.cyc_core.proofs.FiringLaws.{can_admit, learns_admit, sound_after}
use Rattle.cyc_core.proofs.raise.LevelCoreRaise.admit.Goals as goal

pub begin_stay-requires : goal.begin_stay-requires
begin_stay-requires c =
    let l = level_of c.args.self.now in
    let valid : IsId c.args.id = search rules in
    let may = can_admit l c.args.id c.args.index valid c.requires in
    may

pub returns-clause-step : goal.returns-clause-step
returns-clause-step c =
    let l = level_of c.args.self.now in
    let valid : IsId c.args.id = search rules in
    let may = can_admit l c.args.id c.args.index valid c.requires in
    (may, c.begin_stay.ensures)

pub returns-clause-learns : goal.returns-clause-learns
returns-clause-learns c =
    let l = level_of c.args.self.now in
    subst (λ (m : SoftLevel). Learns (firing_view l) (Admits c.args.id c.args.index) (firing_view m)) (sym c.begin_stay.ensures)
    (learns_admit l c.args.id c.args.index)

pub returns-clause-sound : goal.returns-clause-sound
returns-clause-sound c =
    let l = level_of c.args.self.now in
    let valid : IsId c.args.id = search rules in
    let may = can_admit l c.args.id c.args.index valid c.requires in
    subst (λ (m : SoftLevel). Sound (firing_view m)) (sym c.begin_stay.ensures)
    (sound_after l (Admit c.args.id c.args.index) c.conservation.ensures.lawful c.conservation.ensures.some_ceiling may)
