use Rattle.std.proofs.Common.{arith, ◌∙◌, None}
use Rattle.cyc_level.specs.declared.Event.TheVariants.{Publish}
use Rattle.cyc_core.specs.Tables.{level_of}
use Rattle.cyc_core.specs.Shown.{shown_core}
use Rattle.cyc_core.proofs.Room.{publish_room}
use Rattle.cyc_core.proofs.Changes.{level_publish, sound_by, reached_lawful}
use Rattle.cyc_core.proofs.level_core.LevelCore.publish.Goals as goal

pub push_back_reserved-requires : goal.push_back_reserved-requires
push_back_reserved-requires c =
    let t = shown_core c.self.inside in
    let fits = publish_room t (reached_lawful (level_of t) c.self.invariant.reached) c.in-Some.id c.in-Some.is in
    let room = c.self.invariant.new_room in
    omega (arith, fits, room)

pub invariant_of-self : goal.invariant_of-self
invariant_of-self c =
    let t = shown_core c.self.inside in
    let may = rw (← c.self.view_is) at c.requires in
    let pushed = c.push_back_reserved.ensures in
    let made = (λ z. record (level_of t) { firer_hand = None; new_list = pushed.items z })
    ∙ level_publish t c.in-Some.id c.in-Some.is in
    sound_by c.self.inside _ Publish c.self.invariant may made c.self.invariant.cyclics_kept c.self.invariant.positions_free
    (omega arith) (omega arith) (omega arith)
    (omega arith) (omega (arith, pushed.capacity)) c.self.invariant.hints_long
