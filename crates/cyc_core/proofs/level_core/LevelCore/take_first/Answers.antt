use Rattle.std.proofs.Common.{◌≡◌, ◌≢◌, arith}
use Rattle.cyc_level.specs.declared.Event.TheVariants.{Take}
use Rattle.cyc_core.specs.Shown.{shown_core}
use Rattle.cyc_core.proofs.Changes.{level_take_new, level_take_old, sound_by}
use Rattle.cyc_core.proofs.level_core.LevelCore.take_first.Goals as goal

pub invariant_of-self : goal.invariant_of-self
invariant_of-self c =
    let t = shown_core c.self.inside in
    let may = rw (← c.self.view_is) at c.requires in
    let same : c.self.inside.hard_bank ≡ c.self.inside.soft_bank = c.if-self.true in
    let popped = c.pop_front-self-inside.ensures in
    sound_by c.self.inside _ Take c.self.invariant may
    (level_take_new t _ _ same popped.items popped.rest) c.self.invariant.cyclics_kept c.self.invariant.positions_free
    (omega arith) (omega arith) (omega arith)
    (omega arith) (omega (arith, popped.capacity)) c.self.invariant.hints_long

pub invariant_of-self-2 : goal.invariant_of-self-2
invariant_of-self-2 c =
    let t = shown_core c.self.inside in
    let may = rw (← c.self.view_is) at c.requires in
    let differ : c.self.inside.hard_bank ≢ c.self.inside.soft_bank = c.if-self.false in
    let popped = c.pop_front-self-inside-2.ensures in
    sound_by c.self.inside _ Take c.self.invariant may
    (level_take_old t _ _ differ popped.items popped.rest) c.self.invariant.cyclics_kept c.self.invariant.positions_free
    (omega arith) (omega arith) (omega arith)
    (omega (arith, popped.capacity)) (omega arith) c.self.invariant.hints_long
