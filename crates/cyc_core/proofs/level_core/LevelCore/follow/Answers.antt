use Rattle.std.proofs.Common.{arith, refl}
use Rattle.cyc_level.specs.declared.Event.TheVariants.{Follow}
use Rattle.cyc_core.proofs.Changes.{sound_by}
use Rattle.cyc_core.proofs.level_core.LevelCore.follow.Goals as goal

pub invariant_of-self : goal.invariant_of-self
invariant_of-self c =
    let may = rw (← c.self.view_is) at c.requires in
    sound_by c.self.inside _ Follow c.self.invariant may refl c.self.invariant.cyclics_kept c.self.invariant.positions_free
    (omega arith) (omega arith) (omega arith)
    (omega arith) (omega arith) c.self.invariant.hints_long
