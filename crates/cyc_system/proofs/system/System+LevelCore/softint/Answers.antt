use Rattle.cyc_agreement.proofs.Who.{same_changed, same_served}
use Rattle.cyc_agreement.proofs.Holding.{holds_same}
use Rattle.cyc_system.proofs.system.System+LevelCore.softint.Goals as goal

pub invariant_of-self : goal.invariant_of-self
invariant_of-self g c = (
  holds_same _ c.softint_at.new.cpus c.self.invariant.0
      (same_changed c.args.cpu _ c.self.inside.cpus c.softint_at.new.cpus c.softint_at.ensures
      (same_served c.args.level c.softint_at.ensures.before c.softint_at.ensures.after c.softint_at.ensures.change.1)),
  c.self.invariant.1,
)
