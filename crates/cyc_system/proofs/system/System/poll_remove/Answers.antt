use Rattle.cyc_system.proofs.system.System.poll_remove.Goals as goal

pub invariant_of-self : goal.invariant_of-self
invariant_of-self g c = (c.poll_remove.ensures.holds c.self.inside.last c.self.invariant.0, c.self.invariant.1)
