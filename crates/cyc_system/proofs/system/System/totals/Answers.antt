use Rattle.cyc_system.proofs.system.System.totals.Goals as goal

pub invariant_of-self : goal.invariant_of-self
invariant_of-self g c = (c.agreed_totals.ensures.holds c.self.inside.last c.self.invariant.0, c.self.invariant.1)
