use Rattle.std.proofs.Common.{subst, ap}
use Rattle.cyc_level.specs.Lawful.{Lawful}
use Rattle.cyc_level.specs.Conservation.{IsConserved}
use Rattle.cyc_level.proofs.Room.{conserved_level}
use Rattle.cyc_core.specs.Tables.{level_of}
use Rattle.cyc_core.proofs.Changes.{reached_lawful}
use Rattle.cyc_core.proofs.level_core.LevelCore.conservation.Goals as goal

pub returns-clause-lawful : goal.returns-clause-lawful
returns-clause-lawful c = subst Lawful (ap level_of c.self.view_is) (reached_lawful _ c.self.invariant.reached)

pub returns-clause-conserved : goal.returns-clause-conserved
returns-clause-conserved c = subst IsConserved (ap level_of c.self.view_is)
    (conserved_level _ (reached_lawful _ c.self.invariant.reached))
