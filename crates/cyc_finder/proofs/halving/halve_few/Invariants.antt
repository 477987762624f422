use Rattle.std.proofs.Common.{◌-◌}
use Rattle.cyc_finder.specs.Halving.{IsIn}
use Rattle.cyc_finder.proofs.halving.halve_few.Given as goal

abbrev pub invariant-loop-run : goal.invariant-loop-run
invariant-loop-run g l = IsIn g.T.HasId.id_of l.things l.id l.run.base l.run.size

abbrev pub decreases-loop-run : goal.decreases-loop-run
decreases-loop-run g l = l.run.size - 1
