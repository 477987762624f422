use Rattle.cyc_workers.specs.Settling.{Settles}
use Rattle.cyc_workers.proofs.settling.settle.Given as goal

abbrev pub invariant-loop : goal.invariant-loop
invariant-loop g l = Settles g.R.Raise l.fn.hard l.hard
