use Rattle.cyc_types.specs.Levels.{as_level, handler_at}
use Rattle.cyc_workers.specs.Draining.{MakesCalls}
use Rattle.cyc_workers.proofs.draining.drain.Given as goal

abbrev pub invariant-loop : goal.invariant-loop
invariant-loop g l = MakesCalls g.D.Drain (handler_at g.C.Calls (as_level l.fn.level)) l.fn.side l.side
