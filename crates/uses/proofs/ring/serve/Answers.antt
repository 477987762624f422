use Rattle.uses.proofs.Serving.{counts_done, same_seat}
use Rattle.uses.proofs.ring.serve.Goals as goal

pub returns-clause-own : goal.returns-clause-own
returns-clause-own c = same_seat c.drain_ways_add_up.ensures _ _ _ _ _ c.softint.ensures

pub returns-clause-made : goal.returns-clause-made
returns-clause-made c = counts_done _ _ _ _ _ _ c.softint.ensures
