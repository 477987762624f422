use Rattle.cyc_thread_calls.proofs.Stood.{cpu_ring, ring_ceiling, ring_log, ring_stands, ring_conserved}
use Rattle.cyc_thread_calls.proofs.standing.standing_law.Goals as goal

pub returns-clause-rings : goal.returns-clause-rings
returns-clause-rings g c script calls e text r soft cpu low =
    cpu_ring g.C.Calls script calls e text r soft cpu low

pub returns-clause-ceiling : goal.returns-clause-ceiling
returns-clause-ceiling g c script calls e text r soft cpu ring at =
    ring_ceiling g.C.Calls script calls e text r soft cpu ring at

pub returns-clause-order : goal.returns-clause-order
returns-clause-order g c script calls e text r soft cpu ring at =
    ring_log g.C.Calls script calls e text r soft cpu ring at

pub returns-clause-stands : goal.returns-clause-stands
returns-clause-stands g c script calls e text r soft cpu ring later earlier at whole =
    ring_stands g.C.Calls script calls e text r soft cpu ring later earlier at whole

pub returns-clause-conserved : goal.returns-clause-conserved
returns-clause-conserved g c script calls e text r soft cpu ring later earlier at whole =
    ring_conserved g.C.Calls script calls e text r soft cpu ring later earlier at whole
