use Rattle.cyc_replay.proofs.Asked.{LeastBelow}
use Rattle.cyc_replay.proofs.interrupting.least_open.Given as goal

-- the least of the CPUs below this number
abbrev pub invariant-loop-cpu : goal.invariant-loop-cpu
invariant-loop-cpu l = LeastBelow l.above l.cpu l.least l.system.cpus
