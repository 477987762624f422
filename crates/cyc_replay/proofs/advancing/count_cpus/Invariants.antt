use Rattle.std.proofs.Common.{◌≤◌, length}
use Rattle.cyc_replay.proofs.advancing.count_cpus.Given as goal

abbrev pub invariant-loop-cpu : goal.invariant-loop-cpu
invariant-loop-cpu l = l.cpu ≤ length l.system.cpus.cpus
