use Rattle.std.proofs.Common.{◌≡◌, None}
use Rattle.bench_loops.proofs.cpu.started.Given as goal

abbrev pub invariant-loop-k : goal.invariant-loop-k
invariant-loop-k l = l.cpu.removal ≡ None
