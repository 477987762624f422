use Rattle.std.proofs.Common.{◌≡◌, length}
use Rattle.refused_memory.proofs.running.handlers.Given as goal

abbrev pub invariant-loop : goal.invariant-loop
invariant-loop l = length l.calls.items ≡ l.counter
