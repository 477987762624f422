use Rattle.std.proofs.Common.{◌≡◌, ◌^◌, ◌-◌, All, length}
use Rattle.cyc_types.specs.Tally.{tally_made}
use Rattle.cyc_threads.proofs.tallying.tallies.Given as goal

abbrev pub invariant-loop : goal.invariant-loop
invariant-loop l = record {
  many : length l.calls.items ≡ l.counter;
  new : All (λ t. t ≡ tally_made 1 (length l.fn.script.names.items) (2 ^ 64 - 1)) l.calls.items;
}
