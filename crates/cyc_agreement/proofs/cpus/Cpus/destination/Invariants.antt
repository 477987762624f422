use Rattle.std.proofs.Common.{◌≡◌, ◌<◌, length, drop, IfSome, filter}
use Rattle.cyc_agreement.specs.Cpus.{numbers_from}
use Rattle.cyc_agreement.specs.Destination.{fewest, is_not}
use Rattle.cyc_agreement.proofs.cpus.Cpus.destination.Given as goal

abbrev pub invariant-loop-number : goal.invariant-loop-number
invariant-loop-number g l = record {
  best : l.best ≡ fewest (filter (is_not l.source) (numbers_from l.number (drop l.number l.self.online))) l.self;
  here : IfSome l.best (λ m. m < length l.self.cpus);
}
