use Rattle.std.proofs.Common.{◌*◌, ◌≤◌}
use Rattle.cyc_agreement.proofs.Asking.{Asked}
use Rattle.cyc_agreement.proofs.totals.ask_each.Given as goal

abbrev pub invariant-loop-number : goal.invariant-loop-number
invariant-loop-number g l = record {
  expired : l.sum.expired ≤ l.number * 18446744073709551616;
  lost : l.sum.lost ≤ l.number * 18446744073709551616;
  pending : l.sum.pending ≤ l.number * 4294967296;
  asked : Asked g.R.Raise l.id l.number l.sum.expired l.sum.lost l.sum.pending l.fn.cpus l.cpus;
}
