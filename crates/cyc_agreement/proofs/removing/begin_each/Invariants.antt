use Rattle.std.proofs.Common.{◌*◌, ◌≤◌}
use Rattle.cyc_agreement.proofs.Walking.{BeginWalk}
use Rattle.cyc_agreement.proofs.removing.begin_each.Given as goal

abbrev pub invariant-loop-number : goal.invariant-loop-number
invariant-loop-number g l = record {
  few : l.kept ≤ l.number * 4294967296;
  walk : BeginWalk g.R.Raise l.id l.position l.number l.kept l.fn.cpus l.cpus l.fn.records.list l.records.list;
}
