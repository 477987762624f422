use Rattle.cyc_agreement.proofs.Walking.{PollWalk}
use Rattle.cyc_agreement.proofs.removing.poll_each.Given as goal

abbrev pub invariant-loop-number : goal.invariant-loop-number
invariant-loop-number g l = PollWalk g.R.Raise l.id l.position l.number l.fn.cpus l.cpus l.fn.records.list
    l.records.list
