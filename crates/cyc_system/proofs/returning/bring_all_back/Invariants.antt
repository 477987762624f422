use Rattle.cyc_agreement.proofs.Bringing.{Bringing}
use Rattle.cyc_system.proofs.returning.bring_all_back.Given as goal

abbrev pub invariant-loop-position : goal.invariant-loop-position
invariant-loop-position g l =
    Bringing g.R.Raise l.number l.now l.fn.cpus l.fn.records.list l.position l.cpus l.records.list
