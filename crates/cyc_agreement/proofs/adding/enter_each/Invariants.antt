use Rattle.cyc_agreement.proofs.Entries.{Entries}
use Rattle.cyc_agreement.proofs.adding.enter_each.Given as goal

abbrev pub invariant-loop-number : goal.invariant-loop-number
invariant-loop-number g l =
    Entries g.R.Raise l.id l.level (record { start = l.start; interval = l.interval }) l.skew l.now l.fn.cpus
    l.number l.cpus
