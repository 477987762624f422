use Rattle.cyc_cpu.specs.Calls.{Suspend}
use Rattle.cyc_agreement.proofs.Marked.{Marked}
use Rattle.cyc_agreement.proofs.cpus.Cpus.suspend_each.Given as goal

abbrev pub invariant-loop-number : goal.invariant-loop-number
invariant-loop-number g l = Marked g.R.Raise Suspend l.fn.self l.number l.self
