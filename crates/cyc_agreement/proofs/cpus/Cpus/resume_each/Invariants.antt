use Rattle.cyc_cpu.specs.Calls.{Resume}
use Rattle.cyc_agreement.proofs.Marked.{Marked}
use Rattle.cyc_agreement.proofs.cpus.Cpus.resume_each.Given as goal

abbrev pub invariant-loop-number : goal.invariant-loop-number
invariant-loop-number g l = Marked g.R.Raise Resume l.fn.self l.number l.self
