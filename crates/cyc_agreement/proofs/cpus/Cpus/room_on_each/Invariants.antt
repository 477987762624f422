use Rattle.std.proofs.Common.{Ok}
use Rattle.cyc_cpu.specs.Cpu.{HasRoom}
use Rattle.cyc_cpu.specs.Calls.{AskRoom}
use Rattle.cyc_agreement.proofs.Rounds.{Round}
use Rattle.cyc_agreement.proofs.cpus.Cpus.room_on_each.Given as goal

abbrev pub invariant-loop-number : goal.invariant-loop-number
invariant-loop-number g l =
    Round g.R.Raise (AskRoom l.more (Ok tt)) (HasRoom g.R.Raise.view l.more)
    (λ cpu. Unit {0}) l.fn.self l.number l.self
