use Rattle.std.proofs.Common.{Ok}
use Rattle.cyc_cpu.specs.Cpu.{HasRoom, MayWiden}
use Rattle.cyc_cpu.specs.Calls.{Reserve}
use Rattle.cyc_agreement.proofs.Rounds.{Round}
use Rattle.cyc_agreement.proofs.cpus.Cpus.reserve_on_each.Given as goal

abbrev pub invariant-loop-number : goal.invariant-loop-number
invariant-loop-number g l =
    Round g.R.Raise (Reserve l.more (Ok tt)) (MayWiden g.R.Raise.view l.more)
    (HasRoom g.R.Raise.view l.more) l.fn.self l.number l.self
