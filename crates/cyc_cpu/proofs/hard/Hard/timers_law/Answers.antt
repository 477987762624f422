use Rattle.std.proofs.Common.{All, subst}
use Rattle.cyc_types.specs.Timers.{IsSoundTimer}
use Rattle.cyc_timers.specs.Rows.{timers}
use Rattle.cyc_cpu.specs.Cpu.{CpuView}
use Rattle.cyc_cpu.proofs.hard.Hard.timers_law.Goals as goal

pub returns : goal.returns
returns g c = subst (λ (v : CpuView _). All IsSoundTimer (timers v.cyclics)) c.self.view_is c.law.ensures.sound
