use Rattle.std.proofs.Common.{sym, ap, ◌∙◌}
use Rattle.cyc_types.specs.Timers.{earliest}
use Rattle.cyc_types.proofs.Firings.{earliest_least}
use Rattle.cyc_timers.specs.Rows.{timers, timers_of}
use Rattle.cyc_timers.proofs.Stepping.{timer_is, timer_low}
use Rattle.cyc_cpu.specs.Cpu.{CpuView}
use Rattle.cyc_cpu.proofs.hard.Hard.next.Goals as goal

pub returns-in-Some : goal.returns-in-Some
returns-in-Some g c =
    let rows = c.self.inside.table.rows in
    let (k, r, is, at, moment, named, first) = c.in-Some.ensures.first in
    sym moment ∙ earliest_least (timers_of rows) k r.timer (timer_low rows k r is) (timer_is rows k r is) first
    (λ i d low. (c.law.ensures.sound i d low).moment)
    ∙ ap (λ (v : CpuView _). earliest (timers v.cyclics)) c.self.view_is
