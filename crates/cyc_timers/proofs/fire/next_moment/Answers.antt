use Rattle.std.proofs.Common.{sym, ◌∙◌}
use Rattle.cyc_types.proofs.Firings.{earliest_least}
use Rattle.cyc_timers.specs.Rows.{timers_of}
use Rattle.cyc_timers.proofs.Stepping.{timer_is, timer_low}
use Rattle.cyc_timers.proofs.fire.next_moment.Goals as goal

pub returns-in-Some : goal.returns-in-Some
returns-in-Some c =
    let (k, r, is, at, moment, named, first) = c.in-Some.ensures.first in
    sym moment ∙ earliest_least (timers_of c.args.table.now.rows) k r.timer (timer_low c.args.table.now.rows k r is)
    (timer_is c.args.table.now.rows k r is) first c.requires
