use Rattle.std.proofs.Common.{sym, ◌∙◌}
use Rattle.cyc_threads.proofs.KeepingSeats.{same_long}
use Rattle.cyc_threads.proofs.Seats.{reports_keep}
use Rattle.cyc_threads.proofs.running.leave_rings.Goals as goal

pub leave_cpus-requires-clause-ready : goal.leave_cpus-requires-clause-ready
leave_cpus-requires-clause-ready g c = (reports_keep g.C.Calls c.in_ok-lines.lines.items c.args.worked.lead
    c.report.new.progress
    c.in_ok-lines.ensures.lines (record { ready = c.requires.ready; sound = c.requires.sound })).well.ready

pub leave_cpus-requires-clause-soft : goal.leave_cpus-requires-clause-soft
leave_cpus-requires-clause-soft g c = c.requires.soft
    ∙ sym (same_long c.args.worked.lead.side.system.cpus.cpus c.report.new.progress.side.system.cpus.cpus
    (reports_keep g.C.Calls c.in_ok-lines.lines.items c.args.worked.lead
    c.report.new.progress
    c.in_ok-lines.ensures.lines (record { ready = c.requires.ready; sound = c.requires.sound })).seats)

pub returns-clause-left : goal.returns-clause-left
returns-clause-left g c = (c.report.new.progress, c.in_ok-lines.ensures.lines, c.in_ok-all.ensures.last)
