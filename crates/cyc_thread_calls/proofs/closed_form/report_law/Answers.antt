use Rattle.cyc_thread_calls.proofs.Lined.{lines_many, is_reported}
use Rattle.cyc_thread_calls.proofs.closed_form.report_law.Goals as goal

pub returns-clause-many : goal.returns-clause-many
returns-clause-many g c script calls e text r =
    lines_many g.C.Calls script calls e text r

pub returns-clause-each : goal.returns-clause-each
returns-clause-each g c script calls e text r name line at =
    is_reported g.C.Calls script calls e text r name line at
