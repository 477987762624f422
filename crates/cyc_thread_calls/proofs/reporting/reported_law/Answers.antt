use Rattle.cyc_ring.specs.Ends.{raise_end}
use Rattle.cyc_thread_calls.proofs.Lining.{as_many, each_line}
use Rattle.cyc_thread_calls.proofs.reporting.reported_law.Goals as goal

pub returns-clause-many : goal.returns-clause-many
returns-clause-many g c n xs lines s t u run r none =
    as_many g.C.Calls raise_end n xs lines s t u run r none

pub returns-clause-each : goal.returns-clause-each
returns-clause-each g c n name xs lines s t u run r none low =
    each_line g.C.Calls raise_end n name xs lines s t u run r none low
