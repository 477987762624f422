use Rattle.std.proofs.Common.{get_or}
use Rattle.cyc_types.specs.Expirations.{expirations}
use Rattle.cyc_types.proofs.Laws.{times_expirations, moment_next, count_due}
use Rattle.cyc_types.proofs.expirations.after_law.Goals as goal

pub returns-clause-moment : goal.returns-clause-moment
returns-clause-moment c now ts distinct i d low =
    moment_next now (expirations now ts) (get_or ts i d) (times_expirations now ts i d distinct low)

pub returns-clause-count : goal.returns-clause-count
returns-clause-count c now ts distinct i d low =
    count_due now (expirations now ts) (get_or ts i d) (times_expirations now ts i d distinct low)
