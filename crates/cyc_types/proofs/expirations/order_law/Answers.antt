use Rattle.cyc_types.proofs.Laws.{expirations_ascend, count_expirations, length_expirations}
use Rattle.cyc_types.proofs.expirations.order_law.Goals as goal

pub returns-clause-ascending : goal.returns-clause-ascending
returns-clause-ascending c = expirations_ascend

pub returns-clause-same : goal.returns-clause-same
returns-clause-same c = count_expirations

pub returns-clause-total : goal.returns-clause-total
returns-clause-total c = length_expirations
