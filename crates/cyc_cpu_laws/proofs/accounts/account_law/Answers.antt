use Rattle.cyc_cpu_laws.proofs.Accounting.{proceeds_none, proceeds_one, proceeds_on, proceeds_in}
use Rattle.cyc_cpu_laws.proofs.accounts.account_law.Goals as goal

pub returns-clause-none : goal.returns-clause-none
returns-clause-none g c = proceeds_none g.C.Calls g.R.Raise

pub returns-clause-one : goal.returns-clause-one
returns-clause-one g c = proceeds_one g.C.Calls g.R.Raise

pub returns-clause-joined : goal.returns-clause-joined
returns-clause-joined g c = proceeds_on g.C.Calls g.R.Raise

pub returns-clause-run : goal.returns-clause-run
returns-clause-run g c = proceeds_in g.C.Calls g.R.Raise
