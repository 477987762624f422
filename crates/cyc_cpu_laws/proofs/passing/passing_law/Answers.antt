use Rattle.cyc_cpu_laws.proofs.Ways.{passes_none, passes_one, passes_on, passes_ceiling, passes_few}
use Rattle.cyc_cpu_laws.proofs.passing.passing_law.Goals as goal

pub returns-clause-none : goal.returns-clause-none
returns-clause-none g c = passes_none g.R.Raise

pub returns-clause-one : goal.returns-clause-one
returns-clause-one g c = passes_one g.R.Raise

pub returns-clause-joined : goal.returns-clause-joined
returns-clause-joined g c raised lost raised' lost' = passes_on g.R.Raise raised lost raised' lost'

pub returns-clause-ceiling : goal.returns-clause-ceiling
returns-clause-ceiling g c = passes_ceiling g.R.Raise

pub returns-clause-few : goal.returns-clause-few
returns-clause-few g c = passes_few g.R.Raise
