use Rattle.cyc_system_laws.proofs.Over.{begun_over, polled_over}
use Rattle.cyc_system_laws.proofs.Stays.{stays_over}
use Rattle.cyc_system_laws.proofs.removal.removal_law.Goals as goal

pub returns-clause-begun : goal.returns-clause-begun
returns-clause-begun g c id receipt s t = begun_over g.R.Raise id receipt s t

pub returns-clause-polled : goal.returns-clause-polled
returns-clause-polled g c id receipt s t = polled_over g.R.Raise id receipt s t

pub returns-clause-run : goal.returns-clause-run
returns-clause-run g c id s t way =
    stays_over g.C.Calls g.R.Raise id s t way
