use Rattle.cyc_cpu_laws.proofs.Departing.{stays_off}
use Rattle.cyc_cpu_laws.proofs.absence.absence_law.Goals as goal

pub returns : goal.returns
returns g c id = stays_off g.C.Calls g.R.Raise id
