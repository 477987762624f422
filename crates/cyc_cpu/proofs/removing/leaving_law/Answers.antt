use Rattle.cyc_cpu.proofs.Off.{has_left_off}
use Rattle.cyc_cpu.proofs.removing.leaving_law.Goals as goal

pub returns : goal.returns
returns g c id v w law left = has_left_off g.R.Raise id v w law left
