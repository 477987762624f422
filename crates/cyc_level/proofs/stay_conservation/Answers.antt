use Rattle.cyc_level.proofs.Stays.{over_stays}
use Rattle.cyc_level.proofs.stay_conservation.Goals as goal

pub returns : goal.returns
returns c = λ ceiling events on id. over_stays ceiling id events on
