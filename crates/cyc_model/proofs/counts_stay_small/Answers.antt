use Rattle.cyc_model.proofs.Bounded.{counts_stay_small, scripts_stay_below}
use Rattle.cyc_model.proofs.counts_stay_small.Goals as goal

pub returns-clause-few : goal.returns-clause-few
returns-clause-few c = counts_stay_small

pub returns-clause-below : goal.returns-clause-below
returns-clause-below c = scripts_stay_below
