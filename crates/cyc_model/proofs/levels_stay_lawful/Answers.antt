use Rattle.cyc_model.proofs.Along.{start_lawful, levels_stay_lawful}
use Rattle.cyc_model.proofs.levels_stay_lawful.Goals as goal

pub returns-clause-start : goal.returns-clause-start
returns-clause-start c = start_lawful

pub returns-clause-run : goal.returns-clause-run
returns-clause-run c = levels_stay_lawful
