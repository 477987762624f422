use Rattle.cyc_model.proofs.Telling.{start_free, fair_steps}
use Rattle.cyc_model.proofs.soft_side_is_enabled.Goals as goal

pub returns-clause-start : goal.returns-clause-start
returns-clause-start c = start_free

pub returns-clause-run : goal.returns-clause-run
returns-clause-run c = fair_steps
