use Rattle.cyc_model.proofs.Agreement.{agree_new}
use Rattle.cyc_model.proofs.Telling.{agree_steps}
use Rattle.cyc_model.proofs.cpus_agree.Goals as goal

pub returns-clause-start : goal.returns-clause-start
returns-clause-start c = λ cpus ceiling names. agree_new cpus ceiling

pub returns-clause-run : goal.returns-clause-run
returns-clause-run c = agree_steps
