use Rattle.cyc_system_model.proofs.SystemBeginning.{begins}
use Rattle.cyc_system_model.proofs.begin_law.Goals as goal

pub returns : goal.returns
returns c = λ most ceiling names ends all agrees. begins most ceiling names ends all agrees
