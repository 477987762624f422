use Rattle.cyc_agreement.proofs.Forgetting.{begins_forgotten, polls_forgotten}
use Rattle.cyc_agreement.proofs.removal_laws.forgotten_law.Goals as goal

pub returns-clause-begun : goal.returns-clause-begun
returns-clause-begun g c id receipt s t = begins_forgotten g.R.Raise id receipt s t

pub returns-clause-polled : goal.returns-clause-polled
returns-clause-polled g c id receipt s t = polls_forgotten g.R.Raise id receipt s t
