use Rattle.cyc_agreement.proofs.Others.{begins_others, polls_others, asks_others}
use Rattle.cyc_agreement.proofs.removal_laws.others_law.Goals as goal

pub returns-clause-begun : goal.returns-clause-begun
returns-clause-begun g c id other answer s t = begins_others g.R.Raise id other answer s t

pub returns-clause-polled : goal.returns-clause-polled
returns-clause-polled g c id other answer s t = polls_others g.R.Raise id other answer s t

pub returns-clause-asked : goal.returns-clause-asked
returns-clause-asked g c id other answer s t = asks_others g.R.Raise id other answer s t
