use Rattle.cyc_model.proofs.Reaching.{moves_lose_nothing, cyclics_are_at_home}
use Rattle.cyc_model.proofs.moves_lose_nothing.Goals as goal

pub returns-clause-kept : goal.returns-clause-kept
returns-clause-kept c = moves_lose_nothing

pub returns-clause-home : goal.returns-clause-home
returns-clause-home c = cyclics_are_at_home
