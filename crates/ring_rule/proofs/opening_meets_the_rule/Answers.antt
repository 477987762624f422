use Rattle.ring_rule.proofs.Opens.{opens}
use Rattle.ring_rule.proofs.opening_meets_the_rule.Goals as goal

pub returns : goal.returns
returns c = opens
