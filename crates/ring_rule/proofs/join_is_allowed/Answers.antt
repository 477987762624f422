use Rattle.ring_rule.proofs.Parts.{joins}
use Rattle.ring_rule.proofs.join_is_allowed.Goals as goal

pub returns : goal.returns
returns c = joins
