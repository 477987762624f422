use Rattle.ring_rule.proofs.Parts.{splits}
use Rattle.ring_rule.proofs.split_is_allowed.Goals as goal

pub returns : goal.returns
returns c = splits
