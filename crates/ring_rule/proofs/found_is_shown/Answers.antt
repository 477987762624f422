use Rattle.ring_rule.proofs.Truths.{found_shown}
use Rattle.ring_rule.proofs.found_is_shown.Goals as goal

pub returns : goal.returns
returns c = found_shown
