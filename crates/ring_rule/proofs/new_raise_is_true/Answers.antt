use Rattle.ring_rule.proofs.Truths.{new_raise}
use Rattle.ring_rule.proofs.new_raise_is_true.Goals as goal

pub returns : goal.returns
returns c = new_raise
