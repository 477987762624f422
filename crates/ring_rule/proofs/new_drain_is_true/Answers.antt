use Rattle.ring_rule.proofs.Truths.{new_drain}
use Rattle.ring_rule.proofs.new_drain_is_true.Goals as goal

pub returns : goal.returns
returns c = new_drain
