use Rattle.ring_rule.proofs.Stands.{conserves}
use Rattle.ring_rule.proofs.ring_conservation.Goals as goal

pub returns : goal.returns
returns c = λ k s R. conserves k s R
