use Rattle.ring_rule.proofs.Apart.{apart}
use Rattle.ring_rule.proofs.words_are_apart.Goals as goal

pub returns : goal.returns
returns c = apart
