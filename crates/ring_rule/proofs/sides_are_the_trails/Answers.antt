use Rattle.ring_rule.proofs.Truths.{sides}
use Rattle.ring_rule.proofs.sides_are_the_trails.Goals as goal

pub returns : goal.returns
returns c = sides
