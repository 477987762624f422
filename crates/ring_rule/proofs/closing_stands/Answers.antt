use Rattle.ring_rule.proofs.Stands.{closes}
use Rattle.ring_rule.proofs.closing_stands.Goals as goal

pub returns : goal.returns
returns c = closes
