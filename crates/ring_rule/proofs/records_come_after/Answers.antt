use Rattle.ring_rule.proofs.Truths.{come_after}
use Rattle.ring_rule.proofs.records_come_after.Goals as goal

pub returns : goal.returns
returns c = come_after
