use Rattle.ring_rule.proofs.Removals.{no_call_follows}
use Rattle.ring_rule.proofs.no_call_follows_removal.Goals as goal

pub returns : goal.returns
returns c = no_call_follows
