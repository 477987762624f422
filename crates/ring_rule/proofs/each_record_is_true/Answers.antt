use Rattle.ring_rule.proofs.Truths.{each_true}
use Rattle.ring_rule.proofs.each_record_is_true.Goals as goal

pub returns : goal.returns
returns c = each_true
