use Rattle.ring_rule.proofs.Truths.{make_the_log}
use Rattle.ring_rule.proofs.trails_make_the_log.Goals as goal

pub returns : goal.returns
returns c = make_the_log
