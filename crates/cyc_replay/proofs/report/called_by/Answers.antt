use Rattle.cyc_replay.proofs.Reported.{called}
use Rattle.cyc_replay.proofs.report.called_by.Goals as goal

pub returns : goal.returns
returns c = called c.args.tally.now c.args.id c.unwrap_or.result c.count.result c.unwrap_or.ensures c.count.ensures
