use Rattle.cyc_replay.proofs.Start.{reserved_or_not, only_if_refused}
use Rattle.cyc_replay.proofs.beginning.reserve_wanted.Goals as goal

pub returns-clause-did : goal.returns-clause-did
returns-clause-did c =
    reserved_or_not c.args.wanted c.args.hard.now c.reserve.new.self c.reserve.result c.requires.empty c.reserve.ensures

pub returns-clause-err : goal.returns-clause-err
returns-clause-err c =
    only_if_refused c.args.wanted c.args.hard.now c.reserve.new.self c.reserve.result c.requires.few c.requires.empty
    c.reserve.ensures
