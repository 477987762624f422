use Rattle.cyc_replay.proofs.Asked.{next_none, next_some}
use Rattle.cyc_replay.proofs.interrupting.next_open.Goals as goal

pub returns-clause-none : goal.returns-clause-none
returns-clause-none c = next_none c.args.above c.least_open.result c.args.system.now.cpus c.least_open.ensures.here
    c.least_open.ensures.least c.new.result c.new.ensures.valid

pub returns-clause-some : goal.returns-clause-some
returns-clause-some c = next_some c.args.above c.least_open.result c.args.system.now.cpus c.least_open.ensures.here
    c.least_open.ensures.least c.new.result c.new.ensures.valid c.new.ensures.value
