use Rattle.std.proofs.Common.{◌/◌, arith}
use Rattle.cyc_finder.proofs.Runs.{quartered}
use Rattle.cyc_finder.proofs.halving.quarter.Goals as goal

pub returns-clause-here : goal.returns-clause-here
returns-clause-here g c =
    let step = c.args.run.size / 4 in let big = c.if-run-lt4.false in
    quartered g.T.HasId.id_of c.args.things.now c.args.id c.requires.rises c.args.run.base c.args.run.size step c.requires.here
    (omega (arith, big)) (omega arith) c.reach-lower.result c.reach-upper.result c.reach.result c.reach-lower.ensures
    c.reach-upper.ensures c.reach.ensures
