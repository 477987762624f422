use Rattle.std.proofs.Common.{◌/◌, arith}
use Rattle.cyc_finder.proofs.Runs.{halved}
use Rattle.cyc_finder.proofs.halving.halve.Goals as goal

pub returns-clause-here : goal.returns-clause-here
returns-clause-here g c =
    let half = c.args.run.size / 2 in let big = c.if-run-lt2.false in
    halved g.T.HasId.id_of c.args.things.now c.args.id c.requires.rises c.args.run.base c.args.run.size half c.requires.here
    (omega (arith, big)) (omega arith) c.reach.result c.reach.ensures
