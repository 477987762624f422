use Rattle.std.proofs.Common.{arith}
use Rattle.bench_sides.proofs.Rounds.{may_raise, raise_ready}
use Rattle.bench_sides.proofs.raise_one.Goals as goal

pub raise-raised-requires : goal.raise-raised-requires
raise-raised-requires g c = may_raise c.args.ids c.args.most c.args.id _ c.requires.ready
    (let valid = c.number-number.ensures.valid.0 in let is = c.number-number.ensures.value in omega (arith, valid, is))
    c.requires.id c.requires.most

pub returns : goal.returns
returns g c = raise_ready c.args.ids c.args.most _ _ c.args.id c.raise-raised.result c.requires.ready
    c.raise-raised.ensures.learns
