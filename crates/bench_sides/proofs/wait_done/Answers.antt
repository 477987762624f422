use Rattle.std.proofs.Common.{arith}
use Rattle.bench_sides.proofs.Rounds.{may_ask, load_ready}
use Rattle.bench_sides.proofs.wait_done.Goals as goal

pub load_pend-requires : goal.load_pend-requires
load_pend-requires g c = may_ask c.args.ids c.args.most c.args.id _ c.loop.invariant
    (let valid = c.number-number.ensures.valid.0 in let is = c.number-number.ensures.value in omega (arith, valid, is))
    c.requires.id

pub loop-preserved : goal.loop-preserved
loop-preserved g c = load_ready c.args.ids c.args.most _ _ c.args.id c.load_pend.result c.loop.invariant
    c.load_pend.ensures.learns

pub returns-then-load_pend-eq0 : goal.returns-then-load_pend-eq0
returns-then-load_pend-eq0 g c = load_ready c.args.ids c.args.most _ _ c.args.id c.load_pend.result c.loop.invariant
    c.load_pend.ensures.learns
