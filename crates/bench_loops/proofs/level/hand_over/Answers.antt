use Rattle.bench_sides.proofs.Rounds.{may_raise, raise_ready}
use Rattle.bench_loops.proofs.level.hand_over.Goals as goal

pub raise-raised-requires : goal.raise-raised-requires
raise-raised-requires c = may_raise c.args.ids c.args.most c.args.id _ c.requires.ready c.requires.id.0 c.requires.id.1
    c.requires.most

pub take_next-requires : goal.take_next-requires
take_next-requires c = raise_ready _ _ _ _ _ c.raise-raised.result c.requires.ready c.raise-raised.ensures.learns
