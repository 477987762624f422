use Rattle.std.proofs.Common.{arith}
use Rattle.cyc_cpu.proofs.Removals.{may_mark, seen_now}
use Rattle.cyc_cpu.proofs.leaving.take_from.Goals as goal

pub remove_from-requires : goal.remove_from-requires
remove_from-requires g c = may_mark (g.R.Raise.view c.args.end.now)
    (g.R.Raise.view c.load_pend.new.self) c.args.id c.load_pend.result c.requires c.load_pend.ensures.learns

pub unreachable-requires : goal.unreachable-requires
unreachable-requires g c =
    let a = seen_now (g.R.Raise.view c.args.end.now) (g.R.Raise.view c.load_pend.new.self) c.args.id c.load_pend.result c.requires
    c.load_pend.ensures.learns in
    let b = c.remove_from.ensures.seen in
    omega (arith, a, b)
