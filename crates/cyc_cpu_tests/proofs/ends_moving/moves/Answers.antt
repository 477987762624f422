use Rattle.std.proofs.Common.{arith, ap, length}
use Rattle.cyc_cpu_tests.proofs.ends_moving.moves.Goals as goal

pub place-requires-clause-free : goal.place-requires-clause-free
place-requires-clause-free g c =
    let enough = c.widen.ensures.1.enough in let same = ap length c.widen.ensures.1.cyclics in
    omega (arith, enough, same)
