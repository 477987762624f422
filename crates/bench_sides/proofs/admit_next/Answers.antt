use Rattle.std.proofs.Common.{◌≡◌, ◌+◌}
use Rattle.bench_sides.proofs.Rounds.{admit_fills_at}
use Rattle.bench_sides.proofs.admit_next.Goals as goal

pub returns-in-Some-Some : goal.returns-in-Some-Some
returns-in-Some-Some g c =
    let id : c.in-Some-Some.id ≡ c.args.number + 1 = cc (c.in-Some-Some.ensures.value, c.from.ensures) in
    let index : c.in-Some-Some.index ≡ c.args.number = cc (c.in-Some-Some.ensures'.value) in
    admit_fills_at _ _ _ _ _ id index c.requires.filled c.admit.ensures.learns
