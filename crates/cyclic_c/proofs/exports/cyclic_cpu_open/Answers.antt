use Rattle.std.proofs.Common.{inr, refl, arith}
use Rattle.cyclic_c.proofs.Passing.{none_of}
use Rattle.cyclic_c.proofs.exports.cyclic_cpu_open.Goals as goal

pub returns-in-Err-new : goal.returns-in-Err-new
returns-in-Err-new c =
    let closed = none_of _ _ c.args.cpu.now.told c.if-cpu.false in
    inr (inr (
      refl,
      c.in-Some.ensures.valid.0 refl,
      (let some = c.if-most-eq0.false in omega (arith, some)),
      closed,
      closed,
    ))
