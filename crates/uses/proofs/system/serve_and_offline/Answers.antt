use Rattle.std.proofs.Common.{refl}
use Rattle.cyc_system.specs.System.{running_system}
use Rattle.uses.proofs.system.serve_and_offline.Goals as goal

pub returns-clause-did : goal.returns-clause-did
returns-clause-did g c =
    let locked = running_system c.serve-lock.new.calls c.serve-lock.new.system in
    let lowered = running_system c.serve-low.new.calls c.serve-low.new.system in
    let last = running_system c.serve-low.new.calls c.take_offline.new.system in (
      c.serve-lock.result,
      c.serve-low.result,
      (locked, c.serve-lock.ensures.did, (lowered, c.serve-low.ensures.did, (last, (c.take_offline.ensures.did, refl), refl))),
    )
