use Rattle.std.proofs.Common.{◌≡◌, ◌%◌, ◌^◌, arith}
use Rattle.cyc_types.specs.declared.draining.Finished.TheVariants.{More, Last, LastOfRemoval}
use Rattle.cyc_ring.proofs.Finishes.{finish_call}
use Rattle.cyc_ring.proofs.ends.DrainEndDrain.finish.Goals as goal

pub returns-then-found-gt1-clause-step : goal.returns-then-found-gt1-clause-step
returns-then-found-gt1-clause-step c = let e = c.args.self.now in
    finish_call e.seat c.finish_as-found.new.drain_seat e.ring.now.setting e.own.1 c.finish_as-found.result More c.requires
    c.finish_as-found.ensures.own c.finish_as-found.ensures.step c.if-found-gt1.true

pub returns-then-found-eq1-clause-step : goal.returns-then-found-eq1-clause-step
returns-then-found-eq1-clause-step c = let e = c.args.self.now in
    finish_call e.seat c.finish_as-found.new.drain_seat e.ring.now.setting e.own.1 c.finish_as-found.result Last c.requires
    c.finish_as-found.ensures.own c.finish_as-found.ensures.step c.if-found-eq1.true

pub returns-else-found-eq1-clause-step : goal.returns-else-found-eq1-clause-step
returns-else-found-eq1-clause-step c = let e = c.args.self.now in let many = c.if-found-gt1.false in let one =
    c.if-found-eq1.false in let some = c.finish_as-found.ensures.outstanding in
    let f : c.finish_as-found.result % 2 ^ 32 ≡ 1 = omega (arith, many, some) in
    finish_call e.seat c.finish_as-found.new.drain_seat e.ring.now.setting e.own.1 c.finish_as-found.result LastOfRemoval
    c.requires c.finish_as-found.ensures.own c.finish_as-found.ensures.step (f, omega (arith, f, one))
