use Rattle.cyc_thread_rings.specs.Laid.{three}
use Rattle.cyc_thread_rings.proofs.Each.{taken_all, taken_many}
use Rattle.cyc_thread_rings.proofs.Laying.{laid_all, three_more}
use Rattle.cyc_thread_rings.proofs.handlers.in_one.Goals as goal

pub loop-of_cpu-preserved : goal.loop-of_cpu-preserved
loop-of_cpu-preserved g c =
    let inv = c.loop-of_cpu.invariant in let x = c.in-Some.of_cpu in let step = c.in-Some.ensures.steps in
    record {
      all = taken_all c.loop-of_cpu.yielded x _ _ _ step.0 inv.all;
      many = taken_many _ _ x _ _ step.0 step.1 inv.many;
      laid = three_more c.loop-of_cpu.all.items _ _ _ c.loop-of_cpu.yielded x c.in_ok-push.ensures.items
          c.in_ok-push-2.ensures.items c.in_ok-push-3.ensures.items inv.laid;
    }

pub returns : goal.returns
returns g c = let inv = c.loop-of_cpu.invariant in
    laid_all three c.loop-of_cpu.all.items c.loop-of_cpu.yielded _ c.args.handlers.items _ c.in-None.ensures.steps.0 inv.many
    inv.all inv.laid
