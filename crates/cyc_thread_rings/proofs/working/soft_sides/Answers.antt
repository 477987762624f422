use Rattle.std.proofs.Common.{refl, arith}
use Rattle.cyc_thread_rings.specs.Working.{both_sides}
use Rattle.cyc_thread_rings.proofs.Each.{same_more, taken_all, taken_many, mapped_all}
use Rattle.cyc_thread_rings.proofs.working.soft_sides.Goals as goal

pub loop-of_cpu-preserved : goal.loop-of_cpu-preserved
loop-of_cpu-preserved g c =
    let inv = c.loop-of_cpu.invariant in let x = c.in-Some.of_cpu in let step = c.in-Some.ensures.steps in
    record {
      all = taken_all c.loop-of_cpu.yielded x _ _ _ step.0 inv.all;
      many = taken_many _ _ x _ _ step.0 step.1 inv.many;
      room = let room = inv.room in let given = step.1 in let long = c.push_reserved.ensures.len in
          let same = c.push_reserved.ensures.capacity in omega (arith, room, given, long, same);
      soft = same_more both_sides c.loop-of_cpu.soft.items _ c.loop-of_cpu.yielded (both_sides x) x c.push_reserved.ensures.items
          inv.soft refl;
    }

pub returns : goal.returns
returns g c = let inv = c.loop-of_cpu.invariant in
    mapped_all both_sides c.loop-of_cpu.soft.items c.loop-of_cpu.yielded _ c.args.drained.items _ c.in-None.ensures.steps.0
    inv.many inv.all inv.soft
