use Rattle.std.proofs.Common.{refl, flat_map, arith}
use Rattle.cyc_workers.specs.declared.cpu.Handlers.{Handlers}
use Rattle.cyc_thread_rings.specs.Laid.{three}
use Rattle.cyc_thread_rings.proofs.Each.{one_longer, taken_many, taken_none}
use Rattle.cyc_thread_rings.proofs.Laying.{three_given}
use Rattle.cyc_thread_rings.proofs.handlers.by_cpu.Goals as goal

pub loop-preserved : goal.loop-preserved
loop-preserved g c =
    let inv = c.loop.invariant in let one = c.take_next-high.ensures in let two = c.take_next-lock.ensures in
    let last = c.take_next-low.ensures in let more = c.push_reserved.ensures.items in
    let h : Handlers _ =
    record { high = c.take_next-high.result; lock = c.take_next-lock.result; low = c.take_next-low.result } in
    let many = taken_many _ _ h.low _ _ last.items last.len (taken_many _ _ h.lock _ _ two.items two.len
    (taken_many _ _ h.high _ _ one.items one.len inv.many)) in
    let long = one_longer c.loop.all.items _ h more in let was = inv.all in
    record {
      laid = three_given c.loop.all.items _ _ _ _ _ _ h more one.items two.items last.items inv.laid;
      many = many;
      len = let a = one.len in let b = two.len in let d = last.len in let first = inv.many in let len = inv.len in
          omega (arith, a, b, d, first, many, long, len);
      all = omega (arith, long, was);
      room = let room = inv.room in let same = c.push_reserved.ensures.capacity in omega (arith, room, same);
    }

pub returns-clause-laid : goal.returns-clause-laid
returns-clause-laid g c =
    let inv = c.loop.invariant in let len = inv.len in let all = inv.all in let far = c.loop-test.false in
    let end = c.loop.auto.counter-end in
    taken_none (flat_map three c.loop.all.items) _ _ _ refl (omega (arith, len, all, far, end)) inv.laid
