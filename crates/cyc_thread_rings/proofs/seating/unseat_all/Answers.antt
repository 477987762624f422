use Rattle.std.proofs.Common.{refl, arith}
use Rattle.cyc_thread_rings.specs.declared.levels.Seated.{Seated}
use Rattle.cyc_thread_rings.proofs.Each.{same_more, taken_all, taken_many, mapped_all}
use Rattle.cyc_thread_rings.proofs.seating.unseat_all.Goals as goal

pub loop-seated-preserved : goal.loop-seated-preserved
loop-seated-preserved g c =
    let inv = c.loop-seated.invariant in let x = c.in-Some.seated in let step = c.in-Some.ensures.steps in
    let given = step.1 in let seats = c.push_reserved.ensures in let calls = c.push_reserved-in-loop-seated.ensures in
    record {
      all = taken_all c.loop-seated.yielded x _ _ _ step.0 inv.all;
      many = taken_many _ _ x _ _ step.0 step.1 inv.many;
      room = let room = inv.room in let long = seats.len in let same = seats.capacity in omega (arith, room, given, long, same);
      room_calls = let room = inv.room_calls in let long = calls.len in let same = calls.capacity in
          omega (arith, room, given, long, same);
      seats = same_more (λ (y : Seated _). y.seats) c.loop-seated.all_seats.items _ c.loop-seated.yielded x.seats x seats.items
          inv.seats refl;
      calls = same_more (λ (y : Seated _). y.calls) c.loop-seated.all_calls.items _ c.loop-seated.yielded x.calls x calls.items
          inv.calls refl;
    }

pub returns-clause-seats : goal.returns-clause-seats
returns-clause-seats g c = let inv = c.loop-seated.invariant in
    mapped_all (λ (y : Seated _). y.seats) c.loop-seated.all_seats.items c.loop-seated.yielded _ c.args.all.items _
    c.in-None.ensures.steps.0 inv.many inv.all inv.seats

pub returns-clause-calls : goal.returns-clause-calls
returns-clause-calls g c = let inv = c.loop-seated.invariant in
    mapped_all (λ (y : Seated _). y.calls) c.loop-seated.all_calls.items c.loop-seated.yielded _ c.args.all.items _
    c.in-None.ensures.steps.0 inv.many inv.all inv.calls
