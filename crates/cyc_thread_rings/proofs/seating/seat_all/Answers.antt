use Rattle.std.proofs.Common.{refl, arith}
use Rattle.cyc_thread_rings.specs.declared.levels.Seated.{Seated}
use Rattle.cyc_thread_rings.proofs.Each.{as_many, given_all, map_given, map_one_more, same_all, taken_all, taken_many}
use Rattle.cyc_thread_rings.proofs.seating.seat_all.Goals as goal

pub take_next-requires : goal.take_next-requires
take_next-requires g c =
    let inv = c.loop-own.invariant in
    let many = as_many (λ (x : Seated _). x.calls) (λ (x : Seated _). x.seats) c.loop-own.all.items _ c.args.calls.items
    c.loop-own.yielded _ c.args.seats.items inv.calls inv.seats inv.all c.requires in
    let left = inv.many in let given = c.in-Some.ensures.steps.1 in let calls = inv.many_calls in
    omega (arith, many, left, given, calls)

pub loop-own-preserved : goal.loop-own-preserved
loop-own-preserved g c =
    let inv = c.loop-own.invariant in let x = c.in-Some.own in let step = c.in-Some.ensures.steps in
    let calls = c.take_next.ensures in let h = c.take_next.result in let more = c.push_reserved.ensures.items in
    let s : Seated _ = record { seats = x; calls = h } in
    record {
      all = taken_all c.loop-own.yielded x _ _ _ step.0 inv.all;
      many = taken_many _ _ x _ _ step.0 step.1 inv.many;
      many_calls = taken_many _ _ h _ _ calls.items calls.len inv.many_calls;
      room = let room = inv.room in let given = step.1 in let long = c.push_reserved.ensures.len in
          let same = c.push_reserved.ensures.capacity in omega (arith, room, given, long, same);
      seats = map_one_more (λ (y : Seated _). y.seats) c.loop-own.all.items _ c.loop-own.yielded s x more inv.seats refl;
      calls = map_given (λ (y : Seated _). y.calls) c.loop-own.all.items _ _ _ _ s h more calls.items refl inv.calls;
    }

pub returns-clause-seats : goal.returns-clause-seats
returns-clause-seats g c = let inv = c.loop-own.invariant in
    same_all _ c.loop-own.yielded _ c.args.seats.items _ c.in-None.ensures.steps.0 inv.many inv.all inv.seats

pub returns-clause-calls : goal.returns-clause-calls
returns-clause-calls g c = let inv = c.loop-own.invariant in
    given_all (λ (x : Seated _). x.calls) (λ (x : Seated _). x.seats) c.loop-own.all.items _ c.args.calls.items
    c.loop-own.yielded _ c.args.seats.items _ inv.calls inv.seats inv.all c.requires c.in-None.ensures.steps.0 inv.many
