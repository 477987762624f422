use Rattle.std.proofs.Common.{arith}
use Rattle.cyc_thread_rings.proofs.preparing.room.Goals as goal

pub returns-clause-none : goal.returns-clause-none
returns-clause-none g c =
    (c.in_ok-ends.ensures.items, (c.in_ok-leads.ensures.items, c.in_ok-drainers.ensures.items))

pub returns-clause-room : goal.returns-clause-room
returns-clause-room g c =
    let ends = c.in_ok-ends.ensures in let leads = c.in_ok-leads.ensures in let drainers = c.in_ok-drainers.ensures in
    let wakers = c.in_ok-wakers.ensures in
    record {
      ends = let none = ends.len in let room = ends.capacity in omega (arith, none, room);
      leads = let none = leads.len in let room = leads.capacity in omega (arith, none, room);
      drainers = let none = drainers.len in let room = drainers.capacity in omega (arith, none, room);
      wakers = let none = wakers.len in let room = wakers.capacity in omega (arith, none, room);
    }
