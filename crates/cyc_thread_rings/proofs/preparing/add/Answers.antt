use Rattle.std.proofs.Common.{refl, arith}
use Rattle.cyc_workers.specs.declared.settling.Lead.{Lead}
use Rattle.cyc_thread_rings.specs.Working.{sides_of}
use Rattle.cyc_thread_rings.proofs.Each.{map_one_more}
use Rattle.cyc_thread_rings.proofs.preparing.add.Goals as goal

pub returns-clause-ends : goal.returns-clause-ends
returns-clause-ends g c = c.push_reserved.ensures.items

pub returns-clause-leads : goal.returns-clause-leads
returns-clause-leads g c =
    map_one_more (λ (l : Lead _). l.calls) c.args.lists.now.leads.items _ _ _ c.args.high c.push_reserved-2.ensures.items refl
    refl

pub returns-clause-drainers : goal.returns-clause-drainers
returns-clause-drainers g c =
    map_one_more sides_of c.args.lists.now.drainers.items _ _ _ c.args.soft c.push_reserved-3.ensures.items refl
    c.drainers_of.ensures

pub returns-clause-room : goal.returns-clause-room
returns-clause-room g c n was =
    let ends = c.push_reserved.ensures in let leads = c.push_reserved-2.ensures in let drainers = c.push_reserved-3.ensures in
    let wakers = c.push_reserved-4.ensures in
    record {
      ends = let room = was.ends in let long = ends.len in let same = ends.capacity in omega (arith, room, long, same);
      leads = let room = was.leads in let long = leads.len in let same = leads.capacity in omega (arith, room, long, same);
      drainers = let room = was.drainers in let long = drainers.len in let same = drainers.capacity in
          omega (arith, room, long, same);
      wakers = let room = was.wakers in let long = wakers.len in let same = wakers.capacity in omega (arith, room, long, same);
    }
