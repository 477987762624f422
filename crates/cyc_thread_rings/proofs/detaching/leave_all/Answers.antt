use Rattle.std.proofs.Common.{map, sym, ◌∙◌, arith}
use Rattle.cyc_workers.specs.declared.settling.Lead.{Lead}
use Rattle.cyc_thread_rings.specs.declared.levels.Seated.{Seated}
use Rattle.cyc_thread_rings.specs.Rings.{firing_seats, seats_on, soft_seats, soft_seats_on}
use Rattle.cyc_thread_rings.proofs.Each.{taken_all, taken_many, map_more, map_shift, more_left, all_given, mapped_all}
use Rattle.cyc_thread_rings.proofs.detaching.leave_all.Goals as goal

pub take_next-lead-requires : goal.take_next-lead-requires
take_next-lead-requires g c = let inv = c.loop-hard.invariant in
    more_left (λ (x : Seated _). x.calls.high) (λ (x : Lead _). x.calls) firing_seats seats_on c.loop-hard.all.items _
    c.args.leads.items c.loop-hard.yielded _ c.args.hards.items
    inv.high inv.firing inv.all c.requires.leads c.in-Some.hard _ _ c.in-Some.ensures.steps.0 inv.many_leads

pub take_next-own-requires : goal.take_next-own-requires
take_next-own-requires g c = let inv = c.loop-hard.invariant in
    more_left soft_seats soft_seats_on firing_seats seats_on c.loop-hard.all.items _ c.args.soft.items c.loop-hard.yielded _
    c.args.hards.items
    inv.soft inv.firing inv.all c.requires.soft c.in-Some.hard _ _ c.in-Some.ensures.steps.0 inv.many_soft

pub loop-hard-preserved : goal.loop-hard-preserved
loop-hard-preserved g c =
    let inv = c.loop-hard.invariant in let x = c.in-Some.hard in let step = c.in-Some.ensures.steps in let more =
    c.push_reserved.ensures.items in
    let lead = c.take_next-lead.ensures in let own = c.take_next-own.ensures in
    record {
      all = taken_all c.loop-hard.yielded x _ _ _ step.0 inv.all;
      many = taken_many _ _ x _ _ step.0 step.1 inv.many;
      room = let room = inv.room in let given = step.1 in let long = c.push_reserved.ensures.len in
          let same = c.push_reserved.ensures.capacity in omega (arith, room, given, long, same);
      many_leads = taken_many _ _ c.take_next-lead.result _ _ lead.items lead.len inv.many_leads;
      many_soft = taken_many _ _ c.take_next-own.result _ _ own.items own.len inv.many_soft;
      firing = map_more firing_seats seats_on c.loop-hard.all.items _ c.loop-hard.yielded c.leave.result x more inv.firing
          c.leave.ensures.firing;
      high = map_shift (λ (y : Seated _). y.calls.high) (λ (y : Lead _). y.calls) c.loop-hard.all.items _ _ _ _ c.leave.result
          c.take_next-lead.result more lead.items c.leave.ensures.high inv.high;
      soft = map_shift soft_seats soft_seats_on c.loop-hard.all.items _ _ _ _ c.leave.result c.take_next-own.result more own.items
          c.leave.ensures.soft inv.soft;
    }

pub returns-clause-firing : goal.returns-clause-firing
returns-clause-firing g c = let inv = c.loop-hard.invariant in
    mapped_all seats_on (map firing_seats c.loop-hard.all.items) c.loop-hard.yielded _ c.args.hards.items _
    c.in-None.ensures.steps.0 inv.many inv.all inv.firing

pub returns-clause-high : goal.returns-clause-high
returns-clause-high g c = let inv = c.loop-hard.invariant in
    all_given (λ (x : Seated _). x.calls.high) (λ (x : Lead _). x.calls) firing_seats seats_on c.loop-hard.all.items _
    c.args.leads.items c.loop-hard.yielded _ c.args.hards.items
    inv.high inv.firing inv.all c.requires.leads (sym inv.many ∙ c.in-None.ensures.steps.0)

pub returns-clause-soft : goal.returns-clause-soft
returns-clause-soft g c = let inv = c.loop-hard.invariant in
    all_given soft_seats soft_seats_on firing_seats seats_on c.loop-hard.all.items _ c.args.soft.items c.loop-hard.yielded _
    c.args.hards.items
    inv.soft inv.firing inv.all c.requires.soft (sym inv.many ∙ c.in-None.ensures.steps.0)
