use Rattle.std.proofs.Common.{◌≡◌, map, refl, subst, arith}
use Rattle.cyc_system_workers.specs.declared.lanes.LaneAfter.{LaneAfter}
use Rattle.cyc_agreement.proofs.GivenEach.{given_all, given_many, given_none, made_more}
use Rattle.cyc_system_workers.proofs.lanes.scatter.Goals as goal

pub loop-lane-preserved : goal.loop-lane-preserved
loop-lane-preserved g c =
    let inv = c.loop-lane.invariant in let lane = c.in-Some.lane in let step = c.in-Some.ensures.steps in let given = step.1 in
    let hards = c.push_reserved.ensures in let leads = c.push_reserved-in-loop-lane.ensures in
    let answers = c.push_reserved-in-loop-lane-2.ensures in
    record {
      all = given_all c.loop-lane.yielded lane _ _ _ step.0 inv.all;
      many = given_many _ _ lane _ _ step.0 step.1 inv.many;
      room = let room = inv.room in let long = hards.len in let same = hards.capacity in omega (arith, room, given, long, same);
      room_leads = let room = inv.room_leads in let long = leads.len in let same = leads.capacity in
          omega (arith, room, given, long, same);
      room_answers = let room = inv.room_answers in let long = answers.len in let same = answers.capacity in
          omega (arith, room, given, long, same);
      hards = made_more (λ (x : LaneAfter _ _). x.hard) _ _ c.loop-lane.yielded lane.hard lane hards.items inv.hards refl;
      leads = made_more (λ (x : LaneAfter _ _). x.lead) _ _ c.loop-lane.yielded lane.lead lane leads.items inv.leads refl;
      answers = made_more (λ (x : LaneAfter _ _). x.answer) _ _ c.loop-lane.yielded lane.answer lane answers.items inv.answers
          refl;
    }

pub returns-clause-hards : goal.returns-clause-hards
returns-clause-hards g c = let inv = c.loop-lane.invariant in
    subst (λ zs. c.loop-lane.hards.items ≡ map (λ (x : LaneAfter _ _). x.hard) zs)
    (given_none c.loop-lane.yielded _ _ _ c.in-None.ensures.steps.0 inv.many inv.all) inv.hards

pub returns-clause-leads : goal.returns-clause-leads
returns-clause-leads g c = let inv = c.loop-lane.invariant in
    subst (λ zs. c.loop-lane.leads.items ≡ map (λ (x : LaneAfter _ _). x.lead) zs)
    (given_none c.loop-lane.yielded _ _ _ c.in-None.ensures.steps.0 inv.many inv.all) inv.leads

pub returns-clause-answers : goal.returns-clause-answers
returns-clause-answers g c = let inv = c.loop-lane.invariant in
    subst (λ zs. c.loop-lane.answers.items ≡ map (λ (x : LaneAfter _ _). x.answer) zs)
    (given_none c.loop-lane.yielded _ _ _ c.in-None.ensures.steps.0 inv.many inv.all) inv.answers
