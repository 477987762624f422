use Rattle.std.proofs.Common.{[], sym, subst, arith, rules}
use Rattle.cyc_system_workers.specs.Starting.{Beside, Owes}
use Rattle.cyc_agreement.proofs.GivenEach.{given_all, given_many, given_none}
use Rattle.cyc_system_workers.proofs.Beside.{beside_none, beside_pushed, begun_few}
use Rattle.cyc_system_workers.proofs.firing.start_all.Goals as goal

pub loop-lane-init : goal.loop-lane-init
loop-lane-init g c =
    let gives = c.into_iter-lane-iterator.ensures.into_iter_gives in
    let owes = Owes g.C.Calls g.R.Raise c.args.now in
    record {
      all = gives.0;
      many = search rules;
      room = search rules;
      begun = subst (Beside owes []) (sym c.requires.none) (beside_none owes);
    }

pub loop-lane-preserved : goal.loop-lane-preserved
loop-lane-preserved g c =
    let inv = c.loop-lane.invariant in let lane = c.in-Some.lane in let step = c.in-Some.ensures.steps in
    record {
      all = given_all c.loop-lane.yielded lane _ _ _ step.0 inv.all;
      many = given_many _ _ lane _ _ step.0 step.1 inv.many;
      room = let room = inv.room in let given = step.1 in let long = c.push_reserved.ensures.len in
          let same = c.push_reserved.ensures.capacity in omega (arith, room, given, long, same);
      begun = beside_pushed (Owes g.C.Calls g.R.Raise c.args.now)
          c.loop-lane.yielded c.loop-lane.started.items _ lane c.in_ok-start.field-0 c.push_reserved.ensures.items inv.begun
          c.in_ok-start.ensures;
    }

pub returns-clause-begun : goal.returns-clause-begun
returns-clause-begun g c = subst
    (λ zs. Beside (Owes g.C.Calls g.R.Raise c.args.now) zs
    c.loop-lane.started.items)
    (given_none c.loop-lane.yielded _ _ _ c.in-None.ensures.steps.0 c.loop-lane.invariant.many c.loop-lane.invariant.all)
    c.loop-lane.invariant.begun

pub returns-clause-few : goal.returns-clause-few
returns-clause-few g c = begun_few
    (Owes g.C.Calls g.R.Raise c.args.now)
    c.loop-lane.yielded _ c.args.lanes.items c.loop-lane.started.items c.loop-lane.invariant.all c.loop-lane.invariant.begun
