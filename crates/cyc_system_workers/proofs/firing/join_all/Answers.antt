use Rattle.std.proofs.Common.{[], sym, subst, arith, rules}
use Rattle.cyc_system_workers.specs.Starting.{Beside, Keeps}
use Rattle.cyc_agreement.proofs.GivenEach.{given_all, given_many, given_none}
use Rattle.cyc_system_workers.proofs.Beside.{beside_none, beside_pushed}
use Rattle.cyc_system_workers.proofs.firing.join_all.Goals as goal

pub loop-one-init : goal.loop-one-init
loop-one-init g c =
    let gives = c.into_iter-one-iterator.ensures.into_iter_gives in
    let keeps = Keeps g.C.Calls g.R.Raise in
    record {
      all = gives.0;
      many = search rules;
      room = search rules;
      kept = subst (Beside keeps []) (sym c.requires.none) (beside_none keeps);
    }

pub loop-one-preserved : goal.loop-one-preserved
loop-one-preserved g c =
    let inv = c.loop-one.invariant in let one = c.in-Some.one in let step = c.in-Some.ensures.steps in
    record {
      all = given_all c.loop-one.yielded one _ _ _ step.0 inv.all;
      many = given_many _ _ one _ _ step.0 step.1 inv.many;
      room = let room = inv.room in let given = step.1 in let long = c.push_reserved.ensures.len in
          let same = c.push_reserved.ensures.capacity in omega (arith, room, given, long, same);
      kept = beside_pushed (Keeps g.C.Calls g.R.Raise)
          c.loop-one.yielded c.loop-one.after.items _ one c.join.result c.push_reserved.ensures.items inv.kept c.join.ensures;
    }

pub returns : goal.returns
returns g c = subst
    (λ zs. Beside (Keeps g.C.Calls g.R.Raise) zs
    c.loop-one.after.items)
    (given_none c.loop-one.yielded _ _ _ c.in-None.ensures.steps.0 c.loop-one.invariant.many c.loop-one.invariant.all)
    c.loop-one.invariant.kept
