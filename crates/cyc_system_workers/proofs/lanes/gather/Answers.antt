use Rattle.std.proofs.Common.{◌<◌, ◌≤◌, ◌++◌, ◌∙◌, List, map, length, refl, sym, ap, subst, arith, rules}
use Rattle.std.specs.Vec.Iter.{into_iter_items}
use Rattle.std.proofs.lemmas.List.{take_all}
use Rattle.cyc_system_workers.specs.declared.lanes.Lane.{Lane}
use Rattle.cyc_agreement.proofs.GivenEach.{given_all, given_many, given_none}
use Rattle.cyc_system_workers.proofs.Beside.{map_pushed, take_pushed, take_none}
use Rattle.cyc_system_workers.proofs.Beside.{position_taken, position_left, positions_free, positions_full, both_full}
use Rattle.cyc_system_workers.proofs.lanes.gather.Goals as goal

pub bounds-online-len : goal.bounds-online-len
bounds-online-len g c = let inv = c.loop-hard.invariant in
    subst (λ k. k < length c.args.online.now) (sym c.len.ensures) (position_left _ _ _ _ c.in-Some.ensures.steps.1 inv.positions)

pub push_reserved-requires : goal.push_reserved-requires
push_reserved-requires g c = let inv = c.loop-hard.invariant in let given = c.in-Some.ensures.steps.1 in
    let positions = inv.positions in let room = inv.room in omega (arith, given, positions, room)

pub unreachable-requires : goal.unreachable-requires
unreachable-requires g c = let inv = c.loop-hard.invariant in let given = c.in-Some.ensures.steps.1 in
    let none = c.in_default.ensures.cases.0 in let positions = inv.positions in let leads = inv.positions_leads in
    omega (arith, given, none, positions, leads)

pub loop-hard-init : goal.loop-hard-init
loop-hard-init g c = let gives = c.into_iter-hard-iterator.ensures.into_iter_gives in let q = c.in_ok-lanes.ensures in
    record {
      all = gives.0;
      many = search rules;
      many_leads = search rules;
      positions = positions_free _ _ _ (into_iter_items c.into_iter-hard-iterator.result) _ q.len (search rules) gives.0
          c.requires.online;
      positions_leads = positions_free _ _ _ (into_iter_items c.into_iter-rest.result) _ q.len (search rules)
          c.into_iter-rest.ensures.rest (c.requires.online ∙ sym c.requires.leads);
      room = q.capacity;
      hards = ap (λ (zs : List _). map (λ (x : Lane _ _). x.hard) zs) q.items;
      leads = ap (λ (zs : List _). map (λ (x : Lane _ _). x.lead) zs ++ into_iter_items c.into_iter-rest.result)
          q.items ∙ c.into_iter-rest.ensures.rest;
      online = take_none (λ (x : Lane _ _). x.online) _ c.args.online.now _ q.items q.len;
    }

pub loop-hard-preserved : goal.loop-hard-preserved
loop-hard-preserved g c =
    let inv = c.loop-hard.invariant in let step = c.in-Some.ensures.steps in let got = c.in-Some-next.ensures in
    let pushed = c.push_reserved.ensures in
    record {
      all = given_all c.loop-hard.yielded c.in-Some.hard _ _ _ step.0 inv.all;
      many = given_many _ _ c.in-Some.hard _ _ step.0 step.1 inv.many;
      many_leads = given_many _ _ c.in-Some-next.lead _ _ got.items got.len inv.many_leads;
      positions = position_taken _ _ _ _ _ pushed.len step.1 inv.positions;
      positions_leads = position_taken _ _ _ _ _ pushed.len got.len inv.positions_leads;
      room = subst (λ n. length c.args.online.now ≤ n) (sym pushed.capacity) inv.room;
      hards = map_pushed (λ (x : Lane _ _). x.hard) _ _ _ _ pushed.items inv.hards;
      leads = ap (λ (zs : List _). zs ++ into_iter_items c.next-in-loop-hard.new.self)
          (map_pushed (λ (x : Lane _ _). x.lead) _ _ _ _ pushed.items refl)
          ∙ given_all _ c.in-Some-next.lead _ _ _ got.items inv.leads;
      online = map_pushed (λ (x : Lane _ _). x.online) _ _ _ _ pushed.items inv.online
          ∙ take_pushed c.args.online.now _ _ _ _ pushed.len c.len.ensures (position_left _ _ _ _ step.1 inv.positions);
    }

pub returns-clause-hards : goal.returns-clause-hards
returns-clause-hards g c = let inv = c.loop-hard.invariant in
    inv.hards ∙ given_none c.loop-hard.yielded _ _ _ c.in-None.ensures.steps.0 inv.many inv.all

pub returns-clause-leads : goal.returns-clause-leads
returns-clause-leads g c = let inv = c.loop-hard.invariant in
    given_none _ _ _ _ (both_full _ _ _ _ c.in-None.ensures.steps.0 inv.positions inv.positions_leads) inv.many_leads inv.leads

pub returns-clause-online : goal.returns-clause-online
returns-clause-online g c = let inv = c.loop-hard.invariant in
    inv.online ∙ take_all _ c.args.online.now (positions_full _ _ _ c.in-None.ensures.steps.0 inv.positions)
