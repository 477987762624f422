use Rattle.std.proofs.Common.{◌≡◌, ◌∙◌, List, length, map, sym, ap, arith}
use Rattle.std.specs.Prelude.{vec_len}
use Rattle.cyc_cpu.specs.Cpu.{IsFresh}
use Rattle.cyc_agreement.specs.Cpus.{new_cpu}
use Rattle.cyc_agreement.proofs.GivenEach.{given_all, given_many, given_none, given_holds, made_more}
use Rattle.cyc_agreement.proofs.cpus.new_hards.Goals as goal

pub loop-lock-init : goal.loop-lock-init
loop-lock-init g c =
    let gives = c.into_iter-lock-iterator.ensures.into_iter_gives in
    let all = gives.0 in let many = gives.1 in let ok = c.args.ends.ok in
    let same : vec_len c.args.ends ≡ length c.args.ends.items = omega (arith, ok) in
    record {
      all = all;
      many = many ∙ same ∙ sym (ap (λ (es : List _). length es) all);
      room = let made = c.in_ok-hards.ensures in let none = made.len in let room = made.capacity in let long = c.len.ensures in
          omega (arith, none, room, long, many, same);
      made = c.in_ok-hards.ensures.items;
    }

pub new-requires : goal.new-requires
new-requires g c =
    let fresh = given_holds (λ e. IsFresh (g.R.Raise.view e.0) × IsFresh (g.R.Raise.view e.1)) c.loop-lock.yielded
    (c.in-Some.lock, c.in-Some.low) _ _ c.args.ends.items c.in-Some.ensures.steps.0 c.loop-lock.invariant.all c.requires in
    record { lock = fresh.0; low = fresh.1 }

pub loop-lock-preserved : goal.loop-lock-preserved
loop-lock-preserved g c =
    let inv = c.loop-lock.invariant in let step = c.in-Some.ensures.steps in let given = step.1 in
    let pushed = c.push_reserved.ensures in
    record {
      all = given_all c.loop-lock.yielded (c.in-Some.lock, c.in-Some.low) _ _ _ step.0 inv.all;
      many = given_many _ _ (c.in-Some.lock, c.in-Some.low) _ _ step.0 step.1 inv.many;
      room = let room = inv.room in let long = pushed.len in let same = pushed.capacity in omega (arith, room, given, long, same);
      made = made_more (λ e. new_cpu c.args.most e.0 e.1) _ _ c.loop-lock.yielded c.in_ok-new.field-0
          (c.in-Some.lock, c.in-Some.low) pushed.items inv.made c.in_ok-new.ensures.ok;
    }

pub returns-clause-ok : goal.returns-clause-ok
returns-clause-ok g c = let inv = c.loop-lock.invariant in
    inv.made ∙ ap (λ es. map (λ e. new_cpu c.args.most e.0 e.1) es)
    (given_none c.loop-lock.yielded _ _ _ c.in-None.ensures.steps.0 inv.many inv.all)
