use Rattle.std.proofs.Common.{[], refl, sym, subst, arith, ◌∙◌, List, ap, length}
use Rattle.cyc_types.specs.Pairs.{EachTwo}
use Rattle.cyc_thread_rings.specs.Working.{HaveKept}
use Rattle.cyc_thread_rings.proofs.Each.{each_pushed, taken_all, taken_many, taken_none}
use Rattle.cyc_thread_rings.proofs.working.join_all.Goals as goal

pub loop-of_cpu-init : goal.loop-of_cpu-init
loop-of_cpu-init g c =
    let gives = c.into_iter-of_cpu-iterator.ensures.into_iter_gives in
    record {
      all = gives.0;
      many = gives.1 ∙ c.args.workers.ok.0 ∙ ap (λ (zs : List _). length zs) (sym gives.0);
      room = let many = gives.1 in let long = c.args.workers.ok.0 in let room = c.requires.room in
          let none = ap (λ (zs : List _). length zs) c.requires.none in let done = c.args.drained.now.ok.0 in
          omega (arith, many, long, room, none, done);
      kept = subst (EachTwo (HaveKept g.D.Drain g.C.Calls) []) (sym c.requires.none) tt;
    }

pub loop-of_cpu-preserved : goal.loop-of_cpu-preserved
loop-of_cpu-preserved g c =
    let inv = c.loop-of_cpu.invariant in let x = c.in-Some.of_cpu in let step = c.in-Some.ensures.steps in
    record {
      all = taken_all c.loop-of_cpu.yielded x _ _ _ step.0 inv.all;
      many = taken_many _ _ x _ _ step.0 step.1 inv.many;
      room = let room = inv.room in let given = step.1 in let long = c.push_reserved.ensures.len in
          let same = c.push_reserved.ensures.capacity in omega (arith, room, given, long, same);
      kept = each_pushed (HaveKept g.D.Drain g.C.Calls)
          c.loop-of_cpu.yielded c.loop-of_cpu.drained.items _ _ x
          (record { lock = c.join_one-lock.result; low = c.join_one-low.result })
          refl c.push_reserved.ensures.items inv.kept (c.join_one-lock.ensures, c.join_one-low.ensures);
    }

pub returns : goal.returns
returns g c = subst
    (λ zs. EachTwo (HaveKept g.D.Drain g.C.Calls) zs c.loop-of_cpu.drained.items)
    (taken_none c.loop-of_cpu.yielded _ _ _ c.in-None.ensures.steps.0 c.loop-of_cpu.invariant.many c.loop-of_cpu.invariant.all)
    c.loop-of_cpu.invariant.kept
