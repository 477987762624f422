use Rattle.std.proofs.Common.{[], ◌∷◌, map, sym, subst, arith, ◌∙◌, List, ap, length}
use Rattle.std.proofs.lemmas.List.{map-append}
use Rattle.cyc_types.specs.Pairs.{EachTwo}
use Rattle.cyc_thread_rings.specs.Working.{sides_of, HasPromised}
use Rattle.cyc_thread_rings.proofs.Each.{each_pushed, taken_all, taken_many, taken_none}
use Rattle.cyc_thread_rings.proofs.working.start_each.Goals as goal

pub loop-of_cpu-init : goal.loop-of_cpu-init
loop-of_cpu-init g c =
    let gives = c.into_iter-of_cpu-iterator.ensures.into_iter_gives in
    record {
      all = gives.0;
      many = gives.1 ∙ c.args.drainers.ok.0 ∙ ap (λ (zs : List _). length zs) (sym gives.0);
      room = let many = gives.1 in let long = c.args.drainers.ok.0 in let room = c.requires.room in
          let none = ap (λ (zs : List _). length zs) c.requires.none in let done = c.args.workers.now.ok.0 in
          omega (arith, many, long, room, none, done);
      started = subst (EachTwo HasPromised []) (sym c.requires.none) tt;
    }

pub loop-of_cpu-preserved : goal.loop-of_cpu-preserved
loop-of_cpu-preserved g c =
    let inv = c.loop-of_cpu.invariant in let x = c.in-Some.of_cpu in let step = c.in-Some.ensures.steps in
    record {
      all = taken_all c.loop-of_cpu.yielded x _ _ _ step.0 inv.all;
      many = taken_many _ _ x _ _ step.0 step.1 inv.many;
      room = let room = inv.room in let given = step.1 in let long = c.push_reserved.ensures.len in
          let same = c.push_reserved.ensures.capacity in omega (arith, room, given, long, same);
      started = each_pushed HasPromised (map sides_of c.loop-of_cpu.yielded) c.loop-of_cpu.workers.items _ _ (sides_of x)
          c.in_ok-start_both.field-0 (map-append sides_of c.loop-of_cpu.yielded (x ∷ [])) c.push_reserved.ensures.items
          inv.started
          c.in_ok-start_both.ensures.started;
    }

pub returns-clause-started : goal.returns-clause-started
returns-clause-started g c = subst (λ zs. EachTwo HasPromised (map sides_of zs) c.loop-of_cpu.workers.items)
    (taken_none c.loop-of_cpu.yielded _ _ _ c.in-None.ensures.steps.0 c.loop-of_cpu.invariant.many c.loop-of_cpu.invariant.all)
    c.loop-of_cpu.invariant.started
