use Rattle.std.proofs.Common.{◌≡◌, ◌∷◌, List, length, ap, subst, refl, arith}
use Rattle.cyc_types.specs.Pairs.{EachTwo}
use Rattle.cyc_ring.specs.declared.ring.Ring.{Ring}
use Rattle.cyc_workers.specs.declared.cpu.Seats.{Seats}
use Rattle.cyc_thread_rings.specs.declared.levels.Levels.{Levels}
use Rattle.cyc_thread_rings.specs.Rings.{AreSeated, AreClosed}
use Rattle.cyc_thread_rings.proofs.Each.{each_long, each_pushed, taken_all, taken_many, taken_none}
use Rattle.cyc_thread_rings.proofs.closing.close_rings.Goals as goal

-- both iterators gave an element
both_given : (rs rs' : List (Levels Ring)) (ss ss' : List (Levels Seats)) (r : Levels Ring) (s : Levels Seats)
    → EachTwo AreSeated rs ss →
    rs ≡ r ∷ rs' → ss ≡ s ∷ ss' → AreSeated r s × EachTwo AreSeated rs' ss'
both_given rs rs' ss ss' r s each e f = subst (λ (zs : List (Levels Seats)). EachTwo AreSeated (r ∷ rs') zs) f
    (subst (λ (zs : List (Levels Ring)). EachTwo AreSeated zs ss) e each)

pub take_next-of_cpu-requires : goal.take_next-of_cpu-requires
take_next-of_cpu-requires c =
    let long = each_long AreSeated _ _ c.loop-own.invariant.seated in let more =
    ap (λ (zs : List (Levels Seats)). length zs) c.in-Some.ensures.steps.0 in
    let rings = c.loop-own.invariant.many_rings in
    omega (arith, long, more, rings)

pub close_ring-requires : goal.close_ring-requires
close_ring-requires c = (both_given _ _ _ _ c.take_next-of_cpu.result c.in-Some.own c.loop-own.invariant.seated
    c.take_next-of_cpu.ensures.items c.in-Some.ensures.steps.0).0.0

pub close_ring-requires-in-loop-own : goal.close_ring-requires-in-loop-own
close_ring-requires-in-loop-own c = (both_given _ _ _ _ c.take_next-of_cpu.result c.in-Some.own c.loop-own.invariant.seated
    c.take_next-of_cpu.ensures.items c.in-Some.ensures.steps.0).0.1

pub loop-own-preserved : goal.loop-own-preserved
loop-own-preserved c =
    let inv = c.loop-own.invariant in let x = c.in-Some.own in let step = c.in-Some.ensures.steps in let ring =
    c.take_next-of_cpu.ensures in
    record {
      all = taken_all c.loop-own.yielded x _ _ _ step.0 inv.all;
      many = taken_many _ _ x _ _ step.0 step.1 inv.many;
      room = let room = inv.room in let given = step.1 in let long = c.push_reserved.ensures.len in
          let same = c.push_reserved.ensures.capacity in omega (arith, room, given, long, same);
      many_rings = taken_many _ _ c.take_next-of_cpu.result _ _ ring.items ring.len inv.many_rings;
      seated = (both_given _ _ _ _ c.take_next-of_cpu.result x inv.seated ring.items step.0).1;
      closed = each_pushed AreClosed c.loop-own.yielded c.loop-own.closed.items _ _ x
          (record { lock = c.close_ring.result; low = c.close_ring-in-loop-own.result }) refl
          c.push_reserved.ensures.items inv.closed (c.close_ring.ensures, c.close_ring-in-loop-own.ensures);
    }

pub returns : goal.returns
returns c = subst (λ (zs : List (Levels Seats)). EachTwo AreClosed zs c.loop-own.closed.items)
    (taken_none c.loop-own.yielded _ _ _ c.in-None.ensures.steps.0 c.loop-own.invariant.many c.loop-own.invariant.all)
    c.loop-own.invariant.closed
