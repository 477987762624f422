use Rattle.std.proofs.Common.{◌≡◌, sym, ap, subst, ◌∙◌, ◌∷◌, ◌++◌, List, map, refl, arith}
use Rattle.cyc_types.specs.Pairs.{EachTwo}
use Rattle.cyc_ring.specs.declared.ring.Ring.{Ring}
use Rattle.cyc_thread_rings.specs.declared.levels.Levels.{Levels}
use Rattle.cyc_thread_rings.specs.declared.levels.Seated.{Seated}
use Rattle.cyc_thread_rings.specs.Rings.{AreSeated, IsAttached}
use Rattle.cyc_thread_rings.proofs.Each.{each_at, each_low, each_long, each_of_map, each_pushed, taken_all, taken_many}
use Rattle.cyc_thread_rings.proofs.Each.{taken_none}
use Rattle.cyc_thread_rings.proofs.attaching.attach.Goals as goal

-- the seats of the next CPU are those of the rings at its position
seated_from : {C : Type 0} (rings : List (Levels Ring)) (all done rest rest' : List (Seated C)) (x : Seated C)
    → EachTwo AreSeated rings (map (λ (s : Seated C). s.seats) all) →
    done ++ rest ≡ all → rest ≡ x ∷ rest' → EachTwo (λ r (s : Seated C). AreSeated r s.seats) rings (done ++ x ∷ rest')
seated_from {C} rings all done rest rest' x each e f =
    subst (λ (zs : List (Seated C)). EachTwo (λ r (s : Seated C). AreSeated r s.seats) rings zs)
    (sym e ∙ ap (λ (zs : List (Seated C)). done ++ zs) f) (each_of_map AreSeated (λ (s : Seated C). s.seats) rings all each)

pub unreachable-requires : goal.unreachable-requires
unreachable-requires g c =
    let each = seated_from c.args.rings.now c.args.all.items c.loop-seated.yielded _ _ c.in-Some.seated c.requires
    c.loop-seated.invariant.all c.in-Some.ensures.steps.0 in
    let low = each_low (λ r (s : Seated _). AreSeated r s.seats) c.args.rings.now c.loop-seated.yielded _ c.in-Some.seated each in
    let long = each_long IsAttached c.loop-seated.yielded c.loop-seated.attached.items c.loop-seated.invariant.done in
    let position = c.len-position.ensures in let far = c.if-position-rings.true in let ok = c.loop-seated.attached.ok.0 in
    omega (arith, low, long, position, far, ok)

pub attach_one-requires : goal.attach_one-requires
attach_one-requires g c =
    let each = seated_from c.args.rings.now c.args.all.items c.loop-seated.yielded _ _ c.in-Some.seated c.requires
    c.loop-seated.invariant.all c.in-Some.ensures.steps.0 in
    let long = each_long IsAttached c.loop-seated.yielded c.loop-seated.attached.items c.loop-seated.invariant.done in
    subst (λ (r : Levels Ring). AreSeated r c.in-Some.seated.seats) (sym c.index-rings-position.is)
    (each_at (λ r (s : Seated _). AreSeated r s.seats) c.args.rings.now c.loop-seated.yielded _ c.in-Some.seated
    c.len-position.result c.index-rings-position.result each (c.len-position.ensures ∙ c.loop-seated.attached.ok.0 ∙ long))

pub loop-seated-preserved : goal.loop-seated-preserved
loop-seated-preserved g c =
    let inv = c.loop-seated.invariant in let x = c.in-Some.seated in let step = c.in-Some.ensures.steps in
    record {
      all = taken_all c.loop-seated.yielded x _ _ _ step.0 inv.all;
      many = taken_many _ _ x _ _ step.0 step.1 inv.many;
      room = let room = inv.room in let given = step.1 in let long = c.push_reserved.ensures.len in
          let same = c.push_reserved.ensures.capacity in omega (arith, room, given, long, same);
      done = each_pushed IsAttached c.loop-seated.yielded c.loop-seated.attached.items _ _ x c.attach_one.result refl
          c.push_reserved.ensures.items inv.done c.attach_one.ensures;
    }

pub returns : goal.returns
returns g c = subst (λ (zs : List (Seated _)). EachTwo IsAttached zs c.loop-seated.attached.items)
    (taken_none c.loop-seated.yielded _ _ _ c.in-None.ensures.steps.0 c.loop-seated.invariant.many c.loop-seated.invariant.all)
    c.loop-seated.invariant.done
