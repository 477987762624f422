use Rattle.std.proofs.Common.{◌≡◌, map, refl, sym, subst}
use Rattle.cyc_workers.specs.declared.settling.Lead.{Lead}
use Rattle.cyc_thread_rings.specs.declared.attaching.Attached.{Attached}
use Rattle.cyc_thread_rings.specs.Preparing.{HasThreadRoom}
use Rattle.cyc_thread_rings.specs.Working.{sides_of}
use Rattle.cyc_thread_rings.proofs.Each.{taken_all, taken_many, taken_none, same_more}
use Rattle.cyc_thread_rings.proofs.preparing.prepare.Goals as goal

pub loop-attached-preserved : goal.loop-attached-preserved
loop-attached-preserved g c =
    let inv = c.loop-attached.invariant in let x = c.in-Some.attached in let step = c.in-Some.ensures.steps in
    let more = c.in_ok-add.ensures in
    record {
      all = taken_all c.loop-attached.yielded x _ _ _ step.0 inv.all;
      many = taken_many _ _ x _ _ step.0 step.1 inv.many;
      room = more.room _ (subst (λ n. HasThreadRoom n c.loop-attached.lists) (sym step.1) inv.room);
      ends = same_more (λ (a : Attached _). a.ends) _ _ c.loop-attached.yielded x.ends x more.ends inv.ends refl;
      leads = same_more (λ (a : Attached _). a.high) _ _ c.loop-attached.yielded x.high x more.leads inv.leads refl;
      drainers = same_more (λ (a : Attached _). a.soft) _ _ c.loop-attached.yielded x.soft x more.drainers inv.drainers refl;
    }

pub returns-clause-ends : goal.returns-clause-ends
returns-clause-ends g c = let inv = c.loop-attached.invariant in
    subst (λ zs. c.loop-attached.lists.ends.items ≡ map (λ (a : Attached _). a.ends) zs)
    (taken_none c.loop-attached.yielded _ _ _ c.in-None.ensures.steps.0 inv.many inv.all) inv.ends

pub returns-clause-leads : goal.returns-clause-leads
returns-clause-leads g c = let inv = c.loop-attached.invariant in
    subst (λ zs. map (λ (l : Lead _). l.calls) c.loop-attached.lists.leads.items ≡ map (λ (a : Attached _). a.high) zs)
    (taken_none c.loop-attached.yielded _ _ _ c.in-None.ensures.steps.0 inv.many inv.all) inv.leads

pub returns-clause-drainers : goal.returns-clause-drainers
returns-clause-drainers g c = let inv = c.loop-attached.invariant in
    subst (λ zs. map sides_of c.loop-attached.lists.drainers.items ≡ map (λ (a : Attached _). a.soft) zs)
    (taken_none c.loop-attached.yielded _ _ _ c.in-None.ensures.steps.0 inv.many inv.all) inv.drainers
