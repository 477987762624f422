use Rattle.std.proofs.Common.{◌+◌, ◌≤◌, arith, Ok, refl, sym, ap, ◌∙◌, subst}
use Rattle.cyc_cpu.specs.declared.removing.Removal.TheVariants.{Done, Kept}
use Rattle.cyc_types.specs.declared.firing.Sent.{Sent}
use Rattle.cyc_cpu.specs.Cpu.{CpuView}
use Rattle.cyc_cpu.specs.Calls.{CpuChanges, BeginRemove}
use Rattle.cyc_agreement.proofs.CpuSpots.{changed, one_cpu}
use Rattle.cyc_agreement.proofs.Presence.{cyclic_here}
use Rattle.cyc_agreement.specs.Removing.{counts_of_receipt}
use Rattle.cyc_places.specs.Places.{ended_on, summed}
use Rattle.cyc_agreement.proofs.One.{begun, less_done, done_fits, is_begun, removal_there}
use Rattle.cyc_agreement.proofs.Withdrawing.{at_end, at_open}
use Rattle.cyc_agreement.proofs.removing_at.begin_at.Goals as goal

pub unreachable-requires : goal.unreachable-requires
unreachable-requires g c =
    let v = c.args.cpus.now in let n = c.args.number in let x = c.cpu_mut.result.now in let y = c.begin_remove.new.self in
    let d = subst (λ r. CpuChanges g.R.Raise x (BeginRemove c.args.id r) y) c.in_default.is
    c.begin_remove.ensures in
    is_begun g.R.Raise c.args.id x y c.in_default.field-0 (sym (removal_there v n x c.cpu_mut.ensures.cpu)
    ∙ c.requires.still)
    (cyclic_here v n c.args.id x c.requires.here c.cpu_mut.ensures.cpu) d

pub keep_counts-requires-clause-few : goal.keep_counts-requires-clause-few
keep_counts-requires-clause-few g c =
    let v = c.args.cpus.now in let n = c.args.number in let x = c.cpu_mut.result.now in let y = c.begin_remove.new.self in
    let d = subst (λ r. CpuChanges g.R.Raise x (BeginRemove c.args.id r) y)
    (c.in-Ok.is ∙ ap Ok c.in-Done.is) c.begin_remove.ensures in
    subst (λ m. c.in-Done.receipt.sent ≤ m) (ap (λ (cpu : CpuView _). cpu.most)
    (one_cpu n x c.cpu.result.now v c.cpu_mut.ensures.cpu c.cpu.ensures) ∙ sym c.most-most.ensures)
    (done_fits g.R.Raise c.args.id x y c.in-Done.receipt (c.law.ensures n x c.cpu_mut.ensures.cpu) d)

pub returns-in-Done-clause-did : goal.returns-in-Done-clause-did
returns-in-Done-clause-did g c last =
    let v = c.args.cpus.now in let n = c.args.number in let x = c.cpu_mut.result.now in let y = c.begin_remove.new.self in
    let d = subst (λ r. CpuChanges g.R.Raise x (BeginRemove c.args.id r) y)
    (c.in-Ok.is ∙ ap Ok c.in-Done.is) c.begin_remove.ensures in
    let o = c.requires.owns in (
      Done c.in-Done.receipt,
      refl,
      (
        changed n _ x y v c.cpu_mut.ensures.cpu d,
        c.args.position,
        o.own,
        o.here,
        o.named,
        c.keep_counts.ensures o.own o.here,
        refl,
      ),
    )

pub returns-in-Done-clause-withdraws : goal.returns-in-Done-clause-withdraws
returns-in-Done-clause-withdraws g c =
    let v = c.args.cpus.now in let n = c.args.number in let x = c.cpu_mut.result.now in let y = c.begin_remove.new.self in
    let d = subst (λ r. CpuChanges g.R.Raise x (BeginRemove c.args.id r) y)
    (c.in-Ok.is ∙ ap Ok c.in-Done.is) c.begin_remove.ensures in
    let o = c.requires.owns in let law = c.law.ensures n x c.cpu_mut.ensures.cpu in
    at_end v n c.args.id c.args.position x y c.cpu_mut.ensures.cpu
    (begun g.R.Raise c.args.id x y law (Done c.in-Done.receipt) d)
    c.args.records.now.list o.own o.here c.keep_counts.new.records.list
    (summed (ended_on n o.own) (counts_of_receipt c.in-Done.receipt)) c.requires.here
    (less_done g.R.Raise c.args.id x y law c.in-Done.receipt d).gone
    (subst (λ (e : Sent). e.sent + c.in-Done.receipt.sent ≤ x.most) (sym (o.fresh n c.requires.here))
    (let few = done_fits g.R.Raise c.args.id x y c.in-Done.receipt law d in omega (arith, few)))
    (c.keep_counts.ensures o.own o.here)

pub returns-in-Kept-clause-did : goal.returns-in-Kept-clause-did
returns-in-Kept-clause-did g c last =
    let v = c.args.cpus.now in let n = c.args.number in let x = c.cpu_mut.result.now in let y = c.begin_remove.new.self in
    let d = subst (λ r. CpuChanges g.R.Raise x (BeginRemove c.args.id r) y)
    (c.in-Ok.is ∙ ap Ok c.in-Kept.is) c.begin_remove.ensures in
    (Kept c.in-Kept.kept, c.from.ensures, (changed n _ x y v c.cpu_mut.ensures.cpu d, refl, refl))

pub returns-in-Kept-clause-withdraws : goal.returns-in-Kept-clause-withdraws
returns-in-Kept-clause-withdraws g c =
    let v = c.args.cpus.now in let n = c.args.number in let x = c.cpu_mut.result.now in let y = c.begin_remove.new.self in
    let d = subst (λ r. CpuChanges g.R.Raise x (BeginRemove c.args.id r) y)
    (c.in-Ok.is ∙ ap Ok c.in-Kept.is) c.begin_remove.ensures in
    let o = c.requires.owns in let law = c.law.ensures n x c.cpu_mut.ensures.cpu in
    at_open v n c.args.id c.args.position x y c.cpu_mut.ensures.cpu
    (begun g.R.Raise c.args.id x y law (Kept c.in-Kept.kept) d)
    c.args.records.now.list o.own o.here c.args.records.now.list refl
