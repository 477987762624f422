use Rattle.std.proofs.Common.{◌+◌, ◌≤◌, arith, Some, None, refl, sym, ap, ◌∙◌, subst}
use Rattle.cyc_types.specs.declared.firing.Sent.{Sent}
use Rattle.cyc_cpu.specs.Cpu.{CpuView}
use Rattle.cyc_cpu.specs.Calls.{CpuChanges, PollRemove}
use Rattle.cyc_agreement.proofs.CpuSpots.{changed, one_cpu}
use Rattle.cyc_agreement.specs.Removing.{counts_of_receipt}
use Rattle.cyc_places.specs.Places.{ended_on, summed}
use Rattle.cyc_agreement.proofs.One.{polled, less_ended, ended_fits, removal_there, is_none, open_here}
use Rattle.cyc_agreement.proofs.Withdrawing.{at_end, at_open}
use Rattle.cyc_agreement.proofs.removing_at.poll_at.Goals as goal

pub keep_counts-requires-clause-fresh : goal.keep_counts-requires-clause-fresh
keep_counts-requires-clause-fresh g c =
    let v = c.args.cpus.now in let n = c.args.number in let x = c.cpu_mut.result.now in let o = c.requires.owns in
    let was = sym (removal_there v n x c.cpu_mut.ensures.cpu) ∙ c.requires.open_here in (
      o.own,
      o.here,
      o.fresh n (open_here g.R.Raise.view v n c.args.id x
          (c.law.ensures n x c.cpu_mut.ensures.cpu) c.cpu_mut.ensures.cpu was),
    )

pub keep_counts-requires-clause-few : goal.keep_counts-requires-clause-few
keep_counts-requires-clause-few g c =
    let v = c.args.cpus.now in let n = c.args.number in let x = c.cpu_mut.result.now in let y = c.poll_remove.new.self in
    let d = subst (λ r. CpuChanges g.R.Raise x (PollRemove r) y) c.in-Some.is c.poll_remove.ensures in
    subst (λ m. c.in-Some.receipt.sent ≤ m) (ap (λ (cpu : CpuView _). cpu.most)
    (one_cpu n x c.cpu.result.now v c.cpu_mut.ensures.cpu c.cpu.ensures) ∙ sym c.most-most.ensures)
    (ended_fits g.R.Raise c.args.id x y c.in-Some.receipt (c.law.ensures n x c.cpu_mut.ensures.cpu) d)

pub returns-in-Some-clause-did : goal.returns-in-Some-clause-did
returns-in-Some-clause-did g c last =
    let v = c.args.cpus.now in let n = c.args.number in let x = c.cpu_mut.result.now in let y = c.poll_remove.new.self in
    let d = subst (λ r. CpuChanges g.R.Raise x (PollRemove r) y) c.in-Some.is c.poll_remove.ensures in
    let o = c.requires.owns in (
      Some c.in-Some.receipt,
      (
        changed n _ x y v c.cpu_mut.ensures.cpu d,
        c.args.position,
        o.own,
        o.here,
        o.named,
        c.keep_counts.ensures o.own o.here,
        refl,
      ),
    )

pub returns-in-Some-clause-withdraws : goal.returns-in-Some-clause-withdraws
returns-in-Some-clause-withdraws g c =
    let v = c.args.cpus.now in let n = c.args.number in let x = c.cpu_mut.result.now in let y = c.poll_remove.new.self in
    let d = subst (λ r. CpuChanges g.R.Raise x (PollRemove r) y) c.in-Some.is c.poll_remove.ensures in
    let o = c.requires.owns in let law = c.law.ensures n x c.cpu_mut.ensures.cpu in
    let was = sym (removal_there v n x c.cpu_mut.ensures.cpu) ∙ c.requires.open_here in
    at_end v n c.args.id c.args.position x y c.cpu_mut.ensures.cpu
    (polled g.R.Raise c.args.id x y law (Some c.in-Some.receipt) was d)
    c.args.records.now.list o.own o.here c.keep_counts.new.records.list (summed (ended_on n o.own) (counts_of_receipt
    c.in-Some.receipt))
    (open_here g.R.Raise.view v n c.args.id x law c.cpu_mut.ensures.cpu was)
    (less_ended g.R.Raise c.args.id x y law c.in-Some.receipt was d).gone
    (subst (λ (e : Sent). e.sent + c.in-Some.receipt.sent ≤ x.most)
    (sym (o.fresh n (open_here g.R.Raise.view v n c.args.id x law c.cpu_mut.ensures.cpu was)))
    (let few = ended_fits g.R.Raise c.args.id x y c.in-Some.receipt law d in omega (arith, few)))
    (c.keep_counts.ensures o.own o.here)

pub returns-in_default-clause-did : goal.returns-in_default-clause-did
returns-in_default-clause-did g c last =
    let v = c.args.cpus.now in let n = c.args.number in let x = c.cpu_mut.result.now in let y = c.poll_remove.new.self in
    let d = subst (λ r. CpuChanges g.R.Raise x (PollRemove r) y)
    (is_none c.poll_remove.result c.in_default.not-Some) c.poll_remove.ensures in
    (None, (changed n _ x y v c.cpu_mut.ensures.cpu d, refl, refl))

pub returns-in_default-clause-withdraws : goal.returns-in_default-clause-withdraws
returns-in_default-clause-withdraws g c =
    let v = c.args.cpus.now in let n = c.args.number in let x = c.cpu_mut.result.now in let y = c.poll_remove.new.self in
    let d = subst (λ r. CpuChanges g.R.Raise x (PollRemove r) y)
    (is_none c.poll_remove.result c.in_default.not-Some) c.poll_remove.ensures in
    let o = c.requires.owns in let law = c.law.ensures n x c.cpu_mut.ensures.cpu in
    let was = sym (removal_there v n x c.cpu_mut.ensures.cpu) ∙ c.requires.open_here in
    at_open v n c.args.id c.args.position x y c.cpu_mut.ensures.cpu
    (polled g.R.Raise c.args.id x y law None was d)
    c.args.records.now.list o.own o.here c.args.records.now.list refl
