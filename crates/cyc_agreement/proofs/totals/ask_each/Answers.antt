use Rattle.std.proofs.Common.{◌+◌, sym, ap, ◌∙◌, subst, arith}
use Rattle.cyc_cpu.specs.Calls.{CpuChanges, AskTotals}
use Rattle.cyc_agreement.specs.Cpus.{with_cpu}
use Rattle.cyc_agreement.proofs.Holding.{holds_same}
use Rattle.cyc_agreement.specs.declared.totals.SystemTotals.{SystemTotals}
use Rattle.cyc_agreement.specs.Withdrawing.{system}
use Rattle.cyc_agreement.proofs.Asking.{Asked, asked_one, asked_none, asked_all}
use Rattle.cyc_agreement.proofs.totals.ask_each.Goals as goal
use Rattle.cyc_agreement.proofs.totals.ask_each.Goals.{in-Some, in_default}

pub loop-number-preserved : goal.loop-number-preserved
loop-number-preserved g c =
    let v = c.args.cpus.now in let u = c.loop-number.cpus in let n = c.loop-number.number in let x = c.cpu_mut.result.now in
    let y = c.totals.new.self in
    elim c.match-totals.branch [
      | in-Some w ↦ (let e = ap (λ (t : SystemTotals). t.expired) w.sum-is in let l = ap (λ (t : SystemTotals). t.lost) w.sum-is
          in let p = ap (λ (t : SystemTotals). t.pending) w.sum-is in
          let k = asked_one g.R.Raise c.args.id n c.loop-number.sum.expired c.loop-number.sum.lost
          c.loop-number.sum.pending v u c.loop-number.invariant.asked
          x y c.cpu_mut.ensures.cpu w.in-Some.part
          (subst (λ r. CpuChanges g.R.Raise x (AskTotals c.args.id r) y) w.in-Some.is c.totals.ensures) in
          record {
            expired = omega arith;
            lost = omega arith;
            pending = omega arith;
            asked = subst (λ i. Asked g.R.Raise c.args.id
                (n + 1) i c.match-totals.sum.lost c.match-totals.sum.pending v (with_cpu u n y))
                (sym (e ∙ ap (λ i. c.loop-number.sum.expired + i) w.from.ensures))
                (subst (λ i. Asked g.R.Raise c.args.id (n + 1)
                (c.loop-number.sum.expired + w.in-Some.part.expired) i c.match-totals.sum.pending v (with_cpu u n y))
                (sym (l ∙ ap (λ i. c.loop-number.sum.lost + i) w.from-in-Some.ensures))
                (subst (λ i. Asked g.R.Raise c.args.id (n + 1)
                (c.loop-number.sum.expired + w.in-Some.part.expired) (c.loop-number.sum.lost + w.in-Some.part.lost) i v
                (with_cpu u n y))
                (sym (p ∙ ap (λ i. c.loop-number.sum.pending + i) w.from-in-Some-2.ensures)) k));
          })
      | in_default w ↦ (let e = ap (λ (t : SystemTotals). t.expired) w.sum-is in let l =
          ap (λ (t : SystemTotals). t.lost) w.sum-is in let p = ap (λ (t : SystemTotals). t.pending) w.sum-is in
          let k = asked_none g.R.Raise c.args.id n c.loop-number.sum.expired c.loop-number.sum.lost
          c.loop-number.sum.pending v u c.loop-number.invariant.asked
          x y c.cpu_mut.ensures.cpu (subst (λ r. CpuChanges g.R.Raise x (AskTotals c.args.id r) y)
          w.in_default.is c.totals.ensures) in record {
            expired = omega arith;
            lost = omega arith;
            pending = omega arith;
            asked = subst (λ (t : SystemTotals). Asked g.R.Raise c.args.id
                (n + 1) t.expired t.lost t.pending v (with_cpu u n y)) (sym w.sum-is) k;
          })
    ]

pub returns-clause-did : goal.returns-clause-did
returns-clause-did g c =
    let k = c.loop-number.invariant.asked in (
      k.way,
      asked_all g.R.Raise c.args.id c.loop-number.number c.loop-number.sum.expired c.loop-number.sum.lost
          c.loop-number.sum.pending c.args.cpus.now c.loop-number.cpus k
          (let e = c.count-number-end.ensures.count in let l = k.same.long in omega arith),
      k.works,
      record { expired = k.expired_is; lost = k.lost_is; pending = k.pending_is },
    )

pub returns-clause-holds : goal.returns-clause-holds
returns-clause-holds g c records last h =
    holds_same (system c.args.cpus.now records last) c.loop-number.cpus h c.loop-number.invariant.asked.same
