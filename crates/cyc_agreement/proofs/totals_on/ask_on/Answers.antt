use Rattle.std.proofs.Common.{◌≡◌, ◌+◌, [], ◌∷◌, refl, sym, ◌∙◌, subst, arith}
use Rattle.cyc_cpu.specs.Calls.{CpuChanges, AskTotals}
use Rattle.cyc_agreement.specs.Cpus.{with_cpu}
use Rattle.cyc_agreement.specs.Withdrawing.{system}
use Rattle.cyc_agreement.proofs.CpuSpots.{changed}
use Rattle.cyc_agreement.proofs.Shifts.{not_both}
use Rattle.cyc_agreement.proofs.Presence.{has_low, cyclic_here}
use Rattle.cyc_agreement.proofs.Who.{same_at, same_asked}
use Rattle.cyc_agreement.proofs.Holding.{holds_same}
use Rattle.cyc_agreement.proofs.Where.{alone}
use Rattle.cyc_agreement.proofs.totals_on.ask_on.Goals as goal

pub cpu_mut-requires : goal.cpu_mut-requires
cpu_mut-requires g c = has_low c.args.cpus.now c.args.number c.args.id c.requires.here

pub unreachable-requires : goal.unreachable-requires
unreachable-requires g c =
    let x = c.cpu_mut.result.now in let y = c.totals.new.self in
    let d = subst (λ r. CpuChanges g.R.Raise x (AskTotals c.args.id r) y) c.in_default.is c.totals.ensures in
    not_both c.args.id x.cyclics (cyclic_here c.args.cpus.now c.args.number c.args.id x c.requires.here c.cpu_mut.ensures.cpu) d.0

pub returns-clause-did : goal.returns-clause-did
returns-clause-did g c =
    let v = c.args.cpus.now in let n = c.args.number in let x = c.cpu_mut.result.now in let y = c.totals.new.self in
    let t = c.in-Some.part in
    let d = subst (λ r. CpuChanges g.R.Raise x (AskTotals c.args.id r) y) c.in-Some.is c.totals.ensures in (
      record { cpu = n; totals = t } ∷ [],
      sym (alone c.args.id v n c.requires.only c.requires.here),
      (with_cpu v n y, changed n _ x y v c.cpu_mut.ensures.cpu d, refl),
      record {
        expired = (let e : 0 + t.expired ≡ t.expired = omega arith in c.from.ensures ∙ sym e);
        lost = (let e : 0 + t.lost ≡ t.lost = omega arith in c.from-2.ensures ∙ sym e);
        pending = (let e : 0 + t.pending ≡ t.pending = omega arith in c.from-3.ensures ∙ sym e);
      },
    )

pub returns-clause-holds : goal.returns-clause-holds
returns-clause-holds g c records last h =
    let v = c.args.cpus.now in let n = c.args.number in let x = c.cpu_mut.result.now in let y = c.totals.new.self in
    let d = subst (λ r. CpuChanges g.R.Raise x (AskTotals c.args.id r) y) c.in-Some.is c.totals.ensures in
    holds_same (system v records last) (with_cpu v n y) h
    (same_at v n x y c.cpu_mut.ensures.cpu (same_asked g.R.Raise x y c.args.id c.in-Some.part.pending d.0))
