use Rattle.std.proofs.Common.{◌≡◌, ◌≤◌, ◌-◌, [], sym, subst, arith}
use Rattle.cyc_types.specs.Limits.{last_id}
use Rattle.cyc_agreement.specs.Cpus.{new_cpus}
use Rattle.cyc_agreement.specs.System.{SystemView}
use Rattle.cyc_agreement.specs.Holding.{Holds}
use Rattle.cyc_agreement.proofs.Holding.{holds_new}
use Rattle.cyc_system.proofs.system.System.new.Goals as goal

pub invariant_of-result : goal.invariant_of-result
invariant_of-result g c =
    let v = c.number.ensures.valid in let low : c.number.result - 1 ≤ last_id = omega (arith, v) in
    let e : record { cpus = new_cpus c.args.most c.args.ends.items; records = []; last = c.number.result - 1 }
    ≡ record { cpus = c.in_ok-cpus.cpus; records = c.new-records.result.list; last = c.number.result - 1 } =
    λ i. record { cpus = sym c.in_ok-cpus.ensures.ok i; records = sym c.new-records.ensures i; last = c.number.result - 1 } in (
      subst (λ (x : SystemView _). Holds x) e
          (holds_new c.args.most (c.number.result - 1) c.args.ends.items c.requires.some c.requires.few),
      low,
    )
