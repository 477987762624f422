use Rattle.std.proofs.Common.{◌∙◌, sym, ap, subst, length, arith}
use Rattle.cyc_agreement.specs.Holding.{Holds}
use Rattle.cyc_agreement.specs.System.{SystemView}
use Rattle.cyc_agreement.proofs.Holding.{holds_same}
use Rattle.cyc_agreement.proofs.Spots.{seen}
use Rattle.cyc_system.specs.Splitting.{AllComeBack}
use Rattle.cyc_system.proofs.Returned.{each_long, same_back}
use Rattle.cyc_system.proofs.splitting.Desk.unite.Goals as goal

pub from_parts-cpus-requires-clause-few : goal.from_parts-cpus-requires-clause-few
from_parts-cpus-requires-clause-few g c =
    let back = subst (λ (x : SystemView _). AllComeBack g.R.Raise.view x.cpus.cpus c.args.hards.items)
    (sym c.self.view_is) c.requires in
    let l = each_long _ c.self.inside.left.value.cpus c.args.hards.items back in let f = c.self.invariant.0.agrees.few in
    omega (arith, l, f)

pub from_parts-cpus-requires-clause-as_many : goal.from_parts-cpus-requires-clause-as_many
from_parts-cpus-requires-clause-as_many g c =
    let back = subst (λ (x : SystemView _). AllComeBack g.R.Raise.view x.cpus.cpus c.args.hards.items)
    (sym c.self.view_is) c.requires in
    let l = each_long _ c.self.inside.left.value.cpus c.args.hards.items back in
    ap (λ o. length o) c.self.invariant.2 ∙ c.self.invariant.0.agrees.long ∙ sym l

pub invariant_of-result : goal.invariant_of-result
invariant_of-result g c =
    let back = subst (λ (x : SystemView _). AllComeBack g.R.Raise.view x.cpus.cpus c.args.hards.items)
    (sym c.self.view_is) c.requires in
    let s = seen c.self.inside.left.value c.self.inside.records.list c.self.inside.last in
    let done = holds_same s (record { cpus = c.args.hards.items; online = c.self.inside.left.value.online }) c.self.invariant.0
    (same_back g.R.Raise.view c.self.inside.left.value c.args.hards.items back) in (
      subst (λ v. Holds (seen v c.self.inside.records.list c.self.inside.last))
          (sym (c.from_parts-cpus.ensures ∙ ap (λ online. record { cpus = c.args.hards.items; online = online })
          c.self.invariant.2)) done,
      c.self.invariant.1,
    )
