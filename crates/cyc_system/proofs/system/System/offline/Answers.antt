use Rattle.std.proofs.Common.{subst}
use Rattle.cyc_agreement.specs.System.{SystemView}
use Rattle.cyc_agreement.proofs.Spots.{seen}
use Rattle.cyc_system.specs.GoingOffline.{GoesOffline}
use Rattle.cyc_system.proofs.Left.{holds_offline}
use Rattle.cyc_system.proofs.system.System.offline.Goals as goal

pub invariant_of-self : goal.invariant_of-self
invariant_of-self g c =
    let s = seen c.self.inside.cpus c.self.inside.records.list c.self.inside.last in
    let t = seen c.offline-answer.new.cpus c.offline-answer.new.records.list c.self.inside.last in (
      holds_offline g.R.Raise c.args.cpu c.offline-answer.result s t
          (c.offline-answer.ensures.did c.self.inside.last) c.self.invariant.0
          (c.offline-answer.ensures.agrees c.self.inside.last c.self.invariant.0.agrees) c.law-2.ensures.rising
          c.law-4.ensures.rising c.law.ensures c.law-3.ensures,
      c.self.invariant.1,
    )

pub returns : goal.returns
returns g c =
    let t = seen c.offline-answer.new.cpus c.offline-answer.new.records.list c.self.inside.last in
    subst (λ (x : SystemView _). GoesOffline g.R.Raise c.args.cpu c.offline-answer.result x t) c.self.view_is
    (c.offline-answer.ensures.did c.self.inside.last)
