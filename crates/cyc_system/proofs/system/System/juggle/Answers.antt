use Rattle.std.proofs.Common.{subst}
use Rattle.cyc_agreement.specs.System.{SystemView}
use Rattle.cyc_agreement.proofs.Spots.{seen}
use Rattle.cyc_system.specs.Juggling.{Juggles}
use Rattle.cyc_system.proofs.Left.{holds_juggled}
use Rattle.cyc_system.proofs.system.System.juggle.Goals as goal

pub invariant_of-self : goal.invariant_of-self
invariant_of-self g c =
    let s = seen c.self.inside.cpus c.self.inside.records.list c.self.inside.last in
    let t = seen c.juggle-answer.new.cpus c.juggle-answer.new.records.list c.self.inside.last in (
      holds_juggled g.R.Raise c.args.cpu c.juggle-answer.result s t
          (c.juggle-answer.ensures.did c.self.inside.last) c.self.invariant.0
          (c.juggle-answer.ensures.agrees c.self.inside.last c.self.invariant.0.agrees) c.law-2.ensures.rising
          c.law-4.ensures.rising c.law.ensures c.law-3.ensures,
      c.self.invariant.1,
    )

pub returns : goal.returns
returns g c =
    let t = seen c.juggle-answer.new.cpus c.juggle-answer.new.records.list c.self.inside.last in
    subst (λ (x : SystemView _). Juggles g.R.Raise c.args.cpu c.juggle-answer.result x t) c.self.view_is
    (c.juggle-answer.ensures.did c.self.inside.last)
