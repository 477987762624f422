use Rattle.std.proofs.Common.{◌≡◌, ◌&&◌, sym, ◌∙◌, subst}
use Rattle.cyc_agreement.specs.System.{SystemView, has, is_omnipresent}
use Rattle.cyc_agreement.specs.Refusals.{IsPresent}
use Rattle.cyc_agreement.proofs.Spots.{seen}
use Rattle.cyc_agreement.proofs.Presence.{has_is, component_is}
use Rattle.cyc_system.proofs.system.System.has_component.Goals as goal

pub returns : goal.returns
returns g c =
    let (r, p) = c.requires.present in
    let s = seen c.self.inside.cpus c.self.inside.records.list c.self.inside.last in
    let q = subst (λ (x : SystemView _). IsPresent c.args.id c.args.position r x) (sym c.self.view_is) p in
    subst (λ (x : SystemView _). c.has.result ≡ (is_omnipresent c.args.id x && has c.args.cpu c.args.id x.cpus)) c.self.view_is
    (component_is s c.args.id c.args.position c.args.cpu r c.at.result.now q c.at.ensures c.has.result (sym
    c.is_everywhere.ensures
    ∙ c.if-not-is_everywhere.false)
    (has_is c.self.inside.cpus c.args.cpu c.args.id c.cpu.result.now c.has.result c.cpu.ensures c.has.ensures.here
    c.has.ensures.none))
