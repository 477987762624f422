use Rattle.std.proofs.Common.{◌≡◌, ◌&&◌, sym, subst}
use Rattle.cyc_agreement.specs.System.{SystemView, has, is_omnipresent}
use Rattle.cyc_agreement.specs.Refusals.{IsPresent}
use Rattle.cyc_agreement.proofs.Spots.{seen}
use Rattle.cyc_agreement.proofs.Who.{same_changed, same_reprogram}
use Rattle.cyc_agreement.proofs.Holding.{holds_same}
use Rattle.cyc_agreement.proofs.Presence.{cyclic_here, not_leaving, component_has}
use Rattle.cyc_system.proofs.system.System.reprogram_on.Goals as goal

pub reprogram_at-requires-clause-here : goal.reprogram_at-requires-clause-here
reprogram_at-requires-clause-here g c cpu at =
    let s = seen c.self.inside.cpus c.self.inside.records.list c.self.inside.last in
    let b = subst (λ (x : SystemView _). c.has_component.result ≡ (is_omnipresent c.args.id x && has c.args.cpu c.args.id x.cpus))
    (sym c.self.view_is) c.has_component.ensures in
    cyclic_here c.self.inside.cpus c.args.cpu c.args.id cpu
    (component_has s c.args.id c.args.cpu c.has_component.result b c.if-not-has_component.false) at

pub reprogram_at-requires-clause-still : goal.reprogram_at-requires-clause-still
reprogram_at-requires-clause-still g c cpu at =
    let (r, p) = c.in-Some.ensures.some in
    let q = subst (λ (x : SystemView _). IsPresent c.args.id c.in-Some.position r x) (sym c.self.view_is) p in
    not_leaving c.self.inside.cpus c.args.id q.still c.args.cpu cpu at

pub invariant_of-self : goal.invariant_of-self
invariant_of-self g c = (
  holds_same _ c.reprogram_at.new.cpus c.self.invariant.0
      (same_changed c.args.cpu _ c.self.inside.cpus c.reprogram_at.new.cpus c.reprogram_at.ensures
      (same_reprogram g.R.Raise c.reprogram_at.ensures.before c.reprogram_at.ensures.after c.args.id
      c.args.moment c.reprogram_at.ensures.change)),
  c.self.invariant.1,
)
