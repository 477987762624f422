use Rattle.std.proofs.Common.{◌∷◌, [], Ok, Err, Some, None, inl, inr, refl, sym, subst}
use Rattle.cyc_types.specs.declared.refusal.Refusal.TheVariants.{Omnipresent}
use Rattle.cyc_agreement.specs.System.{SystemView}
use Rattle.cyc_agreement.specs.Refusals.{IsPresent, omnipresent}
use Rattle.cyc_system.specs.Calls.{Changes, Reprogram}
use Rattle.cyc_agreement.proofs.Spots.{seen}
use Rattle.cyc_agreement.proofs.Who.{same_changed, same_reprogram}
use Rattle.cyc_agreement.proofs.Holding.{holds_same}
use Rattle.cyc_agreement.proofs.Presence.{has_low, cyclic_here, not_leaving, present_clear, single_clear, omni_refused, at_home}
use Rattle.cyc_agreement.proofs.Presence.{home_is}
use Rattle.cyc_agreement.proofs.FirstReason.{passes, stops}
use Rattle.cyc_system.proofs.system.System.reprogram_found.Goals as goal

pub reprogram_at-requires-clause-number : goal.reprogram_at-requires-clause-number
reprogram_at-requires-clause-number g c =
    let (r, p) = c.if-not-stays.ensures.stays in
    let s = seen c.self.inside.cpus c.self.inside.records.list c.self.inside.last in
    let q = subst (λ (x : SystemView _). IsPresent c.args.id c.args.position r x) (sym c.self.view_is) p in
    has_low c.self.inside.cpus c.in-On.cpu c.args.id
    (at_home s c.self.invariant.0.agrees c.args.id c.args.position r c.at.result.now q c.at.ensures c.in-On.cpu c.in-On.bound
    c.in-On.is)

pub reprogram_at-requires-clause-here : goal.reprogram_at-requires-clause-here
reprogram_at-requires-clause-here g c cpu at =
    let (r, p) = c.if-not-stays.ensures.stays in
    let s = seen c.self.inside.cpus c.self.inside.records.list c.self.inside.last in
    let q = subst (λ (x : SystemView _). IsPresent c.args.id c.args.position r x) (sym c.self.view_is) p in
    cyclic_here c.self.inside.cpus c.in-On.cpu c.args.id cpu
    (at_home s c.self.invariant.0.agrees c.args.id c.args.position r c.at.result.now q c.at.ensures c.in-On.cpu c.in-On.bound
    c.in-On.is) at

pub reprogram_at-requires-clause-still : goal.reprogram_at-requires-clause-still
reprogram_at-requires-clause-still g c cpu at =
    let (r, p) = c.if-not-stays.ensures.stays in
    let q = subst (λ (x : SystemView _). IsPresent c.args.id c.args.position r x) (sym c.self.view_is) p in
    not_leaving c.self.inside.cpus c.args.id q.still c.in-On.cpu cpu at

pub invariant_of-self : goal.invariant_of-self
invariant_of-self g c = (
  holds_same _ c.reprogram_at.new.cpus c.self.invariant.0
      (same_changed c.in-On.cpu _ c.self.inside.cpus c.reprogram_at.new.cpus c.reprogram_at.ensures
      (same_reprogram g.R.Raise c.reprogram_at.ensures.before c.reprogram_at.ensures.after c.args.id
      c.args.moment c.reprogram_at.ensures.change)),
  c.self.invariant.1,
)

pub returns-in-On : goal.returns-in-On
returns-in-On g c =
    let (r, p) = c.if-not-stays.ensures.stays in
    let s = seen c.self.inside.cpus c.self.inside.records.list c.self.inside.last in
    let t = seen c.reprogram_at.new.cpus c.self.inside.records.list c.self.inside.last in
    let q = subst (λ (x : SystemView _). IsPresent c.args.id c.args.position r x) (sym c.self.view_is) p in
    let a = c.self.invariant.0.agrees in let k = c.args.position in let now = c.at.result.now in
    subst (λ (x : SystemView _). Changes g.R.Raise x (Reprogram c.args.id c.args.moment (Ok tt)) t)
    c.self.view_is
    (inr (
      passes _ (omnipresent c.args.id s ∷ []) None (present_clear s a c.args.id k r now q c.at.ensures)
          (passes _ [] None (single_clear s a c.args.id k r now q c.at.ensures c.in-On.cpu c.in-On.bound c.in-On.is) refl),
      (
        c.in-On.cpu,
        (c.in-On.bound, home_is s a c.args.id k r now q c.at.ensures c.in-On.cpu c.in-On.bound c.in-On.is),
        (refl, ((c.reprogram_at.new.cpus, c.reprogram_at.ensures, refl), refl, refl)),
      ),
    ))

pub returns-in-Everywhere : goal.returns-in-Everywhere
returns-in-Everywhere g c =
    let (r, p) = c.if-not-stays.ensures.stays in
    let s = seen c.self.inside.cpus c.self.inside.records.list c.self.inside.last in
    let q = subst (λ (x : SystemView _). IsPresent c.args.id c.args.position r x) (sym c.self.view_is) p in
    let a = c.self.invariant.0.agrees in let k = c.args.position in let now = c.at.result.now in
    subst (λ (x : SystemView _). Changes g.R.Raise x (Reprogram c.args.id c.args.moment (Err Omnipresent)) x)
    c.self.view_is
    (inl (
      Omnipresent,
      passes _ (omnipresent c.args.id s ∷ []) (Some Omnipresent) (present_clear s a c.args.id k r now q c.at.ensures)
          (stops _ [] Omnipresent (omni_refused s a c.args.id k r now q c.at.ensures c.in-Everywhere.when c.in-Everywhere.skew
          c.in-Everywhere.is)),
      refl,
      refl,
    ))
