use Rattle.std.proofs.Common.{◌≡◌, Some, sym, ◌∙◌, subst}
use Rattle.std.proofs.lemmas.Bool.{OnTrue_from, OnFalse_from, not-true, not-false}
use Rattle.cyc_types.specs.declared.refusal.Refusal.TheVariants.{NoCyclic}
use Rattle.cyc_places.specs.declared.record.Record.{Record}
use Rattle.cyc_places.specs.Places.{IsRecord}
use Rattle.cyc_agreement.specs.System.{SystemView}
use Rattle.cyc_agreement.specs.Refusals.{no_cyclic, IsPresent}
use Rattle.cyc_agreement.proofs.Spots.{seen}
use Rattle.cyc_agreement.proofs.Recording.{record_here}
use Rattle.cyc_agreement.proofs.Presence.{is_removed}
use Rattle.cyc_system.proofs.system.System.stays.Goals as goal

pub returns-clause-stays : goal.returns-clause-stays
returns-clause-stays g c =
    let (r, at, named) = c.requires in
    let is = subst (λ (s : SystemView _). IsRecord s.records c.args.position r) (sym c.self.view_is) at in
    OnTrue_from _ _ (λ e. subst (λ (s : SystemView _). (r : Record) × IsPresent c.args.id c.args.position r s) c.self.view_is (
      r,
      record {
        here = is;
        named = named;
        known = record_here c.args.id c.args.position r c.self.inside.records.list c.law.ensures.rising is named;
        still = sym c.is_leaving.ensures ∙ not-true _ e;
      },
    ))

pub returns-clause-leaves : goal.returns-clause-leaves
returns-clause-leaves g c =
    OnFalse_from _ _ (λ e. subst (λ (s : SystemView _). no_cyclic c.args.id s ≡ Some NoCyclic) c.self.view_is
    (is_removed (seen c.self.inside.cpus c.self.inside.records.list c.self.inside.last) c.args.id
    (sym c.is_leaving.ensures ∙ not-false _ e)))
