use Rattle.std.proofs.Common.{◌≡◌, Some, sym, subst}
use Rattle.std.specs.Prelude.{IfNone}
use Rattle.cyc_types.specs.declared.refusal.Refusal.TheVariants.{NoCyclic}
use Rattle.cyc_agreement.specs.System.{SystemView}
use Rattle.cyc_agreement.specs.Refusals.{no_cyclic}
use Rattle.cyc_agreement.proofs.Spots.{seen}
use Rattle.cyc_agreement.proofs.Recording.{record_none}
use Rattle.cyc_agreement.proofs.Presence.{is_absent}
use Rattle.cyc_system.proofs.system.System.present.Goals as goal

pub returns-in_err-position-clause-none : goal.returns-in_err-position-clause-none
returns-in_err-position-clause-none g c =
    subst (λ o. IfNone o (no_cyclic c.args.id c.args.self.now ≡ Some NoCyclic)) (sym c.from_residual.ensures)
    (subst (λ (s : SystemView _). no_cyclic c.args.id s ≡ Some NoCyclic) c.self.view_is
    (is_absent (seen c.self.inside.cpus c.self.inside.records.list c.self.inside.last) c.args.id
    (record_none c.args.id c.self.inside.records.list c.in_err-position.ensures.none)))
