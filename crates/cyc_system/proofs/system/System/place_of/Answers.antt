use Rattle.std.proofs.Common.{Some, sym, ap, ◌∙◌}
use Rattle.std.specs.Option.{option_map}
use Rattle.std.proofs.lemmas.Option.{slice_get_within}
use Rattle.cyc_places.specs.declared.record.Record.{Record}
use Rattle.cyc_agreement.specs.System.{SystemView}
use Rattle.cyc_system.specs.Asking.{place_of, whereabouts}
use Rattle.cyc_agreement.proofs.Recording.{record_read, record_none}
use Rattle.cyc_system.proofs.system.System.place_of.Goals as goal

pub returns-in_err-position : goal.returns-in_err-position
returns-in_err-position g c = c.from_residual.ensures ∙ sym (ap (λ (s : SystemView _). place_of c.args.id s) (sym c.self.view_is)
    ∙ ap (λ o. option_map (λ (r : Record). whereabouts r.placement) o)
    (record_none c.args.id c.self.inside.records.list c.in_err-position.ensures.none))

pub at-requires : goal.at-requires
at-requires g c = let (r, is, named) = c.in_ok-position.ensures.some in
    slice_get_within c.self.inside.records.list c.in_ok-position.position r is

pub returns-in-On : goal.returns-in-On
returns-in-On g c =
    let read = record_read c.args.id c.in_ok-position.position c.at.result.now c.self.inside.records.list c.law.ensures.rising
    c.in_ok-position.ensures.some c.at.ensures in
    sym (ap (λ (s : SystemView _). place_of c.args.id s) (sym c.self.view_is)
    ∙ ap (λ o. option_map (λ (r : Record). whereabouts r.placement) o) read.1 ∙ ap (λ p. Some (whereabouts p)) c.in-On.is)

pub returns-in-Everywhere : goal.returns-in-Everywhere
returns-in-Everywhere g c =
    let read = record_read c.args.id c.in_ok-position.position c.at.result.now c.self.inside.records.list c.law.ensures.rising
    c.in_ok-position.ensures.some c.at.ensures in
    sym (ap (λ (s : SystemView _). place_of c.args.id s) (sym c.self.view_is)
    ∙ ap (λ o. option_map (λ (r : Record). whereabouts r.placement) o) read.1 ∙ ap (λ p. Some (whereabouts p)) c.in-Everywhere.is)
