use Rattle.std.proofs.Common.{◌≡◌, ◌∙◌, ◌<◌, length, map, set, sym, ap, subst}
use Rattle.std.specs.Box.{with_value}
use Rattle.std.proofs.lemmas.List.{map-set}
use Rattle.std.proofs.lemmas.Option.{same_Some}
use Rattle.cyc_places.specs.declared.record.Record.{Record}
use Rattle.cyc_places.specs.Places.{RecordsView, IsRecord, AreCounts, with_placement}
use Rattle.cyc_places.proofs.Edits.{value, at_position, box_rises, box_counts, box_all, box_ids}
use Rattle.cyc_places.proofs.records.Records.set_placement.Goals as goal

pub invariant_of-self : goal.invariant_of-self
invariant_of-self c =
    let kept = c.self.inside.list.items in let x = c.index_mut.result.now in let d = c.deref_mut.result.now in
    let e = c.deref_mut.ensures.value in
    let y = with_value x (with_placement c.args.there d) in
    let low = subst (λ (v : RecordsView). c.args.position < length v.list) (sym c.self.view_is) c.requires in
    let at = at_position kept c.args.position x low c.index_mut.ensures.value in
    let same = ap (λ (r : Record). r.id) e in
    let fit = subst (λ (r : Record). AreCounts r.ended) (sym e) (c.self.invariant.1 c.args.position x.value at) in
    let long = ap (λ (r : Record). length r.ended) e ∙ c.self.invariant.2 c.args.position x.value at in (
      box_rises kept c.args.position x y at same c.self.invariant.0,
      box_counts kept c.args.position x y at same fit c.self.invariant.1,
      box_all kept c.args.position x y at same long c.self.invariant.2,
      c.self.invariant.3,
      box_ids kept c.args.position x y at same c.self.inside.ids.items c.self.invariant.4,
      c.self.invariant.5,
    )

pub returns : goal.returns
returns c r is =
    let kept = c.self.inside.list.items in let x = c.index_mut.result.now in let d = c.deref_mut.result.now in
    let low = subst (λ (v : RecordsView). c.args.position < length v.list) (sym c.self.view_is) c.requires in
    let at = at_position kept c.args.position x low c.index_mut.ensures.value in
    let it : d ≡ r = c.deref_mut.ensures.value
    ∙ same_Some x.value r (sym at ∙ subst (λ (v : RecordsView). IsRecord v.list c.args.position r) (sym c.self.view_is) is) in
    map-set value kept c.args.position (with_value x (with_placement c.args.there d))
    ∙ ap (λ (q : Record). set (map value kept) c.args.position (with_placement c.args.there q)) it
    ∙ ap (λ (v : RecordsView). set v.list c.args.position (with_placement c.args.there r)) c.self.view_is
