use Rattle.std.proofs.Common.{◌≡◌, ◌∙◌, ◌<◌, length, map, set, sym, ap, subst, arith}
use Rattle.std.specs.Box.{with_value}
use Rattle.std.proofs.lemmas.List.{map-set, length-set}
use Rattle.std.proofs.lemmas.Option.{same_Some}
use Rattle.cyc_types.specs.Counting.{no_counts}
use Rattle.cyc_places.specs.declared.record.Record.{Record}
use Rattle.cyc_places.specs.Places.{RecordsView, IsRecord, AreCounts, with_ended, ended_on}
use Rattle.cyc_places.proofs.Edits.{value, at_position, counts_set, box_rises, box_counts, box_all, box_ids}
use Rattle.cyc_places.proofs.records.Records.take_ended.Goals as goal

pub invariant_of-self : goal.invariant_of-self
invariant_of-self c =
    let kept = c.self.inside.list.items in let x = c.index_mut-record.result.now in let d = c.deref_mut.result.now in
    let e = c.deref_mut.ensures.value in
    let low = subst (λ (v : RecordsView). c.args.position < length v.list) (sym c.self.view_is) c.requires.here in
    let at = at_position kept c.args.position x low c.index_mut-record.ensures.value in
    let y = with_value x (with_ended c.args.cpu no_counts d) in
    let same = ap (λ (r : Record). r.id) e in
    let fit = subst (λ (r : Record). AreCounts r.ended) (sym e) (c.self.invariant.1 c.args.position x.value at) in
    let long = ap (λ (r : Record). length r.ended) e ∙ c.self.invariant.2 c.args.position x.value at in (
      box_rises kept c.args.position x y at same c.self.invariant.0,
      box_counts kept c.args.position x y at same (counts_set d.ended c.args.cpu no_counts (omega arith) fit) c.self.invariant.1,
      box_all kept c.args.position x y at same (length-set d.ended c.args.cpu no_counts ∙ long) c.self.invariant.2,
      c.self.invariant.3,
      box_ids kept c.args.position x y at same c.self.inside.ids.items c.self.invariant.4,
      c.self.invariant.5,
    )

pub returns-clause-counts : goal.returns-clause-counts
returns-clause-counts c r is =
    let kept = c.self.inside.list.items in let x = c.index_mut-record.result.now in
    let low = subst (λ (v : RecordsView). c.args.position < length v.list) (sym c.self.view_is) c.requires.here in
    let at = at_position kept c.args.position x low c.index_mut-record.ensures.value in
    ap (ended_on c.args.cpu) (c.deref.ensures
    ∙ same_Some x.value r (sym at ∙ subst (λ (v : RecordsView). IsRecord v.list c.args.position r) (sym c.self.view_is) is))

pub returns-clause-list : goal.returns-clause-list
returns-clause-list c r is =
    let kept = c.self.inside.list.items in let x = c.index_mut-record.result.now in let d = c.deref_mut.result.now in
    let e = c.deref_mut.ensures.value in
    let low = subst (λ (v : RecordsView). c.args.position < length v.list) (sym c.self.view_is) c.requires.here in
    let at = at_position kept c.args.position x low c.index_mut-record.ensures.value in
    let here = subst (λ (v : RecordsView). IsRecord v.list c.args.position r) (sym c.self.view_is) is in
    let it : d ≡ r = e ∙ same_Some x.value r (sym at ∙ here) in
    map-set value kept c.args.position (with_value x (with_ended c.args.cpu no_counts d))
    ∙ ap (λ (q : Record). set (map value kept) c.args.position (with_ended c.args.cpu no_counts q)) it
    ∙ ap (λ (v : RecordsView). set v.list c.args.position (with_ended c.args.cpu no_counts r)) c.self.view_is
