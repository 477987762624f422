use Rattle.std.proofs.Common.{◌≡◌, ◌∙◌, ◌<◌, ◌≤◌, length, map, set, sym, ap, subst, arith}
use Rattle.std.specs.Box.{with_value}
use Rattle.std.proofs.lemmas.List.{map-set, length-set}
use Rattle.std.proofs.lemmas.Option.{same_Some}
use Rattle.cyc_types.specs.Counting.{no_counts}
use Rattle.cyc_places.specs.declared.record.Record.{Record}
use Rattle.cyc_places.specs.Places.{RecordsView, IsRecord, AreCounts, with_ended, ended_on, summed}
use Rattle.cyc_places.proofs.Edits.{value, at_position, counts_set, box_rises, box_counts, box_all, box_ids}
use Rattle.cyc_places.proofs.records.Records.add_ended.Goals as goal

pub invariant_of-self : goal.invariant_of-self
invariant_of-self c =
    let kept = c.self.inside.list.items in let x = c.index_mut-record.result.now in let d = c.deref_mut.result.now in
    let e = c.deref_mut.ensures.value in
    let low = subst (λ (v : RecordsView). c.args.position < length v.list) (sym c.self.view_is) c.requires.here in
    let at = at_position kept c.args.position x low c.index_mut-record.ensures.value in
    let g = c.deref.ensures in
    let more = summed (ended_on c.args.cpu c.deref.result.now) c.args.counts in
    let y = with_value x (with_ended c.args.cpu more d) in
    let same = ap (λ (r : Record). r.id) e in
    let was = c.self.invariant.1 c.args.position x.value at in
    let all = c.self.invariant.2 c.args.position x.value at in
    let fit = subst (λ (r : Record). AreCounts r.ended) (sym e) was in
    let long = ap (λ (r : Record). length r.ended) e ∙ all in
    let old : (ended_on c.args.cpu c.deref.result.now).lost ≤ (ended_on c.args.cpu c.deref.result.now).sent
    = subst (λ (r : Record). (ended_on c.args.cpu r).lost ≤ (ended_on c.args.cpu r).sent) (sym g)
    (was c.args.cpu no_counts (let n = c.requires.cpu in omega (arith, n, all))) in
    let counted = c.requires.counted in
    let fits = counts_set d.ended c.args.cpu more (omega (arith, old, counted)) fit in (
      box_rises kept c.args.position x y at same c.self.invariant.0,
      box_counts kept c.args.position x y at same fits c.self.invariant.1,
      box_all kept c.args.position x y at same (length-set d.ended c.args.cpu more ∙ long) c.self.invariant.2,
      c.self.invariant.3,
      box_ids kept c.args.position x y at same c.self.inside.ids.items c.self.invariant.4,
      c.self.invariant.5,
    )

pub returns : goal.returns
returns c r is =
    let kept = c.self.inside.list.items in let x = c.index_mut-record.result.now in let d = c.deref_mut.result.now in
    let e = c.deref_mut.ensures.value in
    let low = subst (λ (v : RecordsView). c.args.position < length v.list) (sym c.self.view_is) c.requires.here in
    let at = at_position kept c.args.position x low c.index_mut-record.ensures.value in
    let here = subst (λ (v : RecordsView). IsRecord v.list c.args.position r) (sym c.self.view_is) is in
    let was : x.value ≡ r = same_Some x.value r (sym at ∙ here) in
    let more = λ (q : Record). summed (ended_on c.args.cpu q) c.args.counts in
    map-set value kept c.args.position (with_value x (with_ended c.args.cpu (more c.deref.result.now) d))
    ∙ ap (λ (q : Record). set (map value kept) c.args.position (with_ended c.args.cpu (more c.deref.result.now) q)) (e ∙ was)
    ∙ ap (λ (q : Record). set (map value kept) c.args.position (with_ended c.args.cpu (more q) r)) (c.deref.ensures ∙ was)
    ∙ ap (λ (v : RecordsView). set v.list c.args.position (with_ended c.args.cpu (more r) r)) c.self.view_is
