use Rattle.std.proofs.Common.{◌≡◌, ◌∙◌, map, get_or, sym, ap, subst, arith}
use Rattle.std.proofs.lemmas.List.{length-map}
use Rattle.std.proofs.lemmas.Option.{slice_get_within, same_Some}
use Rattle.cyc_places.specs.declared.record.Record.{Record}
use Rattle.cyc_places.specs.Places.{RecordsView, IsRecord}
use Rattle.cyc_places.proofs.Edits.{value, id_in, id_of, read}
use Rattle.cyc_places.proofs.records.Records.soon.Goals as goal

pub returns-clause-none : goal.returns-clause-none
returns-clause-none c first r at_first low at_r named =
    let kept = c.self.inside.list.items in let id = c.args.id in let d = c.in-Some.first.now in
    let at = subst (λ (v : RecordsView). IsRecord v.list 0 first) (sym c.self.view_is) at_first in
    let there : d ≡ get_or c.self.inside.ids.items 0 d = c.in-Some.ensures.item.1 in
    let l = length-map kept value in let m = length-map kept id_in in
    let (q, here, same) = read kept 0 d (let w = slice_get_within (map value kept) 0 first at in omega (arith, l, m, w)) in
    let one = same_Some first q (sym at ∙ here) in
    let above = subst (λ xs. get_or xs 0 d ≡ d) c.self.invariant.4 (sym there) in
    let e : first.id ≡ d.id = ap (λ (x : Record). x.id) one ∙ same ∙ ap id_of above in
    let n = c.number.ensures.value in let f = c.number-2.ensures.value in let fits = c.number.ensures.valid.1 in
    c.if-is_at.ensures.elsewhere r
    (subst (λ k. IsRecord c.args.self.now.list k r) (omega (arith, e, n, f, low, fits)) at_r) named
