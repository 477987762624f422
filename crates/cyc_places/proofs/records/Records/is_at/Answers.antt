use Rattle.std.proofs.Common.{◌≡◌, ◌≢◌, ◌∙◌, ◌<◌, length, map, get_or, sym, ap, subst, arith}
use Rattle.std.proofs.lemmas.Bool.{OnTrue_from, OnFalse_from, eqb-true, eq-eqb}
use Rattle.std.proofs.lemmas.List.{length-map, get_or_default}
use Rattle.std.proofs.lemmas.Option.{slice_get_within, same_Some}
use Rattle.cyc_finder.specs.Sorted.{IsAt}
use Rattle.cyc_places.specs.declared.record.Record.{Record}
use Rattle.cyc_places.specs.Places.{RecordsView, IsRecord}
use Rattle.cyc_places.proofs.Edits.{value, id_in, id_of, read, found_record}
use Rattle.cyc_places.proofs.records.Records.is_at.Goals as goal

module _ (c : goal.After-number-then-position-len) where
  low : c.args.position < length c.self.inside.ids.items
  low = let n = c.self.inside.ids.ok.0 in let len = c.len.ensures in let less = c.if-position-len.true in omega (
    arith,
    n,
    len,
    less,
  )

  number_is : c.number.result ≡ (get_or c.self.inside.ids.items c.args.position c.index.result.now).id
  number_is = c.number.ensures.value ∙ ap id_of c.index.ensures

pub returns-then-position-len-clause-there : goal.returns-then-position-len-clause-there
returns-then-position-len-clause-there c =
    let kept = c.self.inside.list.items in let id = c.args.id in let k = c.args.position in let ids = c.self.inside.ids.items in
    OnTrue_from _ _ (λ e. subst (λ (v : RecordsView). (r : Record) × IsRecord v.list k r × (r.id ≡ id)) c.self.view_is
    (found_record kept id k (subst (λ xs. IsAt id_of xs id k) c.self.invariant.4 (record {
      in_range = low c;
      has_id = λ d. ap id_of (get_or_default ids k d c.index.result.now (low c)) ∙ sym (number_is c) ∙ eqb-true _ _ e
          ∙ c.number-then-position-len.ensures.value;
    }))))

pub returns-then-position-len-clause-elsewhere : goal.returns-then-position-len-clause-elsewhere
returns-then-position-len-clause-elsewhere c =
    let kept = c.self.inside.list.items in let id = c.args.id in let k = c.args.position in let d = c.index.result.now in
    OnFalse_from _ ((r : Record) → IsRecord c.args.self.now.list k r → r.id ≢ id) (λ e r is named.
    let (q, at, same) = read kept k d (subst (λ xs. k < length xs) c.self.invariant.4 (low c)) in
    let one = same_Some r q (sym (subst (λ (v : RecordsView). IsRecord v.list k r) (sym c.self.view_is) is) ∙ at) in
    let equal = number_is c ∙ ap (λ xs. (get_or xs k d).id) c.self.invariant.4 ∙ sym same ∙ ap (λ (x : Record). x.id) (sym one)
    ∙ named ∙ sym c.number-then-position-len.ensures.value in
    let yes = eq-eqb _ _ equal in cc)

pub returns-else-position-len-clause-elsewhere : goal.returns-else-position-len-clause-elsewhere
returns-else-position-len-clause-elsewhere c =
    let kept = c.self.inside.list.items in let k = c.args.position in
    OnFalse_from _ ((r : Record) → IsRecord c.args.self.now.list k r → r.id ≢ c.args.id) (λ e r is named.
    let low = slice_get_within (map value kept) k r (subst (λ (v : RecordsView). IsRecord v.list k r) (sym c.self.view_is) is) in
    let l = length-map kept value in let m = length-map kept id_in in let same = ap length c.self.invariant.4 in
    let n = c.self.inside.ids.ok.0 in let len = c.len.ensures in let past = c.if-position-len.false in
    absurd (omega (arith, l, m, same, n, len, past, low)))
