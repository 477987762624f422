use Rattle.std.proofs.Common.{◌≡◌, ◌<◌, length, sym, ap, ◌∙◌, subst, sum_by, arith}
use Rattle.std.proofs.lemmas.Option.{same_Some}
use Rattle.cyc_places.specs.declared.record.Record.{Record}
use Rattle.cyc_places.specs.Places.{RecordsView, IsRecord}
use Rattle.cyc_places.proofs.Counts.{lost_le}
use Rattle.cyc_places.proofs.Edits.{at_position}
use Rattle.cyc_places.proofs.records.Records.receipt.Goals as goal

pub invariant_of-result : goal.invariant_of-result
invariant_of-result c =
    let x = c.index-record.result.now in
    let low = subst (λ (v : RecordsView). c.args.position < length v.list) (sym c.self.view_is) c.requires in
    let at = at_position c.self.inside.list.items c.args.position x low c.index-record.ensures in
    let le = lost_le x.value.ended (c.self.invariant.1 c.args.position x.value at) in
    let a = c.ended_sent.ensures.value ∙ ap (λ (q : Record). sum_by (λ s. s.sent) q.ended) c.deref-2.ensures in
    let b = c.ended_lost.ensures.value ∙ ap (λ (q : Record). sum_by (λ s. s.lost) q.ended) c.deref-3.ensures in
    record { counted = omega (arith, le, a, b) }

pub returns : goal.returns
returns c r is =
    let x = c.index-record.result.now in
    let low = subst (λ (v : RecordsView). c.args.position < length v.list) (sym c.self.view_is) c.requires in
    let at = at_position c.self.inside.list.items c.args.position x low c.index-record.ensures in
    let here = subst (λ (v : RecordsView). IsRecord v.list c.args.position r) (sym c.self.view_is) is in
    let e : x.value ≡ r = same_Some x.value r (sym at ∙ here) in
    record {
      id = ap (λ (q : Record). q.id) (c.deref.ensures ∙ e);
      sent = c.ended_sent.ensures.value ∙ ap (λ (q : Record). sum_by (λ s. s.sent) q.ended) (c.deref-2.ensures ∙ e);
      lost = c.ended_lost.ensures.value ∙ ap (λ (q : Record). sum_by (λ s. s.lost) q.ended) (c.deref-3.ensures ∙ e);
    }
