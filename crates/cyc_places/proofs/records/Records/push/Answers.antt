use Rattle.std.proofs.Common.{ℕ, IsSome, ◌≡◌, ◌<◌, ◌++◌, ◌∷◌, [], map, sym, ap, ◌∙◌, subst, length, get_or}
use Rattle.std.specs.Box.{with_value}
use Rattle.std.proofs.lemmas.List.{map_push}
use Rattle.cyc_places.specs.declared.record.Record.{Record}
use Rattle.cyc_places.specs.Places.{RecordsView, HasRisingIds, HaveCounts, HaveAllCounts, new_record}
use Rattle.cyc_places.proofs.Counts.{rises_pushed, counts_pushed, all_pushed}
use Rattle.cyc_places.proofs.Edits.{value, id_in}
use Rattle.cyc_places.proofs.records.Records.push.Goals as goal

pub invariant_of-self : goal.invariant_of-self
invariant_of-self c =
    let new = new_record c.args.id c.args.level c.args.placement in
    let rs = map value c.self.inside.list.items in
    let items : map value c.push_back_reserved.new.self.items ≡ rs ++ new ∷ []
    = ap (map value) c.push_back_reserved.ensures.items
    ∙ map_push value c.self.inside.list.items (with_value c.in-Some.kept new) in
    let last = subst (λ (v : RecordsView). (k : ℕ) (d : Record) → k < length v.list → (get_or v.list k d).id < c.args.id)
    (sym c.self.view_is) c.requires.last in (
      subst HasRisingIds (sym items) (rises_pushed rs c.args.id c.args.level c.args.placement last c.self.invariant.0),
      subst HaveCounts (sym items) (counts_pushed rs c.args.id c.args.level c.args.placement last c.self.invariant.1),
      subst HaveAllCounts (sym items) (all_pushed rs c.args.id c.args.level c.args.placement last c.self.invariant.2),
      λ there. absurd (let h = subst IsSome c.take.ensures.after there in cc),
      c.push_back_reserved-2.ensures.items ∙ ap (λ ids. ids ++ record { id = c.args.id } ∷ []) c.self.invariant.4
          ∙ sym (ap (map id_in) c.push_back_reserved.ensures.items
          ∙ map_push id_in c.self.inside.list.items (with_value c.in-Some.kept new)),
      λ there. absurd (let h = subst IsSome c.take.ensures.after there in cc),
    )
