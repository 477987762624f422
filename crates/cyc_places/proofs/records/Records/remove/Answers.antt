use Rattle.std.proofs.Common.{Option, Some, None, OnSome, IsSome, ◌≡◌, ◌∙◌, ◌<◌, length, map, sym, ap, subst, arith}
use Rattle.std.specs.List.{remove}
use Rattle.std.proofs.lemmas.List.{length-map}
use Rattle.cyc_places.specs.Places.{RecordsView, HasRisingIds, HaveCounts, HaveAllCounts}
use Rattle.cyc_places.proofs.Edits.{value, id_in, map_removed, rises_removed, counts_removed, all_removed}
use Rattle.cyc_places.proofs.records.Records.remove.Goals as goal

on_some : {X : Type 0} (o : Option X) (P : Type 0) → IsSome o → OnSome o P → P
on_some (Some x) P there is = is
on_some None P there is = absurd (let h = there in cc)

module _ (c : goal.After-remove-2) where
  there : IsSome c.remove.result
  there =
      let low = subst (λ (v : RecordsView). c.args.position < length v.list) (sym c.self.view_is) c.requires in
      let l = length-map c.self.inside.list.items value in let n = c.self.inside.list.ok.0 in
      c.remove.ensures.variant.1 (omega (arith, l, n, low))

  gone : c.remove.new.self.items ≡ remove c.self.inside.list.items c.args.position
  gone = on_some c.remove.result _ there c.remove.ensures.items

  there_too : IsSome c.remove-2.result
  there_too =
      let low = subst (λ (v : RecordsView). c.args.position < length v.list) (sym c.self.view_is) c.requires in
      let l = length-map c.self.inside.list.items value in let m = length-map c.self.inside.list.items id_in in
      let same = ap length c.self.invariant.4 in let n = c.self.inside.ids.ok.0 in
      c.remove-2.ensures.variant.1 (omega (arith, l, m, n, same, low))

  removed : map value c.remove.new.self.items ≡ remove (map value c.self.inside.list.items) c.args.position
  removed = ap (map value) gone ∙ map_removed value c.self.inside.list.items c.args.position

pub invariant_of-self : goal.invariant_of-self
invariant_of-self c =
    let rs = map value c.self.inside.list.items in let e = removed c in
    let len = on_some c.remove.result _ (there c) c.remove.ensures.len in
    let cap = c.remove.ensures.capacity in let small = c.self.inside.list.small.1 in
    let less = on_some c.remove-2.result _ (there_too c) c.remove-2.ensures.len in
    let room = c.remove-2.ensures.capacity in let tight = c.self.inside.ids.small.1 in (
      subst HasRisingIds (sym e) (rises_removed rs c.args.position c.self.invariant.0),
      subst HaveCounts (sym e) (counts_removed rs c.args.position c.self.invariant.1),
      subst HaveAllCounts (sym e) (all_removed rs c.args.position c.self.invariant.2),
      λ _. omega (arith, len, cap, small),
      on_some c.remove-2.result _ (there_too c) c.remove-2.ensures.items
          ∙ ap (λ ids. remove ids c.args.position) c.self.invariant.4
          ∙ sym (ap (map id_in) (gone c) ∙ map_removed id_in c.self.inside.list.items c.args.position),
      λ _. omega (arith, less, room, tight),
    )

pub returns : goal.returns
returns c = removed c ∙ ap (λ (v : RecordsView). remove v.list c.args.position) c.self.view_is
