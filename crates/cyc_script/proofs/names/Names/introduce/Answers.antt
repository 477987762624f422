use Rattle.std.proofs.Common.{rules, arith, ◌≡◌, [], ◌∷◌, ◌++◌, ◌-◌, length, map, take, false, refl, ap₂, ap, sym, subst, ◌∙◌}
use Rattle.std.specs.Prelude.{string_bytes, is_some}
use Rattle.std.proofs.Math.Seq.{take-append_seam}
use Rattle.std.proofs.lemmas.List.{map-append, length-map}
use Rattle.std.proofs.lemmas.Map.Text.{btree_map_updates_str}
use Rattle.cyc_script.specs.Names.{IsNumbered, number_of_name}
use Rattle.cyc_script.proofs.Numbers.{number_of_introduced, numbered_introduced}
use Rattle.cyc_script.proofs.names.Names.introduce.Goals as goal

pub invariant_of-self-in-Ok : goal.invariant_of-self-in-Ok
invariant_of-self-in-Ok c =
    let before = map string_bytes c.self.inside.texts.items in
    let text = c.args.text.now in
    let new : is_some (number_of_name text before) ≡ false = ap is_some (sym (c.self.invariant.0 text))
    ∙ sym c.contains_key.ensures
    ∙ c.if-contains_key.false in
    let pushed : map string_bytes c.push.new.self.items ≡ before ++ text ∷ [] = ap (map string_bytes) c.in_ok-push.ensures.items
    ∙ map-append string_bytes c.self.inside.texts.items _ ∙ ap (λ t. before ++ t ∷ []) c.in_ok-from_str.ensures.ok in
    let number : c.len-number.result ≡ length before = simp length-map (search rules) in (
      λ q. btree_map_updates_str text c.self.inside.numbers c.insert.new.self _ c.in-Ok.ensures.updates q
          ∙ rw (pushed, number_of_introduced q text before new, number, c.self.invariant.0 q) refl,
      subst IsNumbered (sym pushed) (numbered_introduced text before new c.self.invariant.1),
    )

pub invariant_of-self-in_err-push : goal.invariant_of-self-in_err-push
invariant_of-self-in_err-push c =
    let same : c.push.new.self.items ≡ c.self.inside.texts.items = search rules in (
      λ q. c.self.invariant.0 q ∙ ap (λ texts. number_of_name q (map string_bytes texts)) (sym same),
      subst (λ texts. IsNumbered (map string_bytes texts)) (sym same) c.self.invariant.1,
    )

pub invariant_of-self-in-Err : goal.invariant_of-self-in-Err
invariant_of-self-in-Err c =
    let texts = c.self.inside.texts.items in
    let count : c.push.new.self.len - 1 ≡ length texts = omega (arith, c.in_ok-push.ensures.len) in
    let same : c.pop.new.self.items ≡ texts = c.pop.ensures.rest
    ∙ ap₂ take count c.in_ok-push.ensures.items ∙ take-append_seam texts _ in
    (search rules, subst (λ texts. IsNumbered (map string_bytes texts)) (sym same) c.self.invariant.1)
