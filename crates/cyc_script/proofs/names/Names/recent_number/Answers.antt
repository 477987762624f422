use Rattle.std.proofs.Common.{◌≡◌, ◌<◌, [], get_or, length, map, string_bytes, Some, ap, sym, subst, ◌∙◌, arith}
use Rattle.std.proofs.lemmas.List.{get_or-map, length-map}
use Rattle.std.proofs.lemmas.Slice.Eq.{bytes_eq-Decides}
use Rattle.cyc_script.specs.Names.{number_of_name}
use Rattle.cyc_script.proofs.names.Names.recent_number.Goals as goal

pub returns-then-eq : goal.returns-then-eq
returns-then-eq c =
    let texts = c.self.inside.texts.items in
    let i = get_or c.self.inside.recent c.place_of.result 0 in
    let below : i < length texts = grind arith in
    let same : c.as_str.result.now ≡ c.args.text.now = (bytes_eq-Decides c.as_str.result.now c.args.text.now).0 (grind arith) in
    let read : get_or (map string_bytes texts) i [] ≡ c.args.text.now =
    get_or-map string_bytes texts i c.index.result.now [] below ∙ ap string_bytes (sym c.index.ensures)
    ∙ sym c.as_str.ensures.value ∙ same in
    let own = c.self.invariant.1 i (rw (length-map texts string_bytes) below) in
    rw (← c.self.view_is) (subst (λ text. number_of_name text (map string_bytes texts) ≡ Some i) read own)
