use Rattle.std.proofs.Common.{◌<◌, refl, map, string_bytes, ap, sym, ◌∙◌, subst}
use Rattle.cyc_replay.specs.Machine.{id_at, name_at}
use Rattle.cyc_replay.proofs.Remembering.{text_named, text_nameless}
use Rattle.cyc_replay.proofs.Asked.{not_true}
use Rattle.cyc_replay.proofs.interrupting.text_of.Goals as goal

pub returns-then-has_id : goal.returns-then-has_id
returns-then-has_id c = λ s h.
    let m = c.args.machine.now in let name = c.name_of-name.result in
    c.name_text.ensures ∙ sym (text_named s m c.args.id name (map string_bytes c.args.names.now) h (c.if-has_id.ensures.0 refl))

pub returns : goal.returns
returns c = λ s h.
    let m = c.args.machine.now in let name = c.name_of-name.result in let id = c.args.id in
    let same = c.name_of-name.ensures ∙ ap (λ xs. name_at xs id) c.deref.ensures.value in
    sym (text_nameless s m id (map string_bytes c.args.names.now) h
    (subst (λ k. 0 < k) c.number-number.ensures.value c.number-number.ensures.valid.0)
    (λ at. not_true (c.if-has_id.ensures.1 (ap (id_at m.names) same ∙ at))))
