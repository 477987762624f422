use Rattle.std.proofs.Common.{rules, ◌≡◌, Err}
use Rattle.cyc_script.proofs.Forms.{add_is, adds, first_fails, four_parts, name_fails}
use Rattle.cyc_script.proofs.words.add.Goals as goal

pub returns-in_err-text : goal.returns-in_err-text
returns-in_err-text c =
    let four = four_parts c.args.parts.now c.in-len4.len_at_least c.in-len4.len_below in
    let same : c.from_residual.result ≡ Err c.in_err-text.field-0.0 = search rules in
    rw (same, four, add_is)
    (first_fails _ adds c.args.context.now c.in_err-text.field-0.0 c.in_err-text.ensures)

pub returns-in_err-name : goal.returns-in_err-name
returns-in_err-name c =
    let four = four_parts c.args.parts.now c.in-len4.len_at_least c.in-len4.len_below in
    let same : c.from_residual-in_err-name.result ≡ Err c.in_err-name.field-0.0 = search rules in
    rw (same, four, add_is, c.in_ok-text.ensures)
    (name_fails c.in_ok-text.text.now _ c.args.context.now c.in_err-name.field-0.0 c.in_err-name.ensures)

pub returns : goal.returns
returns c =
    let four = four_parts c.args.parts.now c.in-len4.len_at_least c.in-len4.len_below in
    rw (four, add_is, c.in_ok-text.ensures, c.in_ok-name.ensures) (search rules)
