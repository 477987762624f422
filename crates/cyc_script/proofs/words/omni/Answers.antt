use Rattle.std.proofs.Common.{rules, ◌≡◌, Err, inr, sym}
use Rattle.cyc_script.proofs.Forms.{at, omni_is, omnis, first_fails, five_parts, name_fails}
use Rattle.cyc_script.proofs.words.omni.Goals as goal

pub returns-in_err-text : goal.returns-in_err-text
returns-in_err-text c =
    let five = five_parts c.args.parts.now c.in-len5.len_at_least c.in-len5.len_below in
    let same : c.from_residual.result ≡ Err c.in_err-text.field-0.0 = search rules in
    rw (same, five, omni_is)
    (first_fails _ (omnis (at c.args.parts.now 4)) c.args.context.now c.in_err-text.field-0.0 c.in_err-text.ensures)

pub returns-in_err-skew : goal.returns-in_err-skew
returns-in_err-skew c =
    let five = five_parts c.args.parts.now c.in-len5.len_at_least c.in-len5.len_below in
    let same : c.from_residual-in_err-skew.result ≡ Err c.in_err-skew.field-0.0 = search rules in
    rw (same, five, omni_is, c.in_ok-text.ensures)
    (first_fails _ _ c.args.context.now c.in_err-skew.field-0.0 (inr (sym c.in_err-skew.ensures)))

pub returns-in_err-name : goal.returns-in_err-name
returns-in_err-name c =
    let five = five_parts c.args.parts.now c.in-len5.len_at_least c.in-len5.len_below in
    let same : c.from_residual-in_err-name.result ≡ Err c.in_err-name.field-0.0 = search rules in
    rw (same, five, omni_is, c.in_ok-text.ensures, ← c.in_ok-skew.ensures)
    (name_fails c.in_ok-text.text.now _ c.args.context.now c.in_err-name.field-0.0 c.in_err-name.ensures)

pub returns : goal.returns
returns c =
    let five = five_parts c.args.parts.now c.in-len5.len_at_least c.in-len5.len_below in
    rw (five, omni_is, c.in_ok-text.ensures, ← c.in_ok-skew.ensures, c.in_ok-name.ensures) (search rules)
