use Rattle.std.proofs.Common.{rules, ◌≡◌, Err, inr, sym}
use Rattle.cyc_script.specs.Words.{reprogram_with}
use Rattle.cyc_script.proofs.Forms.{first_fails, reference_fails}
use Rattle.cyc_script.proofs.words.reprogram_with.Goals as goal

pub returns-in_err-text : goal.returns-in_err-text
unfolding reprogram_with
returns-in_err-text c =
    let same : c.from_residual.result ≡ Err c.in_err-text.field-0.0 = search rules in
    rw (same) (first_fails _ _ c.args.context.now c.in_err-text.field-0.0 c.in_err-text.ensures)

pub returns-in_err-moment : goal.returns-in_err-moment
unfolding reprogram_with
returns-in_err-moment c =
    let same : c.from_residual-in_err-moment.result ≡ Err c.in_err-moment.field-0.0 = search rules in
    rw (same, c.in_ok-text.ensures)
    (first_fails _ _ c.args.context.now c.in_err-moment.field-0.0 (inr (sym c.in_err-moment.ensures)))

pub returns-in_err-cpu : goal.returns-in_err-cpu
unfolding reprogram_with
returns-in_err-cpu c =
    let same : c.from_residual-in_err-cpu.result ≡ Err c.in_err-cpu.field-0.0 = search rules in
    rw (same, c.in_ok-text.ensures, ← c.in_ok-moment.ensures)
    (first_fails _ _ c.args.context.now c.in_err-cpu.field-0.0 (inr (sym c.in_err-cpu.ensures)))

pub returns-in_err-name : goal.returns-in_err-name
unfolding reprogram_with
returns-in_err-name c =
    let same : c.from_residual-in_err-name.result ≡ Err c.in_err-name.field-0.0 = search rules in
    rw (same, c.in_ok-text.ensures, ← c.in_ok-moment.ensures, ← c.in_ok-cpu.ensures)
    (reference_fails _ _ c.args.context.now c.in_err-name.field-0.0 c.in_err-name.ensures)

pub returns : goal.returns
unfolding reprogram_with
returns c =
    rw (c.in_ok-text.ensures, ← c.in_ok-moment.ensures, ← c.in_ok-cpu.ensures, ← c.in_ok-name.ensures) (search rules)
