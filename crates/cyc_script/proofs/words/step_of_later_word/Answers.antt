use Rattle.cyc_script.specs.Words.{later_form_of}
use Rattle.cyc_script.proofs.Forms.{last_form, nameless_read}
use Rattle.cyc_script.proofs.words.step_of_later_word.Goals as goal

pub returns-in-reprogram : goal.returns-in-reprogram
unfolding later_form_of
returns-in-reprogram c = rw c.in-reprogram.is c.reprogram.ensures

pub returns-in-remove : goal.returns-in-remove
unfolding later_form_of
returns-in-remove c = rw c.in-remove.is c.remove.ensures

pub returns-in-advance : goal.returns-in-advance
unfolding later_form_of
returns-in-advance c = rw c.in-advance.is c.advance.ensures

pub returns-in-softint : goal.returns-in-softint
unfolding later_form_of
returns-in-softint c = rw c.in-softint.is c.softint.ensures

pub returns-in_default : goal.returns-in_default
returns-in_default c =
    let d = c.in_default in
    rw (last_form c.args.word.now _ d.not-reprogram d.not-remove d.not-advance d.not-softint)
    (nameless_read c.args.context.now c.step_of_last_word.result _ c.step_of_last_word.ensures)
