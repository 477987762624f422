use Rattle.cyc_script.specs.Words.{form_of}
use Rattle.cyc_script.proofs.Forms.{later_form}
use Rattle.cyc_script.proofs.words.step_of_word.Goals as goal

pub returns-in-add : goal.returns-in-add
unfolding form_of
returns-in-add c = rw c.in-add.is c.add.ensures

pub returns-in-omni : goal.returns-in-omni
unfolding form_of
returns-in-omni c = rw c.in-omni.is c.omni.ensures

pub returns-in-bind : goal.returns-in-bind
unfolding form_of
returns-in-bind c = rw c.in-bind.is c.bind.ensures

pub returns-in-unbind : goal.returns-in-unbind
unfolding form_of
returns-in-unbind c = rw c.in-unbind.is c.unbind.ensures

pub returns-in_default : goal.returns-in_default
returns-in_default c =
    let d = c.in_default in
    rw (later_form c.args.word.now _ d.not-add d.not-omni d.not-bind d.not-unbind) c.step_of_later_word.ensures
