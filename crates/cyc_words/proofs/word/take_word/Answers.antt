use Rattle.std.proofs.Common.{sym, subst}
use Rattle.cyc_script.specs.declared.step.Step.{Step}
use Rattle.cyc_words.specs.Doing.{DoesWord, word_state}
use Rattle.cyc_words.proofs.word.take_word.Goals as goal

pub returns-in-Reprogram : goal.returns-in-Reprogram
returns-in-Reprogram g c =
    subst (λ (x : Step). DoesWord g.R.Raise c.args.clock x c.reprogram.result (word_state c.args.system.now c.args.names.now)
    (word_state c.reprogram.new.system c.args.names.now)) (sym c.in-Reprogram.is) (c.reprogram.ensures c.args.clock)

pub returns-in-Remove : goal.returns-in-Remove
returns-in-Remove g c =
    subst (λ (x : Step). DoesWord g.R.Raise c.args.clock x c.remove.result (word_state c.args.system.now c.args.names.now)
    (word_state c.remove.new.system c.remove.new.names)) (sym c.in-Remove.is) (c.remove.ensures c.args.clock)
