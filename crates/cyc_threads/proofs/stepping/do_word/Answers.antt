use Rattle.cyc_words.specs.Doing.{word_state}
use Rattle.cyc_threads.proofs.Worded.{word_done}
use Rattle.cyc_threads.proofs.stepping.do_word.Goals as goal

pub returns-in-Remove : goal.returns-in-Remove
returns-in-Remove g c = word_done g.C.Calls g.R.Raise c.args.word.now c.args.progress.now c.take_word-answer.result
    (word_state c.take_word-answer.new.system c.take_word-answer.new.names) c.requires c.take_word-answer.ensures

pub returns-in_default : goal.returns-in_default
returns-in_default g c = word_done g.C.Calls g.R.Raise c.args.word.now c.args.progress.now c.take_word-answer.result
    (word_state c.take_word-answer.new.system c.take_word-answer.new.names) c.requires c.take_word-answer.ensures
