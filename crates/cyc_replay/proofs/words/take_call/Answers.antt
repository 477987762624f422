use Rattle.std.proofs.Common.{map, string_bytes}
use Rattle.cyc_replay.proofs.Taking.{on_ok}
use Rattle.cyc_replay.proofs.Worded.{takes_word}
use Rattle.cyc_replay.proofs.words.take_call.Goals as goal

pub returns-clause-takes : goal.returns-clause-takes
returns-clause-takes c = on_ok _ _ _ c.write_word.result
    (λ line other s r named h. takes_word (map string_bytes c.args.names.now) c.args.step s c.args.machine.now
    c.do_word-answer.new.machine r h c.do_word-answer.ensures.clock c.do_word-answer.ensures.tally
    c.do_word-answer.result _ other c.args.word.now named c.do_word-answer.ensures.did c.do_word-answer.ensures.named line)
    c.write_word.ensures.line c.write_word.ensures.other
