use Rattle.cyc_thread_calls.proofs.Counted.{named_line, line_few}
use Rattle.cyc_thread_calls.proofs.Worded.{word_called, word_elsewhere, none_called}
use Rattle.cyc_thread_calls.proofs.Spared.{line_spared}
use Rattle.cyc_thread_calls.proofs.naming.named_law.Goals as goal

pub returns-clause-line : goal.returns-clause-line
returns-clause-line g c script calls e text r name low =
    named_line g.C.Calls script calls e text r name low

pub returns-clause-few : goal.returns-clause-few
returns-clause-few g c script calls e text r name line at =
    line_few g.C.Calls script calls e text r name line at

pub returns-clause-spared : goal.returns-clause-spared
returns-clause-spared g c script calls e text r name line at few =
    line_spared g.C.Calls script calls e text r name line at few

pub returns-clause-called : goal.returns-clause-called
returns-clause-called g c script calls e text r name id level line at given known =
    word_called g.C.Calls script calls e text r name id level line at given known

pub returns-clause-elsewhere : goal.returns-clause-elsewhere
returns-clause-elsewhere g c script calls e text r name id level other given named ne =
    word_elsewhere g.C.Calls script calls e text r name id level other given named ne

pub returns-clause-ungiven : goal.returns-clause-ungiven
returns-clause-ungiven g c script calls e text r id level nobody =
    none_called g.C.Calls script calls e text r id level nobody
