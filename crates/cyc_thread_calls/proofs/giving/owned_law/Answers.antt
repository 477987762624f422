use Rattle.std.specs.Prelude.{length}
use Rattle.cyc_ring.specs.Ends.{raise_end}
use Rattle.cyc_thread_calls.proofs.Names.{all_held}
use Rattle.cyc_thread_calls.proofs.Worded.{own_name}
use Rattle.cyc_thread_calls.proofs.giving.owned_law.Goals as goal

pub returns-clause-some : goal.returns-clause-some
returns-clause-some g c script calls e text r id level is =
    own_name g.C.Calls script calls e text r id level is

pub returns-clause-one : goal.returns-clause-one
returns-clause-one g c script calls e text r a b id is also =
    (all_held g.C.Calls raise_end (length script.names.items)
    r.played.first script.steps.items r.played.last r.played.runs r.played.begins.names_are).apart a b id is also
