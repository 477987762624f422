use Rattle.cyc_thread_calls.proofs.Said.{calls_tell, unnamed_tells}
use Rattle.cyc_thread_calls.proofs.told.telling_law.Goals as goal

pub returns-clause-named : goal.returns-clause-named
returns-clause-named g c xs lines s t u names name id runs reports told good none is =
    calls_tell g.C.Calls g.R.Raise xs lines s t u names name id
    runs reports told good none is

pub returns-clause-unnamed : goal.returns-clause-unnamed
returns-clause-unnamed g c xs s t cpus name runs is =
    unnamed_tells g.C.Calls g.R.Raise xs s t cpus name runs is
