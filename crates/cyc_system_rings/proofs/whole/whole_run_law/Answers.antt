use Rattle.cyc_system_rings.proofs.WholeRun.{whole_run, empty_new}
use Rattle.cyc_system_rings.proofs.whole.whole_run_law.Goals as goal

pub returns-clause-expired : goal.returns-clause-expired
returns-clause-expired g c id s t way run sound ready early empty =
    whole_run g.C.Calls id s t way run sound ready early empty

pub returns-clause-begins : goal.returns-clause-begins
returns-clause-begins g c most ends s cpus records = empty_new most ends s cpus records
