use Rattle.cyc_system_model.proofs.SystemRunning.{fire_accepted, fire_refused, fire_suspended}
use Rattle.cyc_system_model.proofs.fire_law.Goals as goal

pub returns-clause-accepted : goal.returns-clause-accepted
returns-clause-accepted g c = λ n fired m s t sys h did. fire_accepted g.C.Calls m s t sys h n fired did

pub returns-clause-refused : goal.returns-clause-refused
returns-clause-refused g c = λ n now e answer m s t sys h is did. fire_refused g.C.Calls m s t sys h n now e answer is did

pub returns-clause-suspended : goal.returns-clause-suspended
returns-clause-suspended g c = λ n now answer m s t sys h none on did.
    fire_suspended g.C.Calls m s t sys h n now answer none on did
