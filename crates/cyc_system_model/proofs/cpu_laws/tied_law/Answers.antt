use Rattle.cyc_system_model.proofs.Tied.{lawful_tied}
use Rattle.cyc_system_model.proofs.Stopping.{tied_always}
use Rattle.cyc_system_model.proofs.cpu_laws.tied_law.Goals as goal

pub returns-clause-lawful : goal.returns-clause-lawful
returns-clause-lawful g c = lawful_tied

pub returns-clause-kept : goal.returns-clause-kept
returns-clause-kept g c = λ call s t does h. tied_always g.C.Calls call s t does h
