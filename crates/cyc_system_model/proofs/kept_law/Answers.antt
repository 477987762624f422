use Rattle.cyc_system_model.proofs.Keeping.{kept, most_kept, room_kept}
use Rattle.cyc_system_model.proofs.Suspensions.{suspended_kept}
use Rattle.cyc_system_model.proofs.kept_law.Goals as goal

pub returns-clause-system : goal.returns-clause-system
returns-clause-system g c = λ call s t did sys agrees. kept g.C.Calls call s t did sys agrees

pub returns-clause-most : goal.returns-clause-most
returns-clause-most g c = λ call s t did sys. most_kept g.C.Calls call s t did sys

pub returns-clause-room : goal.returns-clause-room
returns-clause-room g c = λ call s t did sys. room_kept g.C.Calls call s t did sys

pub returns-clause-suspended : goal.returns-clause-suspended
returns-clause-suspended g c = λ call s t did plain. suspended_kept g.C.Calls call s t did plain
