use Rattle.cyc_system_model.proofs.Law.{is_here}
use Rattle.cyc_system_model.proofs.Tied.{rises}
use Rattle.cyc_system_model.proofs.cpu_laws.here_law.Goals as goal

pub returns : goal.returns
returns g c = λ n online call s t h goes does.
    is_here g.C.Calls n online call s t h.rising
    (rises g.C.Calls call s t goes does h.rising) goes does
