use Rattle.cyc_system_model.proofs.CpuAnswering.{answers}
use Rattle.cyc_system_model.proofs.cpu_laws.answers_law.Goals as goal

pub returns : goal.returns
returns g c = λ n online call s t before in_time goes does.
    answers g.C.Calls n online call s t before in_time goes does
